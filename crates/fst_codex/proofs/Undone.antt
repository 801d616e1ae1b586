-- Decoding what encoding gave is the machine that went in.
use Rattle.std.proofs.Common.{◌≡◌, ℕ, zero, suc, Bool, true, false, List, [], ◌∷◌, Some, Result, Ok, Err, length, map, slice_get, refl, sym, ap, ap₂, subst, ◌∙◌, arith}
use Rattle.std.specs.List.{All, AllZip}
use Rattle.std.specs.Option.{option_map}
use Rattle.std.proofs.lemmas.Option.{slice_get_within, slice_get-get_or}
use Rattle.fst_semiring.specs.Cost.{Cost}
use Rattle.fst_semiring.specs.declared.arc_type.ArcType.{ArcType}
use Rattle.fst_semiring.specs.Semiring.{InRange}
use Rattle.fst_semiring.proofs.Laws.{one_times}
use Rattle.fst_machine.specs.Machine.{Arc, Machine, State, valued, valued_arc, valued_state}
use Rattle.fst_machine.proofs.Arcs.{at_mapped, mapped_some}
use Rattle.fst_trim.specs.FirstArcs.{HasTwoLabels, Meets}
use Rattle.fst_codex.specs.declared.decoding.DecodeFault.{DecodeFault}
use Rattle.fst_codex.specs.declared.decoding.DecodeFault.TheVariants.{NotAcceptor, NotInCodex, Overflow, Memory}
use Rattle.fst_codex.specs.Table.{Table}
use Rattle.fst_codex.specs.Encoded.{IsEncoded, IsEncodedArc, IsEncodedState, entry_of, left_weight, taken_weight}
use Rattle.fst_codex.specs.Decoded.{Decodes, GivesBack, IsOutside, PassesRange, decoded, decoded_arc, decoded_state, entry_at, joined_weight, with_entry}

some_is : {X : Type 0} (x y : X) → Some x ≡ Some y → x ≡ y
some_is x y e = cc

-- the weight that stays times the one that was taken
joined_back : (kind : ArcType) (weights : Bool) (w : Cost) → joined_weight kind weights (left_weight kind weights w) (taken_weight kind weights w) ≡ w
joined_back kind true w = one_times kind w
joined_back kind false w = refl

-- what stands beside an element of the second list
beside : {A B : Type 0} (R : A → B → Type 0) (xs : List A) (ys : List B) (k : ℕ) (y : B) → AllZip R xs ys → slice_get ys k ≡ Some y → (x : A) × (slice_get xs k ≡ Some x) × R x y
beside R [] [] k y h e = absurd (cc)
beside R [] (z ∷ ys) k y h e = absurd h
beside R (x ∷ xs) [] k y h e = absurd h
beside R (x ∷ xs) (z ∷ ys) zero y h e = (x, refl, subst (R x) (some_is z y e) h.0)
beside R (x ∷ xs) (z ∷ ys) (suc k) y h e = beside R xs ys k y h.1 e

-- what holds of each element holds of the one in a place
holds_at : {X : Type 0} (P : X → Type 0) (xs : List X) (k : ℕ) (x : X) → All P xs → slice_get xs k ≡ Some x → P x
holds_at P xs k x all e =
    let low = slice_get_within xs k x e in
    subst P (some_is _ _ (sym (slice_get-get_or xs k x low) ∙ e)) (all k x low)

module _ (kind : ArcType) (weights : Bool) (t : Table Cost) (flag : t.weights ≡ weights) where
  arc_back : (a c : Arc Cost ℕ) → IsEncodedArc kind weights t.entries a c → decoded_arc kind t c ≡ a
  arc_back a c h =
      let number : c.ilabel ≡ suc h.place = omega (arith, h.ilabel) in
      let found : entry_at t.entries c.ilabel ≡ Some (entry_of kind weights a) = ap (entry_at t.entries) number ∙ h.there in
      let weight : joined_weight kind t.weights c.weight (taken_weight kind weights a.weight) ≡ a.weight =
      ap (λ (b : Bool). joined_weight kind b c.weight (taken_weight kind weights a.weight)) flag ∙ (ap (λ (w : Cost). joined_weight kind weights w (taken_weight kind weights a.weight)) h.weight ∙ joined_back kind weights a.weight) in
      ap (with_entry kind t.weights c) found ∙ (λ i. record { ilabel = a.ilabel; olabel = a.olabel; weight = weight i; next = h.next i })

  arcs_back : (arcs out : List (Arc Cost ℕ)) → AllZip (IsEncodedArc kind weights t.entries) arcs out → map (decoded_arc kind t) out ≡ arcs
  arcs_back [] [] h = refl
  arcs_back [] (c ∷ out) h = absurd h
  arcs_back (a ∷ arcs) [] h = absurd h
  arcs_back (a ∷ arcs) (c ∷ out) h = ap₂ (◌∷◌) (arc_back a c h.0) (arcs_back arcs out h.1)

  state_back : (s u : State Cost) → IsEncodedState kind weights t.entries s u → decoded_state kind t u ≡ s
  state_back s u h = λ i. record { final = h.final i; arcs = arcs_back s.arcs u.arcs h.arcs i }

  states_back : (states out : List (State Cost)) → AllZip (IsEncodedState kind weights t.entries) states out → map (decoded_state kind t) out ≡ states
  states_back [] [] h = refl
  states_back [] (u ∷ out) h = absurd h
  states_back (s ∷ states) [] h = absurd h
  states_back (s ∷ states) (u ∷ out) h = ap₂ (◌∷◌) (state_back s u h.0) (states_back states out h.1)

module _ {V : Type 0} (kind : ArcType) (weights : Bool) (value : V → Cost) (m : Machine Cost) (c : Machine V) (t : Table Cost) (h : IsEncoded kind weights m (valued value c) t) where
  -- an arc of the encoded machine stands for one of the machine
  pub record Origin (state place : ℕ) (a : Arc V ℕ) : Type 0 where
    pub source : State Cost
    pub arc : Arc Cost ℕ
    pub at : slice_get m.states state ≡ Some source
    pub there : slice_get source.arcs place ≡ Some arc
    pub encoded : IsEncodedArc kind weights t.entries arc (valued_arc value a)

  origin : (state place : ℕ) (arcs : List (Arc V ℕ)) (a : Arc V ℕ) → option_map (λ s. s.arcs) (slice_get c.states state) ≡ Some arcs → slice_get arcs place ≡ Some a → Origin state place a
  origin state place arcs a has there =
      let s = mapped_some (λ (s : State V). s.arcs) (slice_get c.states state) arcs has in
      let from = beside (IsEncodedState kind weights t.entries) m.states (map (valued_state value) c.states) state (valued_state value s.0) h.states (at_mapped (valued_state value) c.states state s.0 s.1) in
      let own : slice_get (s.0).arcs place ≡ Some a = ap (λ (xs : List (Arc V ℕ)). slice_get xs place) s.2 ∙ there in
      let arc = beside (IsEncodedArc kind weights t.entries) (from.0).arcs (map (valued_arc value) (s.0).arcs) place (valued_arc value a) (from.2).arcs (at_mapped (valued_arc value) (s.0).arcs place a own) in
      record { source = from.0; arc = arc.0; at = from.1; there = arc.1; encoded = arc.2 }

  -- no arc has two labels
  one_label : (state place : ℕ) → Meets HasTwoLabels c state place → ⊥
  one_label state place met =
      let o = origin state place met.arcs met.holds.arc met.has met.holds.there in
      met.holds.differ (o.encoded.ilabel ∙ sym o.encoded.olabel)

  -- each label has an entry
  has_entry : (state place : ℕ) → Meets (IsOutside (length t.entries)) c state place → ⊥
  has_entry state place met =
      let o = origin state place met.arcs met.holds.arc met.has met.holds.there in
      let low = slice_get_within t.entries o.encoded.place (entry_of kind weights o.arc) o.encoded.there in
      omega (arith, low, o.encoded.ilabel, met.holds.past)

  -- no weight passes the range
  is_small : All (λ s. All (λ a. InRange a.weight) s.arcs) m.states → (state place : ℕ) → Meets (PassesRange kind value t) c state place → ⊥
  is_small range state place met =
      let o = origin state place met.arcs met.holds.arc met.has met.holds.there in
      let arcs = holds_at (λ (s : State Cost). All (λ a. InRange a.weight) s.arcs) m.states state o.source range o.at in
      let small = holds_at (λ (a : Arc Cost ℕ). InRange a.weight) o.source.arcs place o.arc arcs o.there in
      met.holds.past (subst (λ (a : Arc Cost ℕ). InRange a.weight) (sym (arc_back kind weights t h.flag o.arc (valued_arc value met.holds.arc) o.encoded)) small)

  decoded_back : decoded kind t (valued value c) ≡ m
  decoded_back = λ i. record { start = h.start i; states = states_back kind weights t h.flag m.states (map (valued_state value) c.states) h.states i }

  -- whatever decoding gives, it is the machine, or memory ran out
  pub gives_back : All (λ s. All (λ a. InRange a.weight) s.arcs) m.states → (back : Result (Machine Cost) DecodeFault) → Decodes kind value c t back → GivesBack m back
  gives_back range (Ok d) says = says.3 ∙ decoded_back
  gives_back range (Err (NotAcceptor state place)) says = one_label state place says.0
  gives_back range (Err (NotInCodex label)) says = has_entry says.1.state says.1.place says.2.0
  gives_back range (Err (Overflow state)) says = is_small range state says.2 says.3.0
  gives_back range (Err Memory) says = tt
