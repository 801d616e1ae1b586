-- One machine and one codex stand for a machine, and decoding gives one answer, apart from memory.
use Rattle.std.proofs.Common.{◌≡◌, ◌⊎◌, inl, inr, ℕ, ◌+◌, Bool, List, [], None, Some, Result, Ok, Err, length, slice_get, refl, sym, ap, ◌∙◌, subst, arith}
use Rattle.std.specs.List.{AllZip}
use Rattle.std.proofs.lemmas.Option.{same_Some}
use Rattle.fst_semiring.specs.Cost.{Cost}
use Rattle.fst_semiring.specs.declared.arc_type.ArcType.{ArcType}
use Rattle.fst_machine.specs.BreadthFirst.{Apart}
use Rattle.fst_machine.specs.Letters.{letter_of}
use Rattle.fst_machine.specs.Machine.{Arc, State, Machine}
use Rattle.fst_machine.specs.declared.path.Step.{Step}
use Rattle.fst_machine.proofs.Elements.{Apart_at}
use Rattle.fst_machine.proofs.OneMachine.{one_arc, one_state, one_whole, one_zip}
use Rattle.fst_machine.proofs.Walks.{Grows-Apart, Grows_once}
use Rattle.fst_trim.specs.FirstArcs.{HasTwoLabels, IsFirstArc, Meets}
use Rattle.fst_trim.proofs.OneAnswer.{one_first_arc}
use Rattle.fst_codex.specs.Decoded.{Decodes, HasLabel, IsOutside, PassesRange}
use Rattle.fst_codex.specs.Encoded.{IsEncoded, IsEncodedArc, IsEncodedState, arc_entries, entry_of}
use Rattle.fst_codex.specs.Table.{Entry, Table}
use Rattle.fst_codex.specs.declared.decoding.DecodeFault.{DecodeFault}
use Rattle.fst_codex.specs.declared.decoding.DecodeFault.TheVariants.{NotAcceptor, NotInCodex, Overflow, Memory}

-- ---- encoding

module _ (kind : ArcType) (weights : Bool) (entries : List (Entry Cost)) (apart : Apart entries) where
  one_encoded_arc : (a b c : Arc Cost ℕ) → IsEncodedArc kind weights entries a b → IsEncodedArc kind weights entries a c → b ≡ c
  one_encoded_arc a b c one two =
      let place : one.place ≡ two.place = Apart_at entries one.place two.place (entry_of kind weights a) apart one.there two.there in
      let number : one.place + 1 ≡ two.place + 1 = omega (arith, place) in
      let ilabel : b.ilabel ≡ c.ilabel = one.ilabel ∙ (number ∙ sym two.ilabel) in
      let olabel : b.olabel ≡ c.olabel = one.olabel ∙ (number ∙ sym two.olabel) in
      let weight : b.weight ≡ c.weight = one.weight ∙ sym two.weight in
      let letters : letter_of b ≡ letter_of c = cc in
      one_arc b c letters (one.next ∙ sym two.next)

  one_encoded_state : (s t u : State Cost) → IsEncodedState kind weights entries s t → IsEncodedState kind weights entries s u → t ≡ u
  one_encoded_state s t u one two = one_state t u (one.final ∙ sym two.final) (one_zip (IsEncodedArc kind weights entries) one_encoded_arc s.arcs t.arcs u.arcs one.arcs two.arcs)

one_table : (t u : Table Cost) → t.weights ≡ u.weights → t.entries ≡ u.entries → t ≡ u
one_table t u weights entries = ap (λ (b : Bool). table b t.entries) weights ∙ ap (table u.weights) entries
  where
    table : Bool → List (Entry Cost) → Table Cost
    table flag listed = record { weights = flag; entries = listed }

pub one_encoded : (kind : ArcType) (weights : Bool) (m c d : Machine Cost) (t u : Table Cost) → IsEncoded kind weights m c t → IsEncoded kind weights m d u → (c ≡ d) × (t ≡ u)
one_encoded kind weights m c d t u one two = (one_whole c d (one.start ∙ sym two.start) (one_zip (IsEncodedState kind weights t.entries) (one_encoded_state kind weights t.entries apart) m.states c.states d.states one.states states), one_table t u (one.flag ∙ sym two.flag) entries)
  where
    entries : t.entries ≡ u.entries
    entries = Grows_once (arc_entries kind weights m.states) [] t.entries u.entries one.entries two.entries

    apart : Apart t.entries
    apart = Grows-Apart (arc_entries kind weights m.states) [] t.entries tt one.entries

    states : AllZip (IsEncodedState kind weights t.entries) m.states d.states
    states = subst (λ (es : List (Entry Cost)). AllZip (IsEncodedState kind weights es) m.states d.states) (sym entries) two.states

-- ---- decoding

-- one label stands in a place
one_label : {V : Type 0} (m : Machine V) (step : Step) (label other : ℕ) → Meets (HasLabel label) m step.state step.place → Meets (HasLabel other) m step.state step.place → label ≡ other
one_label {V} m step label other one two =
    let arcs : one.arcs ≡ two.arcs = same_Some one.arcs two.arcs (sym one.has ∙ two.has) in
    let arc : one.holds.arc ≡ two.holds.arc = same_Some one.holds.arc two.holds.arc (sym one.holds.there ∙ (ap (λ (listed : List (Arc V ℕ)). slice_get listed step.place) arcs ∙ two.holds.there)) in
    sym one.holds.is ∙ (ap (λ (a : Arc V ℕ). a.ilabel) arc ∙ two.holds.is)

module _ {V : Type 0} (kind : ArcType) (value : V → Cost) (m : Machine V) (t : Table Cost) where
  none_and_some : (P : List (Arc V ℕ) → ℕ → Type 0) (step : Step) → IsFirstArc P m None → IsFirstArc P m (Some step) → ⊥
  none_and_some P step one two = one step.state step.place two.0

  -- the same first arc, and the same first state
  same_arc : (P : List (Arc V ℕ) → ℕ → Type 0) (state place other last : ℕ) → IsFirstArc P m (Some (record { state = state; place = place })) → IsFirstArc P m (Some (record { state = other; place = last })) → (state ≡ other) × (place ≡ last)
  same_arc P state place other last one two =
      let same : ◌≡◌ {A = Step} (record { state = state; place = place }) (record { state = other; place = last }) = same_Some _ _ (one_first_arc P m (Some (record { state = state; place = place })) (Some (record { state = other; place = last })) one two) in
      (ap (λ (s : Step). s.state) same, ap (λ (s : Step). s.place) same)

  pub one_decoding : (r q : Result (Machine Cost) DecodeFault) → Decodes kind value m t r → Decodes kind value m t q → (r ≡ Err Memory) ⊎ ((q ≡ Err Memory) ⊎ (r ≡ q))
  one_decoding (Err Memory) q one two = inl refl
  one_decoding (Ok c) (Err Memory) one two = inr (inl refl)
  one_decoding (Err (NotAcceptor state place)) (Err Memory) one two = inr (inl refl)
  one_decoding (Err (NotInCodex label)) (Err Memory) one two = inr (inl refl)
  one_decoding (Err (Overflow state)) (Err Memory) one two = inr (inl refl)
  one_decoding (Ok c) (Ok d) one two = inr (inr (ap Ok (one.3 ∙ sym two.3)))
  one_decoding (Ok c) (Err (NotAcceptor state place)) one two = absurd (none_and_some HasTwoLabels _ one.0 two)
  one_decoding (Ok c) (Err (NotInCodex label)) one two = absurd (none_and_some (IsOutside (length t.entries)) two.1 one.1 two.2)
  one_decoding (Ok c) (Err (Overflow state)) one two = absurd (none_and_some (PassesRange kind value t) _ one.2 two.3)
  one_decoding (Err (NotAcceptor state place)) (Ok d) one two = absurd (none_and_some HasTwoLabels _ two.0 one)
  one_decoding (Err (NotAcceptor state place)) (Err (NotAcceptor other last)) one two = let same = same_arc HasTwoLabels state place other last one two in inr (inr (rw (same.0, same.1) refl))
  one_decoding (Err (NotAcceptor state place)) (Err (NotInCodex label)) one two = absurd (none_and_some HasTwoLabels _ two.0 one)
  one_decoding (Err (NotAcceptor state place)) (Err (Overflow other)) one two = absurd (none_and_some HasTwoLabels _ two.0 one)
  one_decoding (Err (NotInCodex label)) (Ok d) one two = absurd (none_and_some (IsOutside (length t.entries)) one.1 two.1 one.2)
  one_decoding (Err (NotInCodex label)) (Err (NotAcceptor state place)) one two = absurd (none_and_some HasTwoLabels _ one.0 two)
  one_decoding (Err (NotInCodex label)) (Err (NotInCodex other)) one two =
      let steps : one.1 ≡ two.1 = same_Some one.1 two.1 (one_first_arc (IsOutside (length t.entries)) m (Some one.1) (Some two.1) one.2 two.2) in
      let same : label ≡ other = one_label m one.1 label other one.3 (subst (λ (s : Step). Meets (HasLabel other) m s.state s.place) (sym steps) two.3) in
      inr (inr (ap (λ (l : ℕ). Err (NotInCodex l)) same))
  one_decoding (Err (NotInCodex label)) (Err (Overflow state)) one two = absurd (none_and_some (IsOutside (length t.entries)) one.1 two.1 one.2)
  one_decoding (Err (Overflow state)) (Ok d) one two = absurd (none_and_some (PassesRange kind value t) _ two.2 one.3)
  one_decoding (Err (Overflow state)) (Err (NotAcceptor other place)) one two = absurd (none_and_some HasTwoLabels _ one.0 two)
  one_decoding (Err (Overflow state)) (Err (NotInCodex label)) one two = absurd (none_and_some (IsOutside (length t.entries)) two.1 one.1 two.2)
  one_decoding (Err (Overflow state)) (Err (Overflow other)) one two = let same = same_arc (PassesRange kind value t) state one.2 other two.2 one.3 two.3 in inr (inr (ap (λ (n : ℕ). Err (Overflow n)) same.0))
