-- What arcs, states and machines stand for.
use Rattle.std.proofs.Common.{◌≡◌, ◌≢◌, ◌⊎◌, inl, inr, ℕ, ◌-◌, ◌<◌, ◌≤◌, zero, suc, Bool, true, false, List, [], ◌∷◌, Option, None, Some, Err, length, map, get_or, slice_get, refl, sym, ap, subst, ◌∙◌, arith}
use Rattle.std.specs.Prelude.{IfSome}
use Rattle.std.specs.List.{All}
use Rattle.std.specs.Option.{option_map}
use Rattle.std.proofs.lemmas.Bool.{cases_lt}
use Rattle.std.proofs.Math.ListN.{get_or-map}
use Rattle.std.proofs.lemmas.List.{length-map}
use Rattle.std.proofs.lemmas.List.Elements.{All-map, All-weaker}
use Rattle.std.proofs.lemmas.List.Sums.{sum_by-cons}
use Rattle.std.proofs.lemmas.Option.{slice_get_within, slice_get-get_or}
use Rattle.fst_semiring.specs.Cost.{Cost, infinite}
use Rattle.fst_semiring.specs.declared.arc_type.ArcType.{ArcType}
use Rattle.fst_semiring.specs.Semiring.{InRange}
use Rattle.fst_semiring.proofs.Laws.{times_only_zero}
use Rattle.fst_machine.specs.Machine.{Arc, IsArc, IsMachine, Machine, State, arc_total, valued_arc}
use Rattle.fst_machine.specs.declared.path.Step.{Step}
use Rattle.fst_machine.proofs.Arcs.{at_mapped}
use Rattle.fst_trim.specs.FirstArcs.{HasTwoLabels, IsFirstArc, Meets}
use Rattle.fst_trim.proofs.Places.{NoneAbove, first_found, read_here}
use Rattle.fst_codex.specs.declared.decoding.DecodeFault.{DecodeFault}
use Rattle.fst_codex.specs.declared.decoding.DecodeFault.TheVariants.{NotAcceptor, NotInCodex, Overflow, Memory}
use Rattle.fst_codex.specs.Parts.{DecodesArcs, DecodesStates}
use Rattle.fst_codex.specs.Decoded.{Decodes, IsOutside, PassesRange, decoded, decoded_arc, decoded_state, entry_at, joined_weight, with_entry}
use Rattle.fst_codex.specs.Table.{Entry, IsEntry, IsTable, Table, valued_entry, valued_table}

-- a label is outside of the entries that were read where it is outside of their values
pub outside_valued : {V X : Type 0} (value : V → Cost) (es read : List (Entry V)) (m : Machine X) (found : Option Step) → read ≡ es → IsFirstArc (IsOutside (length read)) m found → IsFirstArc (IsOutside (length (map (valued_entry value) es))) m found
outside_valued value es read m found same h = subst (λ (n : ℕ). IsFirstArc (IsOutside n) m found) (ap length same ∙ sym (length-map es (valued_entry value))) h

pub outside_entries : {V X : Type 0} (value : V → Cost) (es : List (Entry V)) (m : Machine X) (found : Option Step) → IsFirstArc (IsOutside (length es)) m found → IsFirstArc (IsOutside (length (map (valued_entry value) es))) m found
outside_entries value es m found h = outside_valued value es es m found refl h

-- an arc in this place whose label is not past the numbers
pub inside : {V : Type 0} (numbers : ℕ) (arcs : List (Arc V ℕ)) (place : ℕ) (a : Arc V ℕ) → slice_get arcs place ≡ Some a → a.ilabel ≤ numbers → IsOutside numbers arcs place → ⊥
inside {V} numbers arcs place a there low h =
    let both : ◌≡◌ {A = Option (Arc V ℕ)} (Some a) (Some h.arc) = sym there ∙ h.there in
    let equal : a ≡ h.arc = cc in
    let same : a.ilabel ≡ (h.arc).ilabel = ap (λ (b : Arc V ℕ). b.ilabel) equal in
    omega (arith, same, low, h.past)

-- an arc in this place that stands for one whose weight is in range
pub within_range : {V : Type 0} (kind : ArcType) (value : V → Cost) (t : Table Cost) (arcs : List (Arc V ℕ)) (place : ℕ) (a : Arc V ℕ) → slice_get arcs place ≡ Some a → InRange (decoded_arc kind t (valued_arc value a)).weight → PassesRange kind value t arcs place → ⊥
within_range {V} kind value t arcs place a there good h =
    let both : ◌≡◌ {A = Option (Arc V ℕ)} (Some a) (Some h.arc) = sym there ∙ h.there in
    let equal : a ≡ h.arc = cc in
    h.past (subst (λ (b : Arc V ℕ). InRange (decoded_arc kind t (valued_arc value b)).weight) equal good)

-- where no arc is past the numbers, each label has an entry
pub all_inside : {V : Type 0} (numbers : ℕ) (m : Machine V) (state : ℕ) (arcs : List (Arc V ℕ)) → option_map (λ s. s.arcs) (slice_get m.states state) ≡ Some arcs → IsFirstArc (IsOutside numbers) m None → All (λ a. a.ilabel ≤ numbers) arcs
all_inside {V} numbers m state arcs has none i d low = by_order (cases_lt numbers (get_or arcs i d).ilabel)
  where
    by_order : (numbers < (get_or arcs i d).ilabel) ⊎ ((get_or arcs i d).ilabel ≤ numbers) → (get_or arcs i d).ilabel ≤ numbers
    by_order (inl past) = absurd (none state i (record { arcs = arcs; has = has; holds = record { arc = get_or arcs i d; there = slice_get-get_or arcs i d low; past = past } }))
    by_order (inr good) = good

-- the entry of a number that is not 0
entry_before : (es : List (Entry Cost)) (n : ℕ) → n ≢ 0 → entry_at es n ≡ slice_get es (n - 1)
entry_before es zero other = absurd (other refl)
entry_before es (suc n) other = let e : n ≡ suc n - 1 = omega arith in ap (slice_get es) e

pub entry_there : {V : Type 0} (value : V → Cost) (es : List (Entry V)) (n : ℕ) (e : Entry V) → n ≢ 0 → n - 1 < length es → e ≡ get_or es (n - 1) e → entry_at (map (valued_entry value) es) n ≡ Some (valued_entry value e)
entry_there value es n e other low read = entry_before (map (valued_entry value) es) n other ∙ at_mapped (valued_entry value) es (n - 1) e (read_here es (n - 1) e low read)

-- what an arc with an entry stands for
pub decoded_is : {V : Type 0} (kind : ArcType) (value : V → Cost) (t : Table V) (a : Arc V ℕ) (e : Entry V) → a.ilabel ≢ 0 → a.ilabel - 1 < length t.entries → e ≡ get_or t.entries (a.ilabel - 1) e → decoded_arc kind (valued_table value t) (valued_arc value a) ≡ record { ilabel = e.ilabel; olabel = e.olabel; weight = joined_weight kind t.weights (value a.weight) (value e.weight); next = a.next }
decoded_is kind value t a e other low read = ap (with_entry kind t.weights (valued_arc value a)) (entry_there value t.entries a.ilabel e other low read)

-- the same of an arc and an entry that are known by their parts
pub decoded_known : {V : Type 0} (kind : ArcType) (value : V → Cost) (codex : Table V) (weights : Bool) (es : List (Entry V)) (a own : Arc V ℕ) (e there : Entry V) → weights ≡ codex.weights → es ≡ codex.entries → own ≡ a → there ≡ e → own.ilabel ≢ 0 → a.ilabel ≤ length codex.entries → e ≡ get_or es (own.ilabel - 1) e
    → decoded_arc kind (valued_table value codex) (valued_arc value a) ≡ record { ilabel = there.ilabel; olabel = there.olabel; weight = joined_weight kind weights (value own.weight) (value there.weight); next = own.next }
decoded_known {V} kind value codex weights es a own e there flag list arc entry other few read =
    let t : Table V = record { weights = weights; entries = es } in
    let same : t ≡ codex = λ i. record { weights = flag i; entries = list i } in
    let label : own.ilabel ≡ a.ilabel = ap (λ (b : Arc V ℕ). b.ilabel) arc in
    let low : own.ilabel - 1 < length es = omega (arith, label, few, ap length list, other) in
    ap (λ (b : Arc V ℕ). decoded_arc kind (valued_table value codex) (valued_arc value b)) (sym arc)
    ∙ (ap (λ (u : Table V). decoded_arc kind (valued_table value u) (valued_arc value own)) (sym same) ∙ decoded_is kind value t own there other low (subst (λ (x : Entry V). x ≡ get_or es (own.ilabel - 1) x) (sym entry) read))

-- an arc that is met stands among those of its state
pub met_low : {V : Type 0} (numbers : ℕ) (m : Machine V) (state place : ℕ) (arcs : List (Arc V ℕ)) → option_map (λ s. s.arcs) (slice_get m.states state) ≡ Some arcs → Meets (IsOutside numbers) m state place → place < length arcs
met_low {V} numbers m state place arcs has h =
    let both : ◌≡◌ {A = Option (List (Arc V ℕ))} (Some arcs) (Some h.arcs) = sym has ∙ h.has in
    let equal : arcs ≡ h.arcs = cc in
    subst (λ (xs : List (Arc V ℕ)). place < length xs) (sym equal) (slice_get_within h.arcs place h.holds.arc h.holds.there)

-- ---- faults

module _ {V : Type 0} (kind : ArcType) (value : V → Cost) (t : Table Cost) (m : Machine V) where
  -- the first fault of the arcs of a state is the first of the machine, where the states before have none
  pub arcs_fault : (state : ℕ) (arcs out : List (Arc V ℕ)) (fault : DecodeFault) → option_map (λ s. s.arcs) (slice_get m.states state) ≡ Some arcs → NoneAbove (PassesRange kind value t) m state → DecodesArcs {X = Unit {0}} kind value t state arcs out (Err fault) → DecodesStates kind value t m (Err fault)
  arcs_fault state arcs out (NotAcceptor at place) has none h = absurd h
  arcs_fault state arcs out (NotInCodex label) has none h = absurd h
  arcs_fault state arcs out (Overflow at) has none h = (h.1, subst (λ (k : ℕ). IsFirstArc (PassesRange kind value t) m (Some (record { state = k; place = h.1 }))) (sym h.0) (first_found (PassesRange kind value t) m state h.1 arcs has none h.2))
  arcs_fault state arcs out Memory has none h = tt

  -- and the first of the machine is that of decoding
  pub states_fault : (fault : DecodeFault) → IsFirstArc HasTwoLabels m None → IsFirstArc (IsOutside (length t.entries)) m None → DecodesStates kind value t m (Err fault) → Decodes kind value m t (Err fault)
  states_fault (NotAcceptor at place) two outside h = absurd h
  states_fault (NotInCodex label) two outside h = absurd h
  states_fault (Overflow at) two outside h = (two, outside, h.0, h.1)
  states_fault Memory two outside h = tt

-- ---- what a machine stands for is a machine

arcs-decoded : (kind : ArcType) (t : Table Cost) (states : List (State Cost)) → arc_total (map (decoded_state kind t) states) ≡ arc_total states
arcs-decoded kind t [] = refl
arcs-decoded kind t (s ∷ states) =
    let all = sum_by-cons (λ (u : State Cost). length u.arcs) (decoded_state kind t s) (map (decoded_state kind t) states) in
    let own = sum_by-cons (λ (u : State Cost). length u.arcs) s states in
    let rest = arcs-decoded kind t states in
    let same = length-map s.arcs (decoded_arc kind t) in
    omega (arith, all, own, rest, same)

pub total-decoded : (kind : ArcType) (t : Table Cost) (states : List (State Cost)) → arc_total (map (decoded_state kind t) states) ≡ arc_total states
total-decoded kind t states = arcs-decoded kind t states

joined_not_zero : (kind : ArcType) (weights : Bool) (a b : Cost) → (a ≡ infinite → ⊥) → (b ≡ infinite → ⊥) → joined_weight kind weights a b ≡ infinite → ⊥
joined_not_zero kind false a b one two e = one e
joined_not_zero kind true a b one two e = by_zero (times_only_zero kind a b e)
  where
    by_zero : (a ≡ infinite) ⊎ (b ≡ infinite) → ⊥
    by_zero (inl h) = one h
    by_zero (inr h) = two h

module _ (kind : ArcType) (t : Table Cost) (good : IsTable kind (λ v. v) t) where
  entry_good : (n : ℕ) (e : Entry Cost) → entry_at t.entries n ≡ Some e → IsEntry kind (λ v. v) t.weights e
  entry_good zero e h = absurd cc
  entry_good (suc n) e h =
      let low = slice_get_within t.entries n e h in
      let same : get_or t.entries n e ≡ e = some_is (sym (slice_get-get_or t.entries n e low) ∙ h) in
      subst (IsEntry kind (λ v. v) t.weights) same (good.good n e low)
    where
      some_is : {x y : Entry Cost} → Some x ≡ Some y → x ≡ y
      some_is h = cc

  with_good : (n : ℕ) (a : Arc Cost ℕ) (o : Option (Entry Cost)) → IsArc (λ v. v) n a → ((e : Entry Cost) → o ≡ Some e → IsEntry kind (λ v. v) t.weights e) → IsArc (λ v. v) n (with_entry kind t.weights a o)
  with_good n a None h entry = h
  with_good n a (Some e) h entry =
      let own = entry e refl in
      record { ilabel = own.ilabel; olabel = own.olabel; weight = joined_not_zero kind t.weights a.weight e.weight h.weight own.weight; next = h.next }

  pub IsArc-decoded : (n : ℕ) (a : Arc Cost ℕ) → IsArc (λ v. v) n a → IsArc (λ v. v) n (decoded_arc kind t a)
  IsArc-decoded n a h = with_good n a (entry_at t.entries a.ilabel) h (entry_good a.ilabel)

  pub IsMachine-decoded : (m : Machine Cost) → IsMachine (λ v. v) m → IsMachine (λ v. v) (decoded kind t m)
  IsMachine-decoded m h =
      let same : length (map (decoded_state kind t) m.states) ≡ length m.states = length-map m.states (decoded_state kind t) in
      let n = length m.states in
      record {
        start = subst (λ (k : ℕ). IfSome m.start (λ s. s < k)) (sym same) h.start;
        arcs = subst (λ (k : ℕ). All (λ s. All (IsArc (λ v. v) k) s.arcs) (map (decoded_state kind t) m.states)) (sym same)
            (All-map (λ s. All (IsArc (λ v. v) n) s.arcs) (decoded_state kind t) m.states
            (All-weaker (λ s. All (IsArc (λ v. v) n) s.arcs) (λ s. All (IsArc (λ v. v) n) (map (decoded_arc kind t) s.arcs))
            (λ s own. All-map (IsArc (λ v. v) n) (decoded_arc kind t) s.arcs (All-weaker (IsArc (λ v. v) n) (λ a. IsArc (λ v. v) n (decoded_arc kind t a)) (IsArc-decoded n) s.arcs own))
            m.states h.arcs));
        few_states = omega (arith, same, h.few_states);
        few_arcs = omega (arith, arcs-decoded kind t m.states, h.few_arcs);
      }

-- a codex by the values of its weights is one
pub IsTable-valued : {V : Type 0} (kind : ArcType) (value : V → Cost) (t : Table V) → IsTable kind value t → IsTable kind (λ v. v) (valued_table value t)
IsTable-valued {V} kind value t h = record {
  few = omega (arith, length-map t.entries (valued_entry value), h.few);
  good = All-map (IsEntry kind (λ v. v) t.weights) (valued_entry value) t.entries
      (All-weaker (IsEntry kind value t.weights) (λ e. IsEntry kind (λ v. v) t.weights (valued_entry value e)) (λ e own. record { ilabel = own.ilabel; olabel = own.olabel; weight = own.weight; bare = own.bare }) t.entries h.good);
}

-- arcs that arcs of a machine stand for are arcs of a machine
pub decoded_good : {V : Type 0} (value : V → Cost) (kind : ArcType) (t : Table Cost) → IsTable kind (λ v. v) t → (n : ℕ) (arcs own : List (Arc V ℕ)) → map (valued_arc value) own ≡ map (decoded_arc kind t) (map (valued_arc value) arcs) → All (IsArc value n) arcs → All (IsArc value n) own
decoded_good {V} value kind t table n arcs own same good = All-weaker (λ a. IsArc (λ v. v) n (valued_arc value a)) (IsArc value n) (λ a h. record { ilabel = h.ilabel; olabel = h.olabel; weight = h.weight; next = h.next }) own
    (All-unmapped (IsArc (λ v. v) n) (valued_arc value) own (subst (λ (xs : List (Arc Cost ℕ)). All (IsArc (λ v. v) n) xs) (sym same)
    (All-map (IsArc (λ v. v) n) (decoded_arc kind t) (map (valued_arc value) arcs)
    (All-map (λ a. IsArc (λ v. v) n (decoded_arc kind t a)) (valued_arc value) arcs
    (All-weaker (IsArc value n) (λ a. IsArc (λ v. v) n (decoded_arc kind t (valued_arc value a))) (λ a h. IsArc-decoded kind t table n (valued_arc value a) (record { ilabel = h.ilabel; olabel = h.olabel; weight = h.weight; next = h.next })) arcs good)))))
  where
    All-unmapped : {X Y : Type 0} (P : Y → Type 0) (f : X → Y) (xs : List X) → All P (map f xs) → All (λ x. P (f x)) xs
    All-unmapped P f xs h i d low = subst P (get_or-map f xs i d) (h i (f d) (subst (λ (k : ℕ). i < k) (sym (length-map xs f)) low))
