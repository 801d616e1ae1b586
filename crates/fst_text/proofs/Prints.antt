-- The states of a machine one after another, as they are printed.
use Rattle.std.proofs.Common.{◌≡◌, ℕ, ◌+◌, ◌<◌, ◌≤◌, ◌==◌, zero, suc, Bool, true, false, cond, List, [], ◌∷◌, ◌++◌, length, map, drop, get_or, Option, Some, None, refl, sym, ap, ◌∙◌, arith, append_assoc}
use Rattle.std.specs.List.{slice_get, drop-map}
use Rattle.std.specs.Option.{option_map}
use Rattle.std.proofs.lemmas.Grind.{flat_map-append}
use Rattle.std.proofs.lemmas.List.{length-map}
use Rattle.std.proofs.lemmas.List.Sums.{get_or-le-sum_by}
use Rattle.std.proofs.lemmas.Option.{get_or_from_slice_get, slice_get-map, slice_get_within}
use Rattle.fst_semiring.specs.declared.arc_type.ArcType.{ArcType}
use Rattle.fst_semiring.specs.Cost.{Cost, is_infinite}
use Rattle.fst_machine.specs.Machine.{Arc, State, arc_total, most_arcs, valued_arc, valued_state}
use Rattle.fst_text.specs.declared.fault.PrintFault.{PrintFault}
use Rattle.fst_text.specs.declared.fault.PrintFault.TheVariants.{UnknownSymbol}
use Rattle.fst_text.specs.Options.{Options}
use Rattle.fst_text.specs.Entries.{Entry, arc_entry, final_entry}
use Rattle.fst_text.specs.Printed.{entries_at, fields_of_entry, final_entries, other_entries, split_arc, split_state, state_entries, text_of_entries, text_of_line, unnamed_label}
use Rattle.fst_text.proofs.Naming.{entries-behind, entries-front, fault-as}

-- what is read of a state is of the one that stands there
state-there : {V : Type 0} (states : List (State V)) (q : ℕ) (arcs : List (Arc V ℕ)) → option_map (λ s. s.arcs) (slice_get states q) ≡ Some arcs → (s : State V) × (slice_get states q ≡ Some s) × (s.arcs ≡ arcs)
state-there {V} states q arcs h = go (slice_get states q) refl h where
  go : (o : Option (State V)) → slice_get states q ≡ o → option_map (λ s. s.arcs) o ≡ Some arcs → (s : State V) × (slice_get states q ≡ Some s) × (s.arcs ≡ arcs)
  go None e h = absurd (cc)
  go (Some s) e h = (s, e, cc)

final-there : {V : Type 0} (states : List (State V)) (q : ℕ) (s : State V) (w : V) → slice_get states q ≡ Some s → option_map (λ s. s.final) (slice_get states q) ≡ Some w → s.final ≡ w
final-there {V} states q s w e h =
    let both : option_map (λ (s : State V). s.final) (Some s) ≡ Some w = ap (option_map (λ (s : State V). s.final)) (sym e) ∙ h in
    cc

drop-there : {X : Type 0} (xs : List X) (i : ℕ) (x : X) → slice_get xs i ≡ Some x → drop i xs ≡ x ∷ drop (i + 1) xs
drop-there [] i x h = absurd (cc)
drop-there (y ∷ xs) zero x h = let same : y ≡ x = cc in ap (λ z. z ∷ xs) same
drop-there (y ∷ xs) (suc i) x h =
    let next : suc (i + 1) ≡ suc i + 1 = omega arith in
    drop-there xs i x h ∙ ap (λ (k : ℕ). x ∷ drop k (y ∷ xs)) next

-- the entries of a state are those of what is read of it
pub entries-read : {V : Type 0} (value : V → Cost) (states : List (State V)) (q : ℕ) (arcs : List (Arc V ℕ)) (w : V) → option_map (λ s. s.arcs) (slice_get states q) ≡ Some arcs → option_map (λ s. s.final) (slice_get states q) ≡ Some w → entries_at q (map (valued_state value) states) ≡ map (arc_entry q) (map (valued_arc value) arcs) ++ final_entries q (value w) (map (valued_arc value) arcs)
entries-read {V} value states q arcs w ha hw =
    let there = state-there states q arcs ha in
    let s : State V = there.0 in
    ap (λ (o : Option (State Cost)). elim o [ None ↦ [] | Some s ↦ state_entries q s ]) (slice_get-map (valued_state value) states q ∙ ap (option_map (valued_state value)) there.1)
    ∙ ap (λ (as_read : List (Arc V ℕ)). state_entries q (record { final = value s.final; arcs = map (valued_arc value) as_read })) there.2
    ∙ ap (λ (u : V). state_entries q (record { final = value u; arcs = map (valued_arc value) arcs })) (final-there states q s w there.1 hw)

-- a fault of the arcs of a state is one of the state
pub arcs-fault : {V : Type 0} (value : V → Cost) (options : Options) (fault : PrintFault) (states : List (State V)) (q : ℕ) (arcs : List (Arc V ℕ)) → option_map (λ s. s.arcs) (slice_get states q) ≡ Some arcs → option_map UnknownSymbol (unnamed_label options (map (arc_entry q) (map (valued_arc value) arcs))) ≡ Some fault → option_map UnknownSymbol (unnamed_label options (entries_at q (map (valued_state value) states))) ≡ Some fault
arcs-fault {V} value options fault states q arcs ha h =
    let there = state-there states q arcs ha in
    let s : State V = there.0 in
    let first = map (arc_entry q) (map (valued_arc value) arcs) in
    let last = final_entries q (value s.final) (map (valued_arc value) arcs) in
    fault-as fault (unnamed_label options (first ++ last)) (unnamed_label options (entries_at q (map (valued_state value) states))) (ap (unnamed_label options) (sym (entries-read value states q arcs s.final ha (ap (option_map (λ (s : State V). s.final)) there.1)))) (entries-front fault options first last h)

-- texts one behind the other
pub texts-append : (kind : ArcType) (options : Options) (old a b : List ℕ) (first second : List Entry) → a ≡ old ++ text_of_entries kind options first → b ≡ a ++ text_of_entries kind options second → b ≡ old ++ text_of_entries kind options (first ++ second)
texts-append kind options old a b first second ea eb =
    let text = text_of_entries kind options in
    eb ∙ ap (λ (x : List ℕ). x ++ text second) ea ∙ append_assoc old (text first) (text second) ∙ ap (λ (x : List ℕ). old ++ x) (sym (flat_map-append (λ e. text_of_line (fields_of_entry kind options e)) first second))

-- the entries of the next state, and those of the states behind it
other-step : (start n : ℕ) (states : List (State Cost)) (q : ℕ) → q < length states → other_entries start n (drop q states) ≡ cond (n == start) [] (elim (slice_get states q) [ None ↦ [] | Some s ↦ state_entries n s ]) ++ other_entries start (n + 1) (drop (q + 1) states)
other-step start n [] q h = absurd (omega arith)
other-step start n (s ∷ states) zero h = refl
other-step start n (s ∷ states) (suc q) h =
    let next : suc (q + 1) ≡ suc q + 1 = omega arith in
    other-step start n states q (omega arith) ∙ ap (λ (k : ℕ). cond (n == start) [] (elim (slice_get states q) [ None ↦ [] | Some s ↦ state_entries n s ]) ++ other_entries start (n + 1) (drop k (s ∷ states))) next

-- the entries of the states that are left are those of the next one and of those behind it
pub others-step : {V : Type 0} (value : V → Cost) (start q : ℕ) (states : List (State V)) → q < length states → other_entries start q (map (valued_state value) (drop q states)) ≡ cond (q == start) [] (entries_at q (map (valued_state value) states)) ++ other_entries start (q + 1) (map (valued_state value) (drop (q + 1) states))
others-step value start q states low =
    let mapped = map (valued_state value) states in
    let first = cond (q == start) [] (entries_at q mapped) in
    let many : q < length mapped = rw (length-map states (valued_state value)) low in
    ap (other_entries start q) (sym (drop-map (valued_state value) q states)) ∙ other-step start q mapped q many ∙ ap (λ (ss : List (State Cost)). first ++ other_entries start (q + 1) ss) (drop-map (valued_state value) (q + 1) states)

-- the text of the states that are left, after that of the next one
pub others-pushed : {V : Type 0} (value : V → Cost) (kind : ArcType) (options : Options) (start q : ℕ) (states : List (State V)) (old out more : List ℕ) → q < length states → more ≡ out ++ text_of_entries kind options (cond (q == start) [] (entries_at q (map (valued_state value) states))) → out ++ text_of_entries kind options (other_entries start q (map (valued_state value) (drop q states))) ≡ old → more ++ text_of_entries kind options (other_entries start (q + 1) (map (valued_state value) (drop (q + 1) states))) ≡ old
others-pushed value kind options start q states old out more low e h =
    let text = text_of_entries kind options in
    let first = cond (q == start) [] (entries_at q (map (valued_state value) states)) in
    let behind = other_entries start (q + 1) (map (valued_state value) (drop (q + 1) states)) in
    texts-append kind options out more (more ++ text behind) first behind e refl ∙ ap (λ (es : List Entry). out ++ text es) (sym (others-step value start q states low)) ∙ h

-- what the lines of the next state leave
module _ {V : Type 0} (value : V → Cost) (options : Options) (start q : ℕ) (states : List (State V)) (low : q < length states) where
  abbrev next : List Entry
  next = cond (q == start) [] (entries_at q (map (valued_state value) states))

  abbrev left : ℕ → List Entry
  left k = other_entries start k (map (valued_state value) (drop k states))

  splits : unnamed_label options (next ++ left (q + 1)) ≡ unnamed_label options (left q)
  splits = ap (unnamed_label options) (sym (others-step value start q states low))

  pub others-named : {all : Option ℕ} → unnamed_label options next ≡ None → unnamed_label options (left q) ≡ all → unnamed_label options (left (q + 1)) ≡ all
  others-named named h = sym (entries-behind options next (left (q + 1)) named) ∙ splits ∙ h

  pub others-fault : {all : Option ℕ} {fault : PrintFault} → option_map UnknownSymbol (unnamed_label options next) ≡ Some fault → unnamed_label options (left q) ≡ all → option_map UnknownSymbol all ≡ Some fault
  others-fault {all} {fault} unnamed h = fault-as fault (unnamed_label options (next ++ left (q + 1))) all (splits ∙ h) (entries-front fault options next (left (q + 1)) unnamed)

-- a final entry has no labels
pub final-unnamed : (options : Options) (state : ℕ) (w : Cost) (arcs : List (Arc Cost ℕ)) → unnamed_label options (final_entries state w arcs) ≡ None
final-unnamed options state w [] = refl
final-unnamed options state w (a ∷ arcs) = go (is_infinite w) where
  go : (zero_is : Bool) → unnamed_label options (cond zero_is [] (final_entry state w ∷ [])) ≡ None
  go true = refl
  go false = refl

-- the first arc with two labels is in the next state or behind it
split-step : {V : Type 0} (value : V → Cost) (states : List (State V)) (q : ℕ) (arcs : List (Arc V ℕ)) → option_map (λ s. s.arcs) (slice_get states q) ≡ Some arcs → split_state q (map (valued_state value) (drop q states)) ≡ elim (split_arc q 0 (map (valued_arc value) arcs)) [ None ↦ split_state (q + 1) (map (valued_state value) (drop (q + 1) states)) | Some fault ↦ Some fault ]
split-step {V} value states q arcs h =
    let there = state-there states q arcs h in
    ap (λ (ss : List (State V)). split_state q (map (valued_state value) ss)) (drop-there states q there.0 there.1)
    ∙ ap (λ (as_read : List (Arc V ℕ)). elim (split_arc q 0 (map (valued_arc value) as_read)) [ None ↦ split_state (q + 1) (map (valued_state value) (drop (q + 1) states)) | Some fault ↦ Some fault ]) there.2

pub split-found : {V : Type 0} (value : V → Cost) (states : List (State V)) (q : ℕ) (arcs : List (Arc V ℕ)) (fault : PrintFault) → option_map (λ s. s.arcs) (slice_get states q) ≡ Some arcs → Some fault ≡ split_arc q 0 (map (valued_arc value) arcs) → split_state q (map (valued_state value) (drop q states)) ≡ Some fault
split-found value states q arcs fault h found = split-step value states q arcs h ∙ ap (λ (o : Option PrintFault). elim o [ None ↦ split_state (q + 1) (map (valued_state value) (drop (q + 1) states)) | Some fault ↦ Some fault ]) (sym found)

pub split-later : {V : Type 0} (value : V → Cost) (states : List (State V)) (q : ℕ) (arcs : List (Arc V ℕ)) → option_map (λ s. s.arcs) (slice_get states q) ≡ Some arcs → None ≡ split_arc q 0 (map (valued_arc value) arcs) → split_state q (map (valued_state value) (drop q states)) ≡ split_state (q + 1) (map (valued_state value) (drop (q + 1) states))
split-later value states q arcs h none = split-step value states q arcs h ∙ ap (λ (o : Option PrintFault). elim o [ None ↦ split_state (q + 1) (map (valued_state value) (drop (q + 1) states)) | Some fault ↦ Some fault ]) (sym none)

-- a state has no more arcs than a machine may have
pub few-arcs : {V : Type 0} (states : List (State V)) (q : ℕ) (arcs : List (Arc V ℕ)) → option_map (λ s. s.arcs) (slice_get states q) ≡ Some arcs → arc_total states ≤ most_arcs → length arcs ≤ most_arcs
few-arcs {V} states q arcs h few =
    let there = state-there states q arcs h in
    let s : State V = there.0 in
    let within = slice_get_within states q s there.1 in
    let at : get_or states q s ≡ s = get_or_from_slice_get states q s s there.1 in
    let count : length (get_or states q s).arcs ≡ length arcs = ap (λ (t : State V). length t.arcs) at ∙ ap length there.2 in
    let sum = get_or-le-sum_by (λ (t : State V). length t.arcs) states q s within in
    omega arith

-- the lines of a state are those of its arcs, and then that of its final weight
module _ {V : Type 0} (value : V → Cost) (options : Options) (states : List (State V)) (q : ℕ) (arcs : List (Arc V ℕ)) (w : V) (has : option_map (λ s. s.arcs) (slice_get states q) ≡ Some arcs) (ends : option_map (λ s. s.final) (slice_get states q) ≡ Some w) where
  abbrev front : List Entry
  front = map (arc_entry q) (map (valued_arc value) arcs)

  abbrev last : List Entry
  last = final_entries q (value w) (map (valued_arc value) arcs)

  pub state-pushed : (kind : ArcType) (old a b : List ℕ) → a ≡ old ++ text_of_entries kind options front → b ≡ a ++ text_of_entries kind options last → b ≡ old ++ text_of_entries kind options (entries_at q (map (valued_state value) states))
  state-pushed kind old a b first second = texts-append kind options old a b front last first second ∙ ap (λ (es : List Entry). old ++ text_of_entries kind options es) (sym (entries-read value states q arcs w has ends))

  pub state-named : unnamed_label options front ≡ None → unnamed_label options (entries_at q (map (valued_state value) states)) ≡ None
  state-named named = ap (unnamed_label options) (entries-read value states q arcs w has ends) ∙ entries-behind options front last named ∙ final-unnamed options q (value w) (map (valued_arc value) arcs)
