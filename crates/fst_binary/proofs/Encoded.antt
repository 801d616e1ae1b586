-- What is encoded has a spelling.
use Rattle.std.proofs.Common.{◌≡◌, ℕ, ◌<◌, List, [], ◌∷◌, ◌++◌, length, map, Option, Ok, Err, Some, All, Bool, true, false, cond, eqb, Result, refl, sym, ap, subst, ◌∙◌, ◌||◌, zero, suc, get_or, append_assoc, arith}
use Rattle.std.specs.Prelude.{Contains, IfOk, IfSome, bytes_eq}
use Rattle.std.specs.List.{AllByRecursion, find, flat_map, list_any}
use Rattle.std.proofs.lemmas.Bool.{eq-eqb}
use Rattle.std.proofs.lemmas.Slice.Eq.{bytes_eq-Decides}
use Rattle.std.proofs.lemmas.List.{length-map}
use Rattle.std.proofs.lemmas.List.Elements.{All-from_recursion, recursion_from_All}
use Rattle.fst_semiring.specs.declared.arc_type.ArcType.{ArcType}
use Rattle.fst_semiring.specs.declared.arc_type.ArcType.TheVariants.{Boolean, Tropical, MinMax, Lexicographic}
use Rattle.fst_semiring.specs.Cost.{Cost}
use Rattle.fst_machine.specs.Machine.{Arc, State, Machine, IsArc, IsMachine, valued, valued_arc, valued_state}
use Rattle.fst_binary.specs.Sides.{HasSides, Sides, flags_of, neither, side_fields, version_of}
use Rattle.fst_binary.specs.Spelling.{HasFields, HasSpelling, count_fields, state_fields, tabled_spelling, type_fields}
use Rattle.fst_bytes.specs.Spelling.{HasField, long, word}
use Rattle.fst_semiring.specs.Names.{known, name_of}
use Rattle.fst_binary.specs.Reading.{arc_type_of_bytes, machine_of_bytes, tabled_of_bytes}
use Rattle.fst_binary.proofs.Headers.{types_again}
use Rattle.fst_bytes.proofs.Names.{IsNamed}
use Rattle.fst_bytes.proofs.Lengths.{length-long}
use Rattle.fst_machine.proofs.Valued.{arc_total-valued}
use Rattle.fst_binary.proofs.Machines.{machine_again, tabled_again}

-- what holds of each value of a weight
value_arcs : {V : Type 0} (value : V → Cost) (n : ℕ) (arcs : List (Arc V ℕ)) → AllByRecursion (IsArc value n) arcs → AllByRecursion (IsArc (λ v. v) n) (map (valued_arc value) arcs)
value_arcs value n [] h = tt
value_arcs value n (a ∷ arcs) h = (record { ilabel = h.0.ilabel; olabel = h.0.olabel; weight = h.0.weight; next = h.0.next }, value_arcs value n arcs h.1)

value_weights : {V : Type 0} (value : V → Cost) (kind : ArcType) (arcs : List (Arc V ℕ)) → AllByRecursion (λ a. HasField kind (value a.weight)) arcs → AllByRecursion (λ a. HasField kind a.weight) (map (valued_arc value) arcs)
value_weights value kind [] h = tt
value_weights value kind (a ∷ arcs) h = (h.0, value_weights value kind arcs h.1)

arcs_of_values : {V : Type 0} (value : V → Cost) (n : ℕ) (ss : List (State V)) → AllByRecursion (λ s. All (IsArc value n) s.arcs) ss → AllByRecursion (λ s. All (IsArc (λ v. v) n) s.arcs) (map (valued_state value) ss)
arcs_of_values value n [] h = tt
arcs_of_values value n (s ∷ ss) h = (All-from_recursion (IsArc (λ v. v) n) (map (valued_arc value) s.arcs) (value_arcs value n s.arcs (recursion_from_All (IsArc value n) s.arcs h.0)), arcs_of_values value n ss h.1)

finals_of_values : {V : Type 0} (value : V → Cost) (kind : ArcType) (ss : List (State V)) → AllByRecursion (HasFields value kind) ss → AllByRecursion (λ s. HasField kind s.final) (map (valued_state value) ss)
finals_of_values value kind [] h = tt
finals_of_values value kind (s ∷ ss) h = (h.0.0, finals_of_values value kind ss h.1)

weights_of_values : {V : Type 0} (value : V → Cost) (kind : ArcType) (ss : List (State V)) → AllByRecursion (HasFields value kind) ss → AllByRecursion (λ s. All (λ a. HasField kind a.weight) s.arcs) (map (valued_state value) ss)
weights_of_values value kind [] h = tt
weights_of_values value kind (s ∷ ss) h = (All-from_recursion (λ a. HasField kind a.weight) (map (valued_arc value) s.arcs) (value_weights value kind s.arcs (recursion_from_All (λ a. HasField kind (value a.weight)) s.arcs h.0.1)), weights_of_values value kind ss h.1)

same_start : (s : Option ℕ) (n k : ℕ) → n ≡ k → IfSome s (λ x. x < k) → IfSome s (λ x. x < n)
same_start s n k e h = rw e h

pub HasSpelling-valued : {V : Type 0} (value : V → Cost) (kind : ArcType) (m : Machine V) → IsMachine value m → All (λ s. HasField kind (value s.final) × All (λ a. HasField kind (value a.weight)) s.arcs) m.states → HasSpelling kind (valued value m)
HasSpelling-valued {V} value kind m machine fields =
    let ss = map (valued_state value) m.states in
    let count : length ss ≡ length m.states = length-map m.states (valued_state value) in
    let arcs = All-from_recursion (λ s. All (IsArc (λ v. v) (length m.states)) s.arcs) ss (arcs_of_values value (length m.states) m.states (recursion_from_All (λ s. All (IsArc value (length m.states)) s.arcs) m.states machine.arcs)) in
    let each = recursion_from_All (HasFields value kind) m.states fields in
    record {
      machine = record {
        start = same_start m.start (length ss) (length m.states) count machine.start;
        arcs = subst (λ (n : ℕ). All (λ s. All (IsArc (λ v. v) n) s.arcs) ss) (sym count) arcs;
        few_states = omega (arith, count, machine.few_states);
        few_arcs = omega (arith, arc_total-valued value m.states, machine.few_arcs);
      };
      finals = All-from_recursion (λ s. HasField kind s.final) ss (finals_of_values value kind m.states each);
      weights = All-from_recursion (λ s. All (λ a. HasField kind a.weight) s.arcs) ss (weights_of_values value kind m.states each);
    }

-- ---- the arc type of a spelling

-- arc types with one name are one
names_apart : (a b : ArcType) → bytes_eq (name_of a) (name_of b) ≡ true → a ≡ b
names_apart Boolean Boolean e = refl
names_apart Boolean Tropical e = absurd cc
names_apart Boolean MinMax e = absurd cc
names_apart Boolean Lexicographic e = absurd cc
names_apart Tropical Boolean e = absurd cc
names_apart Tropical Tropical e = refl
names_apart Tropical MinMax e = absurd cc
names_apart Tropical Lexicographic e = absurd cc
names_apart MinMax Boolean e = absurd cc
names_apart MinMax Tropical e = absurd cc
names_apart MinMax MinMax e = refl
names_apart MinMax Lexicographic e = absurd cc
names_apart Lexicographic Boolean e = absurd cc
names_apart Lexicographic Tropical e = absurd cc
names_apart Lexicographic MinMax e = absurd cc
names_apart Lexicographic Lexicographic e = refl

or_true : (a b : Bool) → b ≡ true → (a || b) ≡ true
or_true true b e = refl
or_true false b e = e

length_found : (kinds : List ArcType) (kind : ArcType) (i : ℕ) → i < length kinds → get_or kinds i kind ≡ kind → list_any (λ k. eqb (length (name_of k)) (length (name_of kind))) kinds ≡ true
length_found [] kind i within e = absurd (omega arith)
length_found (k ∷ kinds) kind zero within e = let same : eqb (length (name_of k)) (length (name_of kind)) ≡ true = eq-eqb _ _ (ap (λ (x : ArcType). length (name_of x)) e) in rw same refl
length_found (k ∷ kinds) kind (suc i) within e = or_true _ _ (length_found kinds kind i (omega arith) e)

one_or_later : (k kind : ArcType) (later : Option ArcType) (b : Bool) → (b ≡ true → k ≡ kind) → later ≡ Some kind → cond b (Some k) later ≡ Some kind
one_or_later k kind later true same found = ap (λ (x : ArcType). Some x) (same refl)
one_or_later k kind later false same found = found

name_found : (kinds : List ArcType) (kind : ArcType) (i : ℕ) → i < length kinds → get_or kinds i kind ≡ kind → find (λ k. bytes_eq (name_of k) (name_of kind)) kinds ≡ Some kind
name_found [] kind i within e = absurd (omega arith)
name_found (k ∷ kinds) kind zero within e =
    let same : bytes_eq (name_of k) (name_of kind) ≡ true = (bytes_eq-Decides (name_of k) (name_of kind)).1 (ap name_of e) in
    rw same (ap (λ (x : ArcType). Some x) e)
name_found (k ∷ kinds) kind (suc i) within e = one_or_later k kind (find (λ x. bytes_eq (name_of x) (name_of kind)) kinds) (bytes_eq (name_of k) (name_of kind)) (names_apart k kind) (name_found kinds kind i (omega arith) e)

named_in : (kinds : List ArcType) (kind : ArcType) → Contains kinds kind → IsNamed kinds kind
named_in kinds kind h = record { has = length_found kinds kind h.0 h.1 h.2; is = name_found kinds kind h.0 h.1 h.2 }

begins : (a b c d e f : List ℕ) → a ++ b ++ c ++ d ++ e ++ f ≡ a ++ (b ++ (c ++ (d ++ (e ++ f))))
begins a b c d e f = simp append_assoc

pub type_of_spelling : (kind : ArcType) (m : Machine Cost) (s : Sides) → Contains known kind → arc_type_of_bytes (tabled_spelling kind m s) ≡ Ok kind
unfolding arc_type_of_bytes
type_of_spelling kind m s has =
    let behind = side_fields s.isymbols ++ (side_fields s.osymbols ++ flat_map (state_fields kind) m.states) in
    let r = types_again known kind (tabled_spelling kind m s) _ (named_in known kind has) (begins (type_fields kind) (word (version_of s.isymbols s.osymbols)) (word (flags_of s.isymbols s.osymbols)) (long 3) (count_fields m) behind) in
    rw r.gives refl

-- ---- the same of what a function returned

pub is_again : {X E : Type 0} (kind : ArcType) (m : Machine Cost) (s : Sides) (items : X → List ℕ) (result : Result X E) → HasSpelling kind m → s ≡ neither → IfOk result (λ x. items x ≡ tabled_spelling kind m s) → IfOk result (λ x. machine_of_bytes kind (items x) ≡ Ok m)
is_again kind m s items (Ok x) has none e = ap (machine_of_bytes kind) (e ∙ ap (tabled_spelling kind m) none) ∙ machine_again kind m has
is_again kind m s items (Err f) has none e = tt

pub is_again_tabled : {X E : Type 0} (kind : ArcType) (m : Machine Cost) (s : Sides) (items : X → List ℕ) (result : Result X E) → HasSpelling kind m → HasSides s → IfOk result (λ x. items x ≡ tabled_spelling kind m s) → IfOk result (λ x. tabled_of_bytes kind (items x) ≡ Ok (record { machine = m; sides = s }))
is_again_tabled kind m s items (Ok x) has sided e = ap (tabled_of_bytes kind) e ∙ tabled_again kind (long 3) m s has sided (length-long 3)
is_again_tabled kind m s items (Err f) has sided e = tt

pub is_named : {X E : Type 0} (kind : ArcType) (m : Machine Cost) (s : Sides) (items : X → List ℕ) (result : Result X E) → IfOk result (λ x. items x ≡ tabled_spelling kind m s) → IfOk result (λ x. Contains known kind → arc_type_of_bytes (items x) ≡ Ok kind)
is_named kind m s items (Ok x) e = λ has. ap arc_type_of_bytes e ∙ type_of_spelling kind m s has
is_named kind m s items (Err f) e = tt
