-- A machine whose states stand in two lists, one behind the other: its length and its bytes.
use Rattle.std.proofs.Common.{◌≡◌, ℕ, ◌+◌, List, ◌++◌, length, map, Option, sym, ap, ◌∙◌, append_assoc, arith}
use Rattle.std.specs.List.{flat_map}
use Rattle.std.proofs.lemmas.Grind.{flat_map-append}
use Rattle.std.proofs.lemmas.List.{length-append, length-map, map-append}
use Rattle.std.proofs.lemmas.List.Sums.{sum_by-append}
use Rattle.fst_semiring.specs.declared.arc_type.ArcType.{ArcType}
use Rattle.fst_semiring.specs.Cost.{Cost}
use Rattle.fst_machine.specs.Machine.{Machine, State, arc_total, valued, valued_state}
use Rattle.fst_machine.proofs.Valued.{arc_total-valued}
use Rattle.fst_binary.specs.Sides.{Sides, side_fields}
use Rattle.fst_binary.specs.Spelling.{header_fields, name_of, state_fields, tabled_spelling}
use Rattle.fst_binary.proofs.Lengths.{header_and_states, spelling_length}

-- the arcs of both
pub arcs_of_parts : {V : Type 0} (first second : List (State V)) → arc_total (first ++ second) ≡ arc_total first + arc_total second
arcs_of_parts {V} first second = sum_by-append (λ (s : State V). length s.arcs) first second

-- what is written of both
pub written_parts : {X Y : Type 0} (f : Y → List ℕ) (g : X → Y) (first second : List X) → flat_map f (map g (first ++ second)) ≡ flat_map f (map g first) ++ flat_map f (map g second)
written_parts f g first second = ap (flat_map f) (map-append g first second) ∙ flat_map-append f (map g first) (map g second)

pub length_of_parts : {X Y : Type 0} (f : Y → List ℕ) (g : X → Y) (first second : List X) → length (flat_map f (map g (first ++ second))) ≡ length (flat_map f (map g first)) + length (flat_map f (map g second))
length_of_parts f g first second = ap length (written_parts f g first second) ∙ length-append (flat_map f (map g first)) (flat_map f (map g second))

-- what stands before the states, and these behind it
pub spelled_behind : {V : Type 0} (value : V → Cost) (kind k : ArcType) (m : Machine V) (s : Sides) (start : Option ℕ) (states arcs : ℕ) (out : List ℕ) → k ≡ kind → start ≡ m.start → states ≡ length m.states → arcs ≡ arc_total m.states → out ≡ header_fields k s start states arcs
    → out ++ flat_map (state_fields kind) (map (valued_state value) m.states) ≡ tabled_spelling kind (valued value m) s
spelled_behind value kind k m s start states arcs out e f n a h =
    let count : states ≡ length (map (valued_state value) m.states) = n ∙ sym (length-map m.states (valued_state value)) in
    let total : arcs ≡ arc_total (map (valued_state value) m.states) = a ∙ sym (arc_total-valued value m.states) in
    let same : header_fields k s start states arcs ≡ header_fields kind s m.start (length (map (valued_state value) m.states)) (arc_total (map (valued_state value) m.states)) =
    ap (λ x. header_fields x s start states arcs) e ∙ (ap (λ x. header_fields kind s x states arcs) f ∙ (ap (λ x. header_fields kind s m.start x arcs) count ∙ ap (header_fields kind s m.start (length (map (valued_state value) m.states))) total)) in
    ap (λ front. front ++ flat_map (state_fields kind) (map (valued_state value) m.states)) (h ∙ same) ∙ header_and_states kind (valued value m) s

pub front_length : {V : Type 0} (value : V → Cost) (kind k : ArcType) (m : Machine V) (s : Sides) (start : Option ℕ) (states arcs : ℕ) (out : List ℕ) → k ≡ kind → start ≡ m.start → states ≡ length m.states → arcs ≡ arc_total m.states → out ≡ header_fields k s start states arcs
    → length out ≡ 58 + length (name_of kind) + length (side_fields s.isymbols) + length (side_fields s.osymbols)
front_length value kind k m s start states arcs out e f n a h =
    let spelled = spelled_behind value kind k m s start states arcs out e f n a h in
    let both = length-append out (flat_map (state_fields kind) (map (valued_state value) m.states)) in
    omega (arith, ap length spelled, both, spelling_length kind (valued value m) s)

-- how long the bytes are where the states stand in two lists
pub joined_length : {V : Type 0} (value : V → Cost) (kind : ArcType) (m : Machine V) (s : Sides) (first second : List (State V)) → m.states ≡ first ++ second
    → length (tabled_spelling kind (valued value m) s) ≡ 58 + length (name_of kind) + length (side_fields s.isymbols) + length (side_fields s.osymbols) + length (flat_map (state_fields kind) (map (valued_state value) (first ++ second)))
joined_length value kind m s first second e =
    let same = ap (λ states. length (flat_map (state_fields kind) (map (valued_state value) states))) e in
    omega (arith, same, spelling_length kind (valued value m) s)

-- and what they are
pub joined_spelled : {V : Type 0} (value : V → Cost) (kind k : ArcType) (m : Machine V) (s : Sides) (first second : List (State V)) (start : Option ℕ) (states arcs : ℕ) (out one two : List ℕ) → m.states ≡ first ++ second → k ≡ kind → start ≡ m.start → states ≡ length m.states → arcs ≡ arc_total m.states → out ≡ header_fields k s start states arcs
    → one ≡ out ++ flat_map (state_fields kind) (map (valued_state value) first) → two ≡ one ++ flat_map (state_fields kind) (map (valued_state value) second) → two ≡ tabled_spelling kind (valued value m) s
joined_spelled value kind k m s first second start states arcs out one two parts e f n a h front back =
    let fields = state_fields kind in
    let v = valued_state value in
    back
    ∙ (ap (λ items. items ++ flat_map fields (map v second)) front
    ∙ (append_assoc out (flat_map fields (map v first)) (flat_map fields (map v second))
    ∙ (ap (λ items. out ++ items) (sym (written_parts fields v first second))
    ∙ (ap (λ states. out ++ flat_map fields (map v states)) (sym parts)
    ∙ spelled_behind value kind k m s start states arcs out e f n a h))))
