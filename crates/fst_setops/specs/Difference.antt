-- The difference of an acceptor and a deterministic one without epsilon and without weights. (Mohri 2009, section 3.5:
-- the difference of a weighted acceptor and an unweighted one is its intersection with the complement of that one; here
-- the complement is not made.)
use Rattle.std.specs.Prelude.{◌≡◌, ℕ, zero, suc, ◌+◌, ◌*◌, Bool, true, false, ◌&&◌, if◌then◌else◌, List, [], ◌∷◌, Option, None, Some, cond, map, nat_eq, nat_lt, slice_get}
use Rattle.std.specs.Option.{option_map}
use Rattle.fst_semiring.specs.Cost.{Cost, infinite, is_infinite}
use Rattle.fst_machine.specs.Machine.{Arc, Machine, valued}
use Rattle.fst_machine.specs.Graph.{Graph, graph_of}

-- A state of the first machine, and the state of the second in which what was read leads it, or none.
pub record Rest (N M : Type 0) : Type 0 where
  pub first : N
  pub second : Option M

-- where the first arc with the label leads, if there is one
abbrev pub next_by : {M : Type 0} → ℕ → List (Arc Cost M) → Option M
next_by label [] = None
next_by label (a ∷ arcs) = cond (nat_eq a.ilabel label) (Some a.next) (next_by label arcs)

-- the second part after a label: epsilon leaves it; it stays none
abbrev pub followed : {M : Type 0} → Graph M → ℕ → Option M → Option M
followed b zero s = s
followed b (suc l) None = None
followed b (suc l) (Some q) = next_by (suc l) (b.arcs q)

-- the arc of the first machine with this second part behind it
abbrev pub rest_at : {N M : Type 0} → Option M → Arc Cost N → Arc Cost (Rest N M)
rest_at s a = record { ilabel = a.ilabel; olabel = a.olabel; weight = a.weight; next = record { first = a.next; second = s } }

-- the arc of the first machine, with what it makes of the second part
abbrev pub rest_arc : {N M : Type 0} → Graph M → Option M → Arc Cost N → Arc Cost (Rest N M)
rest_arc b s a = rest_at (followed b a.ilabel s) a

-- whether the second part is a final state of the second machine
abbrev pub is_final : {M : Type 0} → Graph M → Option M → Bool
is_final b None = false
is_final b (Some q) = cond (is_infinite (b.final q)) false true

-- The difference: the arcs of the first machine, in order; final where the first part is and the second is not.
abbrev pub difference : {N M : Type 0} → Graph N → Graph M → Graph (Rest N M)
difference {N} {M} a b = record {
  start = option_map (λ (p : N). record { first = p; second = b.start }) a.start;
  arcs = λ n. map (rest_arc b n.second) (a.arcs n.first);
  final = λ n. cond (is_final b n.second) infinite (a.final n.first);
}

-- no arc reads epsilon
abbrev pub IsEpsilonFree : {M : Type 0} → Graph M → Type 0
IsEpsilonFree {M} b = (q : M) (k : ℕ) (x : Arc Cost M) → slice_get (b.arcs q) k ≡ Some x → (l : ℕ) × (x.ilabel ≡ suc l)

-- the difference of two machines
abbrev pub subtraction : {V : Type 0} → (V → Cost) → Machine V → Machine V → Graph (Rest ℕ ℕ)
subtraction value a b = difference (graph_of (valued value a)) (graph_of (valued value b))

-- the number of a second part: 0 where there is none
abbrev pub second_number : Option ℕ → ℕ
second_number None = 0
second_number (Some q) = q + 1

-- whether the parts of a name have room in one number
abbrev pub has_room : Rest ℕ ℕ → Bool
has_room n = nat_lt n.first 2147483648 && nat_lt (second_number n.second) 2147483648

-- the number by which a name is found: its parts side by side; 0 where they have no room
abbrev pub rest_number : Rest ℕ ℕ → ℕ
rest_number n = if has_room n then 1 + n.first + second_number n.second * 2147483648 else 0
