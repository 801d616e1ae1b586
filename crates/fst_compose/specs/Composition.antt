-- The composition of two graphs. (Mohri 2009, section 4.1: an arc of the one and an arc of the other that
-- match go together, epsilon lets one machine go alone, and a filter lets just one order of such arcs through,
-- so that no pair of paths is counted twice.)
use Rattle.std.specs.Prelude.{ℕ, zero, suc, ◌<◌, List, [], ◌∷◌, ◌++◌, Option, None, Some, cond, length, nat_eq}
use Rattle.std.specs.List.{flat_map}
use Rattle.fst_semiring.specs.Cost.{Cost}
use Rattle.fst_semiring.specs.declared.arc_type.ArcType.{ArcType}
use Rattle.fst_semiring.specs.Semiring.{times}
use Rattle.fst_machine.specs.Machine.{Arc, Machine, valued}
use Rattle.fst_machine.specs.Graph.{Graph, graph_of}
use Rattle.fst_compose.specs.Names.{Name, name_at}

-- one value for epsilon, another for each other label; and one value for filter 0, another for filter 1
abbrev pub by_label : {X : Type 0} → ℕ → X → X → X
by_label zero a b = a
by_label (suc n) a b = b

module _ {N M : Type 0} (kind : ArcType) where
  -- two arcs together: the first's input label, the second's output label, the product of the weights
  abbrev pub both_arc : Arc Cost N → Arc Cost M → Arc Cost (Name N M)
  both_arc a b = record { ilabel = a.ilabel; olabel = b.olabel; weight = times kind a.weight b.weight; next = name_at a.next b.next 0 }

  -- the arc of the two together, where the first writes what the second reads
  abbrev pub match_arcs : Arc Cost N → Arc Cost M → List (Arc Cost (Name N M))
  match_arcs a b = cond (nat_eq a.olabel b.ilabel) (both_arc a b ∷ []) []

-- the first machine goes alone by an arc that writes epsilon
abbrev pub first_alone : {N M : Type 0} → Name N M → Arc Cost N → Arc Cost (Name N M)
first_alone n a = record { ilabel = a.ilabel; olabel = 0; weight = a.weight; next = name_at a.next n.second 0 }

-- the second machine goes alone by an arc that reads epsilon; then the first may not go alone next
abbrev pub second_alone : {N M : Type 0} → Name N M → Arc Cost M → Arc Cost (Name N M)
second_alone n b = record { ilabel = 0; olabel = b.olabel; weight = b.weight; next = name_at n.first b.next 1 }

-- What an arc of the first machine gives: where it writes epsilon, itself alone if the filter is at 0; else an
-- arc with each matching arc of the second machine, in order.
abbrev pub first_arcs : {N M : Type 0} → ArcType → Name N M → List (Arc Cost M) → Arc Cost N → List (Arc Cost (Name N M))
first_arcs kind n bs a = by_label a.olabel (by_label n.filter (first_alone n a ∷ []) []) (flat_map (match_arcs kind a) bs)

-- what an arc of the second machine gives: itself alone, where it reads epsilon
abbrev pub second_arcs : {N M : Type 0} → Name N M → Arc Cost M → List (Arc Cost (Name N M))
second_arcs n b = by_label b.ilabel (second_alone n b ∷ []) []

-- the start is at both starts, with the filter at 0, where both machines have one
abbrev pub start_name : {N M : Type 0} → Option N → Option M → Option (Name N M)
start_name None second = None
start_name (Some p) None = None
start_name (Some p) (Some q) = Some (name_at p q 0)

-- The composition: what the arcs of the first state give, in order, then what those of the second state give,
-- in order; the final weight is the product of both.
abbrev pub composed : {N M : Type 0} → ArcType → Graph N → Graph M → Graph (Name N M)
composed kind a b = record {
  start = start_name a.start b.start;
  arcs = λ n. flat_map (first_arcs kind n (b.arcs n.second)) (a.arcs n.first) ++ flat_map (second_arcs n) (b.arcs n.second);
  final = λ n. times kind (a.final n.first) (b.final n.second);
}

-- the composition of two machines
abbrev pub composition : {V : Type 0} → ArcType → (V → Cost) → Machine V → Machine V → Graph (Name ℕ ℕ)
composition kind value a b = composed kind (graph_of (valued value a)) (graph_of (valued value b))

-- the states of a name are states of these machines
abbrev pub IsInside : {V : Type 0} → Machine V → Machine V → Name ℕ ℕ → Type 0
IsInside a b n = (n.first < length a.states) × (n.second < length b.states)
