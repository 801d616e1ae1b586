-- The graph of weighted subsets, made subset by subset. (Mohri 2009, weighted determinization: the arc on a label weighs
-- the best, over the members and their arcs with it, of residual Times arc weight, and each residual of its end is the
-- best that reaches a state, divided by that weight.)
use Rattle.std.specs.Prelude.{◌≡◌, ℕ, List, [], ◌∷◌, Some, cond, map, nat_eq, nat_lt, slice_get}
use Rattle.std.specs.List.{filter, flat_map}
use Rattle.std.specs.Option.{option_map}
use Rattle.fst_semiring.specs.Cost.{Cost, infinite, plus}
use Rattle.fst_semiring.specs.declared.arc_type.ArcType.{ArcType}
use Rattle.fst_semiring.specs.Division.{quotient}
use Rattle.fst_semiring.specs.Semiring.{one_of, times}
use Rattle.fst_machine.specs.Graph.{Graph}
use Rattle.fst_machine.specs.Machine.{Arc}
use Rattle.fst_determinize.specs.Subsets.{Member}

-- A way from a subset: an arc of a member, with the weight of residual and arc together.
pub record Way : Type 0 where
  pub label : ℕ
  pub state : ℕ
  pub weight : Cost

-- the way of a member by an arc
abbrev pub way_by : ArcType → Member → Arc Cost ℕ → Way
way_by kind m a = record { label = a.ilabel; state = a.next; weight = times kind m.residual a.weight }

-- the ways of a member, in the order of its arcs
abbrev pub member_ways : ArcType → Graph ℕ → Member → List Way
member_ways kind g m = map (way_by kind m) (g.arcs m.state)

-- the ways of all members
abbrev pub ways : ArcType → Graph ℕ → List Member → List Way
ways kind g members = flat_map (member_ways kind g) members

-- the best weight of elements, Zero where there are none
abbrev pub best_by : {X : Type 0} → (X → Cost) → List X → Cost
best_by weigh [] = infinite
best_by weigh (x ∷ xs) = plus (weigh x) (best_by weigh xs)

-- the best weight of ways
abbrev pub best_of : List Way → Cost
best_of ys = best_by (λ y. y.weight) ys

-- those with this key, in order
abbrev pub having : {X : Type 0} → (X → ℕ) → ℕ → List X → List X
having key k xs = filter (λ x. nat_eq (key x) k) xs

-- a number put into an ascending list, where it is not there yet
abbrev pub put_number : ℕ → List ℕ → List ℕ
put_number n [] = n ∷ []
put_number n (m ∷ ms) = cond (nat_lt n m) (n ∷ m ∷ ms) (cond (nat_eq n m) (m ∷ ms) (m ∷ put_number n ms))

-- the numbers of a list in ascending order, each once
abbrev pub ascending : List ℕ → List ℕ
ascending [] = []
ascending (n ∷ ns) = put_number n (ascending ns)

-- For each key that occurs, in ascending order, what is made of it and of those that have it.
abbrev pub grouped : {X A : Type 0} → (X → ℕ) → (ℕ → List X → A) → List X → List A
grouped key make xs = map (λ k. make k (having key k xs)) (ascending (map key xs))

module _ (kind : ArcType) where
  -- the member of the ways to a state, where this is divided off
  abbrev pub member_by : Cost → ℕ → List Way → Member
  member_by by q ys = record { state = q; residual = quotient kind (best_of ys) by }

  -- the members of ways, by state
  abbrev pub members_of : Cost → List Way → List Member
  members_of by ys = grouped (λ y. y.state) (member_by by) ys

  -- the arc of the ways with a label
  abbrev pub arc_by : ℕ → List Way → Arc Cost (List Member)
  arc_by label ys = record { ilabel = label; olabel = label; weight = best_of ys; next = members_of (best_of ys) ys }

  -- the arcs of ways, by label
  abbrev pub arcs_by : List Way → List (Arc Cost (List Member))
  arcs_by ys = grouped (λ y. y.label) arc_by ys

  -- the arc of a way that is the only one with its label
  abbrev pub single_arc : Way → Arc Cost (List Member)
  single_arc y = arc_by y.label (y ∷ [])

  -- the final weight of a subset: the best, over its members, of residual Times final weight
  abbrev pub final_by : Graph ℕ → List Member → Cost
  final_by g members = best_by (λ m. times kind m.residual (g.final m.state)) members

  -- the subset of the empty word
  abbrev pub start_members : ℕ → List Member
  start_members p = record { state = p; residual = one_of kind } ∷ []

  -- the graph of the subsets of a graph
  abbrev pub subsets : Graph ℕ → Graph (List Member)
  subsets g = record { start = option_map start_members g.start; arcs = λ members. arcs_by (ways kind g members); final = final_by g }

-- both labels of each arc are the same
abbrev pub IsAcceptor : {N : Type 0} → Graph N → Type 0
IsAcceptor {N} g = (p : N) (k : ℕ) (a : Arc Cost N) → slice_get (g.arcs p) k ≡ Some a → a.ilabel ≡ a.olabel
