-- What is ahead of the states of a machine, found by one sweep.
use Rattle.std.specs.Prelude.{◌≡◌, ℕ, ◌+◌, ◌*◌, ◌<◌, ◌≤◌, List, [], ◌∷◌, Some, length, slice_get}
use Rattle.fst_semiring.specs.Cost.{Cost, infinite}
use Rattle.fst_semiring.specs.declared.arc_type.ArcType.{ArcType}
use Rattle.fst_semiring.specs.Semiring.{times, IsCost, Within}
use Rattle.fst_machine.specs.Machine.{Arc, Machine, valued}
use Rattle.fst_machine.specs.Graph.{Graph, graph_of}
use Rattle.fst_machine.specs.Letters.{product}
use Rattle.fst_machine.specs.Paths.{Transition, IsPath, letters}
use Rattle.fst_nbest.specs.Counts.{count_of, uncounted}
use Rattle.fst_nbest.specs.Ready.{dist_in}
use Rattle.fst_nbest.specs.Words.{NoLess}

-- the path goes on by one of the first k arcs, if by any
abbrev pub BeginsBelow : {N : Type 0} → ℕ → List (Transition N) → Type 0
BeginsBelow k [] = Unit {0}
BeginsBelow k (t ∷ path) = t.place < k

module _ {N : Type 0} (kind : ArcType) (g : Graph N) where
  -- A path to a final name has this weight, with the final weight, and so many arcs.
  pub record Ends (q : N) (v : Cost) (c : ℕ) : Type 0 where
    pub path : List (Transition N)
    pub last : N
    pub leads : IsPath g q path last
    pub final : g.final last ≡ infinite → ⊥
    pub weight : v ≡ times kind (product kind (letters path)) (g.final last)
    pub long : length path ≡ c

  -- The best of the paths to final names that go on by one of the first k arcs, if by any, has weight v, and the shortest
  -- of these c arcs.
  pub record IsNearBelow (k : ℕ) (q : N) (v : Cost) (c : ℕ) : Type 0 where
    pub some : (v ≡ infinite → ⊥) → Ends q v c
    pub least : (path : List (Transition N)) (last : N) → BeginsBelow k path → IsPath g q path last → (g.final last ≡ infinite → ⊥)
        → NoLess v c (times kind (product kind (letters path)) (g.final last)) (length path)

  -- the same of all paths to final names
  abbrev pub IsNear : N → Cost → ℕ → Type 0
  IsNear q v c = (k : ℕ) → IsNearBelow k q v c

module _ {V D : Type 0} (kind : ArcType) (value : V → Cost) (wide : D → Cost) (m : Machine V) (steps : ℕ) where
  -- Behind so many steps of a sweep these are the distances and the counts of the states that were swept, to which all
  -- their arcs lead; the distance of the others is still Zero.
  pub record IsSwept (dist : List D) (count : List ℕ) : Type 0 where
    pub dist_size : length dist ≡ length m.states
    pub count_size : length count ≡ length m.states
    pub near : (q : ℕ) → count_of count q < uncounted → IsNear kind (graph_of (valued value m)) q (dist_in wide dist q) (count_of count q)
    pub along : (q k : ℕ) (a : Arc Cost ℕ) → count_of count q < uncounted → slice_get ((graph_of (valued value m)).arcs q) k ≡ Some a → count_of count a.next < uncounted
    pub others : (q : ℕ) → uncounted ≤ count_of count q → dist_in wide dist q ≡ infinite
    pub few : (q : ℕ) → count_of count q < uncounted → count_of count q < steps
    pub numbers : (q : ℕ) → Within (steps * 1180591620717411303424) (dist_in wide dist q)
    pub kinds : (q : ℕ) → IsCost kind (dist_in wide dist q)

module _ {V : Type 0} (kind : ArcType) (value : V → Cost) (m : Machine V) (steps : ℕ) where
  -- This is ahead of a state by its first k arcs, which lead to states that were swept, in so many steps.
  pub record IsAheadBelow (count : List ℕ) (k q : ℕ) (v : Cost) (c : ℕ) : Type 0 where
    pub near : IsNearBelow kind (graph_of (valued value m)) k q v c
    pub onward : (j : ℕ) (a : Arc Cost ℕ) → j < k → slice_get ((graph_of (valued value m)).arcs q) j ≡ Some a → count_of count a.next < uncounted
    pub few : c ≤ steps
    pub number : Within (steps * 1180591620717411303424 + 1180591620717411303424) v
    pub kind_of : IsCost kind v
