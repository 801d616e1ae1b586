-- What a delayed machine is: contracts see its two machines.
use Rattle.std.specs.Prelude.{ℕ, All, length}
use Rattle.fst_semiring.specs.Cost.{Cost}
use Rattle.fst_semiring.specs.Semiring.{InRange, Within}
use Rattle.fst_semiring.specs.declared.arc_type.ArcType.{ArcType}
use Rattle.fst_machine.specs.Graph.{Graph}
use Rattle.fst_machine.specs.Machine.{Arc, Machine}
use Rattle.fst_walk.specs.Names.{IsGoodArc}
use Rattle.fst_compose.specs.Composition.{composition}
use Rattle.fst_compose.specs.NameLaws.{IsNameBelow}
use Rattle.fst_compose.specs.Names.{Name}

-- the composition of the two machines
abbrev pub delayed_graph : {V : Type 0} → ArcType → (V → Cost) → Machine V × Machine V → Graph (Name ℕ ℕ)
delayed_graph kind value d = composition kind value d.0 d.1

-- a name of states of the machines, with a state of the filter
abbrev pub IsKeyOf : {V : Type 0} → Machine V × Machine V → Name ℕ ℕ → Type 0
IsKeyOf d n = IsNameBelow (length d.0.states) (length d.1.states) n

-- the weights of the graph's arcs are in range
abbrev pub IsRanged : Graph ℕ → Type 0
IsRanged g = (p : ℕ) → All (λ a. InRange a.weight) (g.arcs p)

-- An arc of a name, with labels in range and a weight that is not Zero, whose numbers have absolute value at most 2 times 10 to
-- the 18.
pub record IsSmallArc (a : Arc Cost (Name ℕ ℕ)) : Type 0 where
  pub good : IsGoodArc a
  pub small : Within 2000000000000000000 a.weight

-- so are the arcs of each name of states of the machines
abbrev pub HasSmallArcs : {V : Type 0} → ArcType → (V → Cost) → Machine V × Machine V → Type 0
HasSmallArcs kind value d = (n : Name ℕ ℕ) → IsKeyOf d n → All IsSmallArc ((delayed_graph kind value d).arcs n)
