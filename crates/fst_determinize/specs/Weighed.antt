-- What is known of a subset of the states of a machine.
use Rattle.std.specs.Prelude.{◌≡◌, ◌≢◌, ◌<◌, ℕ, List, Some, slice_get, length}
use Rattle.fst_semiring.specs.Cost.{Cost, infinite}
use Rattle.fst_semiring.specs.declared.arc_type.ArcType.{ArcType}
use Rattle.fst_machine.specs.BreadthFirst.{Has}
use Rattle.fst_machine.specs.Graph.{Graph, graph_of}
use Rattle.fst_machine.specs.Machine.{Arc, Machine, most_states, valued}
use Rattle.fst_trim.specs.Weighed.{IsWeighed}
use Rattle.fst_walk.specs.Names.{IsGoodArc, IsNear}
use Rattle.fst_determinize.specs.Kept.{IsModest}
use Rattle.fst_determinize.specs.Subsets.{IsSubset, Member}
use Rattle.fst_determinize.specs.Ways.{subsets}

-- Members that are states of so many, with residuals that are not Zero and can be computed with.
pub record AreMembers (states : ℕ) (members : List Member) : Type 0 where
  pub state : (m : Member) → Has members m → m.state < states
  pub modest : (m : Member) → Has members m → IsModest m.residual
  pub not_zero : (m : Member) → Has members m → m.residual ≢ infinite

-- The arcs of subsets that the start reaches have labels in range and weights that are not Zero.
abbrev pub HasGoodArcs : ArcType → Graph ℕ → Type 0
HasGoodArcs kind g = (n : List Member) → IsNear (subsets kind g) n → (k : ℕ) (a : Arc Cost (List Member))
    → slice_get ((subsets kind g).arcs n) k ≡ Some a → IsGoodArc a

-- The members of the subset of a word with fewer labels than a machine can have states are such members.
abbrev pub MemberLaw : {V : Type 0} → ArcType → (V → Cost) → Machine V → Type 0
MemberLaw kind value m = IsWeighed kind value m → (word : List ℕ) (b : Cost) (s : List Member) → IsSubset kind (graph_of (valued value m)) word b s
    → length word < most_states → AreMembers (length m.states) s
