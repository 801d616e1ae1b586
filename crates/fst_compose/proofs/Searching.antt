-- Machines in order let the arcs of their names be searched.
use Rattle.std.proofs.Common.{ℕ, List}
use Rattle.fst_machine.specs.Machine.{Arc, Machine, State}
use Rattle.fst_machine.proofs.Arcs.{mapped_some}
use Rattle.fst_trim.specs.declared.side.Side.{Side}
use Rattle.fst_trim.specs.declared.side.Side.TheVariants.{Input, Output}
use Rattle.fst_trim.specs.Sides.{IsSortedOn, StandsBy}
use Rattle.std.proofs.Common.{slice_get, subst}
use Rattle.fst_compose.specs.Good.{All_at}
use Rattle.fst_compose.specs.Matching.{HasArcs, IsSearchable}
use Rattle.fst_compose.specs.Names.{Name}

-- the arcs of a state of a machine in order
pub state_in_order : {V : Type 0} (side : Side) (m : Machine V) (p : ℕ) (arcs : List (Arc V ℕ)) → IsSortedOn side m → HasArcs m p arcs → StandsBy side arcs
state_in_order {V} side m p arcs sorted has = let s = mapped_some (λ (s : State V). s.arcs) (slice_get m.states p) arcs has in subst (StandsBy side) s.2 (All_at (λ (s : State V). StandsBy side s.arcs) m.states p s.0 sorted s.1)

pub searchable_first : {V : Type 0} (a b : Machine V) (n : Name ℕ ℕ) → IsSortedOn Output a → IsSearchable Output a b n
searchable_first a b n sorted firsts seconds left right = state_in_order Output a n.first firsts sorted left

pub searchable_second : {V : Type 0} (a b : Machine V) (n : Name ℕ ℕ) → IsSortedOn Input b → IsSearchable Input a b n
searchable_second a b n sorted firsts seconds left right = state_in_order Input b n.second seconds sorted right
