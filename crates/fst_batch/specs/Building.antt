-- The lattice of a line whose walk is over.
use Rattle.std.specs.Prelude.{◌≡◌, ◌≤◌, ℕ, All, List, Some, length, map}
use Rattle.fst_semiring.specs.Cost.{Cost}
use Rattle.fst_semiring.specs.declared.arc_type.ArcType.{ArcType}
use Rattle.fst_machine.specs.BreadthFirst.{Has, IsBreadthFirst}
use Rattle.fst_machine.specs.Machine.{Arc, Machine, most_states}
use Rattle.fst_walk.specs.Making.{IsReached}
use Rattle.fst_delayed.specs.Graphs.{IsKeyOf, delayed_graph}
use Rattle.fst_delayed.specs.Handed.{Name}
use Rattle.fst_lattice.specs.Lattice.{HasNoZero, Point, lattice, point}
use Rattle.fst_lattice.specs.Walks.{AreAmong}
use Rattle.fst_batch.specs.Answers.{IsAnswer}
use Rattle.fst_batch.specs.declared.answer.LineAnswer.{LineAnswer}

-- the arcs that read this label lead to names of the list, at this position
abbrev pub AreFound : {N : Type 0} → List (Point N) → ℕ → ℕ → List (Arc Cost N) → Type 0
AreFound names label position arcs = (a : Arc Cost _) → Has arcs a → a.ilabel ≡ label → Has names (point position a.next)

-- These are all names of the lattice of a line over two machines. Their names in the composition are names of states of the
-- machines, and are known.
pub record IsWhole {V : Type 0} (kind : ArcType) (value : V → Cost) (d : Machine V × Machine V) (line : List ℕ) (known : List (Name ℕ ℕ)) (points : List (Point (Name ℕ ℕ))) : Type 0 where
  pub start : Point (Name ℕ ℕ)
  pub starts : (lattice line (delayed_graph kind value d)).start ≡ Some start
  pub listed : IsBreadthFirst (lattice line (delayed_graph kind value d)) start points
  pub few : length points ≤ most_states
  pub keys : All (λ p. IsKeyOf d p.name) points
  pub held : AreAmong (map (λ p. p.name) points) known

-- It is the answer of a line without a byte 0 whose lattice has these names, whatever limit they do not pass.
abbrev pub AnswersWhole : {V : Type 0} → ArcType → (V → Cost) → Machine V × Machine V → ℕ → List ℕ → List (Point (Name ℕ ℕ)) → LineAnswer V → Type 0
AnswersWhole kind value d n line points answer = (limit : ℕ) → HasNoZero line
    → IsReached (lattice line (delayed_graph kind value d)) limit points → IsAnswer kind (delayed_graph kind value d) n limit line value answer
