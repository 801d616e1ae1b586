-- The answer of a line: the best paths of its lattice, or the first reason why it has none.
use Rattle.std.specs.Prelude.{◌≡◌, ◌<◌, ℕ, List, map}
use Rattle.fst_semiring.specs.Cost.{Cost}
use Rattle.fst_semiring.specs.declared.arc_type.ArcType.{ArcType}
use Rattle.fst_machine.specs.Graph.{Graph}
use Rattle.fst_walk.specs.Answers.{HasManyArcs, ReachesMore}
use Rattle.fst_lattice.specs.Lattice.{HasNoZero, lattice}
use Rattle.fst_batch.specs.BestPaths.{HasGreatWeight, Improves, IsListed, IsNotText, valued_told}
use Rattle.fst_batch.specs.declared.fault.LineFault.{LineFault}
use Rattle.fst_batch.specs.declared.fault.LineFault.TheVariants.{BadByte, ImprovingCycle, NotText, Overflow, StateLimit, TooManyArcs}
use Rattle.fst_batch.specs.declared.answer.LineAnswer.{LineAnswer}
use Rattle.fst_batch.specs.declared.answer.LineAnswer.TheVariants.{Listed, Refused}

-- the order in which faults are looked for
abbrev pub place_of : LineFault → ℕ
place_of BadByte = 0
place_of (StateLimit limit) = 1
place_of TooManyArcs = 2
place_of ImprovingCycle = 3
place_of Overflow = 4
place_of (NotText label) = 5

-- how many there are
abbrev pub all_faults : ℕ
all_faults = 6

-- a graph, how many paths are asked for, how many names the lattice may have, and a line
module _ {N : Type 0} (kind : ArcType) (g : Graph N) (n limit : ℕ) (line : List ℕ) where
  -- The fault stands against the line: it holds a byte 0; its lattice has more names than the limit, or too many arcs, or a cycle
  -- better than One on its successful paths; one of the n best of these has a weight out of range; a label that they write is
  -- no text.
  abbrev pub Stands : LineFault → Type 0
  Stands BadByte = HasNoZero line → ⊥
  Stands (StateLimit most) = (most ≡ limit) × ReachesMore (lattice line g) limit
  Stands TooManyArcs = HasManyArcs (lattice line g) limit
  Stands ImprovingCycle = Improves kind (lattice line g)
  Stands Overflow = HasGreatWeight kind (lattice line g) n
  Stands (NotText label) = IsNotText kind (lattice line g) n label

  -- no fault in front of this place of the order stands against the line
  abbrev pub NoneBefore : ℕ → Type 0
  NoneBefore place = (fault : LineFault) → place_of fault < place → Stands fault → ⊥

  -- The answer of the line: the first fault that stands against it; where there is none, what is told of the n best paths of
  -- its lattice.
  abbrev pub IsAnswer : {V : Type 0} → (V → Cost) → LineAnswer V → Type 0
  IsAnswer value (Listed told) = NoneBefore all_faults × IsListed kind (lattice line g) n (map (valued_told value) told)
  IsAnswer value (Refused fault) = NoneBefore (place_of fault) × Stands fault
