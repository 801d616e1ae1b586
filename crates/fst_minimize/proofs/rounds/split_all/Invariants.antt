use Rattle.std.proofs.Common.{ℕ, List}
use Rattle.fst_minimize.specs.Numbered.{SeenRows}
use Rattle.fst_minimize.specs.Numberers.{HasSeen}
use Rattle.fst_minimize.proofs.rounds.split_all.Given as goal

abbrev pub invariant-loop-state : goal.invariant-loop-state
invariant-loop-state l = (seen : List (ℕ × List ℕ)) × SeenRows l.current.numbers.items l.rows l.state seen × HasSeen seen l.numberer
