use Rattle.std.proofs.Common.{◌≡◌, map, take}
use Rattle.fst_minimize.specs.Numbered.{number_in}
use Rattle.fst_minimize.proofs.rounds.put_numbers.Given as goal

abbrev pub invariant-loop-state : goal.invariant-loop-state
invariant-loop-state l = l.out.items ≡ map (number_in l.numbers) (take l.state-index l.states)
