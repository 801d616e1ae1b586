use Rattle.std.proofs.Common.{map, take}
use Rattle.fst_words.specs.Inputs.{input_seen}
use Rattle.fst_command.specs.Views.{held_seen}
use Rattle.fst_command.specs.Steps.{Progress}
use Rattle.fst_command.proofs.reading.read_all.Given as goal

abbrev pub invariant-loop-place : goal.invariant-loop-place
invariant-loop-place g l =
    Progress l.plan (take l.place (map input_seen l.inputs.items)) (held_seen l.held) (g.D.Desk.seen l.initial.desk) (g.D.Desk.seen l.desk)
