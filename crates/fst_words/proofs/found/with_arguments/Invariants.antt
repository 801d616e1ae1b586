use Rattle.std.proofs.Common.{◌≡◌}
use Rattle.std.specs.List.{fold}
use Rattle.std.specs.Prelude.{take}
use Rattle.clap.specs.Simple.{app_of, with_rule}
use Rattle.fst_words.specs.Commands.{argument_rule}
use Rattle.fst_words.proofs.found.with_arguments.Given as goal

abbrev pub invariant-loop-name : goal.invariant-loop-name
invariant-loop-name l =
    app_of l.grown ≡ fold (λ a s. with_rule a (argument_rule l.valued s.now)) (app_of l.initial.grown) (take l.name-index l.names)
