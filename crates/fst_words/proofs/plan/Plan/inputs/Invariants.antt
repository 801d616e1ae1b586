use Rattle.std.proofs.Common.{◌≡◌, ◌++◌, map, take}
use Rattle.fst_words.specs.Forms.{form_of}
use Rattle.fst_words.specs.Inputs.{input_seen, inputs_from, option_inputs}
use Rattle.fst_words.specs.Plans.{input_files}
use Rattle.fst_words.proofs.plan.Plan.inputs.Given as goal

abbrev pub invariant-loop-place : goal.invariant-loop-place
invariant-loop-place l =
    map input_seen l.inputs.items ≡ option_inputs l.self.options ++ inputs_from (form_of l.self.command).shape 0 (take l.place (input_files l.self))
