use Rattle.std.proofs.Common.{arith}
use Rattle.std.proofs.lemmas.List.{length-drop}
use Rattle.fst_words.specs.Plans.{outputs_of, output_place_of}
use Rattle.fst_words.proofs.plan.Plan.output_count.Goals as goal

pub returns : goal.returns
unfolding outputs_of
returns c =
    let dropped = length-drop (output_place_of c.args.self.now) c.args.self.now.names in
    omega arith
