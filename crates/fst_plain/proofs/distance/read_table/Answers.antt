use Rattle.std.proofs.Common.{ap}
use Rattle.std.proofs.lemmas.List.{get_or_default}
use Rattle.fst_plain.specs.declared.cost.PlainCost.TheVariants as plain
use Rattle.fst_plain.specs.Plain.{cost_of}
use Rattle.fst_plain.proofs.distance.read_table.Goals as goal

pub returns : goal.returns
returns c = ap cost_of (get_or_default c.args.table.now c.args.state plain.Best plain.Infinite c.requires)
