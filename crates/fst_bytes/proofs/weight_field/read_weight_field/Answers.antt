use Rattle.std.proofs.Common.{arith}
use Rattle.fst_bytes.proofs.WeightFields.{is_found, is_only}
use Rattle.fst_bytes.proofs.weight_field.read_weight_field.Goals as goal

pub returns-clause-found : goal.returns-clause-found
returns-clause-found g c = is_found g.W.Weight.value g.W.Weight.KIND c.args.bytes.now c.args.offset c.read_field.result (λ i. omega (arith, c.type_inv.bytes i)) c.read_field.ensures.value

pub returns-clause-only : goal.returns-clause-only
returns-clause-only g c = λ v rest fits e. is_only g.W.Weight.value g.W.Weight.KIND c.args.bytes.now c.args.offset c.read_field.result c.requires c.read_field.ensures.value v rest fits e
