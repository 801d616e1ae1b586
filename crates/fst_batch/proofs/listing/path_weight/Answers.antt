use Rattle.std.proofs.Common.{◌*◌, length, arith}
use Rattle.fst_semiring.proofs.Ranges.{Within-more}
use Rattle.fst_batch.proofs.listing.path_weight.Goals as goal

pub wide_times-weight-requires-clause-a_wide : goal.wide_times-weight-requires-clause-a_wide
wide_times-weight-requires-clause-a_wide g c =
    Within-more (length c.args.path.now * 2000000000000000000) 1329227995784915872903807060280344575 (g.W.Weight.wide_value c.path_product.result)
    (let few = c.if-len-gt-MOST_STEPS.false in let size = c.len.ensures in omega (arith, few, size)) c.path_product.ensures.range
