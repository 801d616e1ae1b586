use Rattle.std.proofs.Common.{refl, arith}
use Rattle.fst_select.proofs.StringChains.{labels_drop}
use Rattle.fst_select.proofs.chaining.are_too_long.Goals as goal

pub returns-then-len-count : goal.returns-then-len-count
returns-then-len-count g c =
    let more = labels_drop g.W.Weight.wide_value c.args.strings.now c.loop-i.i c.item.result.now c.item.ensures in
    ((λ e. omega (arith, more)), (λ h. refl))

pub loop-i-preserved : goal.loop-i-preserved
loop-i-preserved g c =
    let more = labels_drop g.W.Weight.wide_value c.args.strings.now c.loop-i.i c.item.result.now c.item.ensures in
    record { counted = omega (arith, more); few = omega (arith, more) }
