use Rattle.std.proofs.Common.{◌<◌, length}
use Rattle.fst_determinize.specs.Kept.{IsModest}
use Rattle.fst_determinize.specs.Subsets.{Member}
use Rattle.fst_determinize.proofs.Holding.{final_next, held_at}
use Rattle.fst_determinize.proofs.determinizing.last_weight.Goals as goal

pub final_weight-requires : goal.final_weight-requires
final_weight-requires g c =
    held_at g.R.Kept.value c.members-member-items.result.now c.args.subset.now c.members-member-items.ensures (λ (n : Member). n.state < length c.args.fst.now.states) c.requires.state c.loop-member.member-index c.member-item.result _
    c.loop-member-test.true c.member-item.is c.member.view_is

pub further_final-own-requires : goal.further_final-own-requires
further_final-own-requires g c =
    held_at g.R.Kept.value c.members-member-items.result.now c.args.subset.now c.members-member-items.ensures (λ (n : Member). IsModest n.residual) c.requires.modest c.loop-member.member-index c.member-item.result _ c.loop-member-test.true c.member-item.is c.member.view_is

pub loop-member-preserved : goal.loop-member-preserved
loop-member-preserved g c =
    final_next g.R.Kept.value c.members-member-items.result.now c.args.subset.now c.members-member-items.ensures g.W.Weight.KIND g.W.Weight.value c.args.fst.now c.loop-member.member-index c.member-item.result _ c.final_weight.result (g.W.Weight.wide_value c.loop-member.best)
    (g.W.Weight.wide_value c.further_final-own.result) _ c.loop-member-test.true c.member-item.is c.member.view_is c.final_weight.ensures c.loop-member.invariant c.further_final-own.ensures c.wide_plus-best.ensures.sum
