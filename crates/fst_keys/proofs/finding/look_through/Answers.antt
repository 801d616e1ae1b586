use Rattle.std.proofs.Common.{sym, ◌∙◌, arith}
use Rattle.fst_keys.proofs.Looking.{all_none, none_more}
use Rattle.fst_keys.proofs.finding.look_through.Goals as goal

pub loop-place-preserved : goal.loop-place-preserved
loop-place-preserved g c = none_more (g.K.PartialEq.eq c.args.key.now) c.args.keys.now c.loop-place.place c.item.result.now c.item.ensures (sym c.eq.ensures ∙ c.if-eq.false) c.loop-place.invariant

pub returns : goal.returns
returns g c = all_none (g.K.PartialEq.eq c.args.key.now) c.args.keys.now c.loop-place.place (omega arith) c.loop-place.invariant
