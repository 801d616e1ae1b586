use Rattle.fst_nbest.proofs.Routes.{turn_end, turn_within}
use Rattle.fst_nbest.proofs.comparing.turn_at.Goals as goal

pub returns-then-k-e : goal.returns-then-k-e
returns-then-k-e g c = turn_within c.args.listed.now c.args.orders.now c.args.e.now c.args.k c.item.result.now c.item-then-k-e.result.now c.requires.can c.if-k-e.true c.item.ensures c.item-then-k-e.ensures

pub returns : goal.returns
returns g c = turn_end c.args.listed.now c.args.orders.now c.args.e.now c.args.k c.of.result.now c.requires.can c.requires.within c.if-k-e.false c.of.ensures
