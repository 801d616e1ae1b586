use Rattle.std.proofs.Common.{◌-◌, ℕ, List, get_or, ap, arith}
use Rattle.fst_nbest.proofs.Walks.{stepped}
use Rattle.fst_nbest.proofs.walking.step.Goals as goal

pub returns-clause-step : goal.returns-clause-step
returns-clause-step g c =
    let s = g.S.System in
    let system = c.args.system.now in
    let core = c.args.core in
    let step = c.step-front.ensures.step in
    stepped s.kind (s.words system) (s.dist system) (s.count system) s.value s.bounded c.name_count-names.ensures.cancel c.name_count-names.ensures.good c.args.orders.now c.prepare.new.self c.args.word.now c.push.new.self core c.step-front.result.0 c.step-front.result.1 _
    step.0 c.requires.core c.requires.more c.requires.few (ap (λ (l : List ℕ). get_or l core.rank 0 - 1) c.of.ensures) step.1 step.2 c.in_ok-prepare.ensures.orders c.in_ok-prepare.ensures.grow c.in_ok-prepare.ensures.there
    (omega (arith, c.step-front.ensures.name, c.requires.size, c.in_ok-prepare.ensures.size)) c.in_ok-push.ensures.ok (c.step-front.ensures.bound core.depth c.requires.core.bound)
