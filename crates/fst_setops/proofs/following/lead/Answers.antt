use Rattle.std.proofs.Common.{ℕ, Some, sym, ap, ◌∙◌, arith}
use Rattle.fst_machine.specs.Machine.{Arc}
use Rattle.fst_trim.proofs.Places.{read_here}
use Rattle.fst_setops.proofs.Leading.{led_found, led_nowhere}
use Rattle.fst_setops.proofs.following.lead.Goals as goal

pub returns-then-first-last-clause-next : goal.returns-then-first-last-clause-next
returns-then-first-last-clause-next g c =
    let run = c.run_from-first.ensures.run in
    let a = c.index-bs-first.result in
    let there = read_here c.args.bs.now c.run_from-first.result.0 a (omega (arith, run.within, c.if-first-last.true)) c.index-bs-first.is in
    ap (λ (b : Arc g.row.W.Denot ℕ). Some b.next) c.found.view_is
    ∙ sym (led_found g.W.Weight.value c.args.bs.now c.args.label c.run_from-first.result.0 c.run_from-first.result.1 run c.args.second a c.if-label-eq0.false c.if-first-last.true there)

pub returns-clause-next : goal.returns-clause-next
returns-clause-next g c =
    sym (led_nowhere g.W.Weight.value c.args.bs.now c.args.label c.run_from-first.result.0 c.run_from-first.result.1 c.run_from-first.ensures.run c.args.second c.if-label-eq0.false (omega (arith, c.if-first-last.false)))
