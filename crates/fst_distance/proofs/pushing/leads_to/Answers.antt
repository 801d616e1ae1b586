use Rattle.std.proofs.Common.{ℕ, sym, ap, ◌∙◌, arith}
use Rattle.fst_machine.specs.Machine.{Arc}
use Rattle.fst_distance.proofs.Entering.{leads_here, none_leads, none_next}
use Rattle.fst_distance.proofs.pushing.leads_to.Goals as goal

pub loop-arc-init : goal.loop-arc-init
loop-arc-init g c place arc less = omega arith

pub returns-then-arc-state : goal.returns-then-arc-state
returns-then-arc-state g c =
    let next = ap (λ (b : Arc _ ℕ). b.next) c.arc.view_is in
    leads_here c.args.arcs.now c.args.state c.loop-arc.arc-index c.arc-item.result c.loop-arc-test.true c.arc-item.is (sym next ∙ c.if-arc-state.true)

pub loop-arc-preserved : goal.loop-arc-preserved
loop-arc-preserved g c =
    let next = ap (λ (b : Arc _ ℕ). b.next) c.arc.view_is in
    none_next c.args.arcs.now c.args.state c.loop-arc.arc-index c.arc-item.result c.loop-arc-test.true c.arc-item.is (λ same. c.if-arc-state.false (next ∙ same)) c.loop-arc.invariant

pub returns : goal.returns
returns g c = none_leads c.args.arcs.now c.args.state c.loop-arc.arc-index (omega arith) c.loop-arc.invariant
