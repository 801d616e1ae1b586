use Rattle.std.proofs.Common.{◌≡◌, ◌≤◌, ap, ◌∙◌, length, sym, arith}
use Rattle.std.proofs.lemmas.List.{length-map}
use Rattle.fst_semiring.specs.Cost.{Cost}
use Rattle.fst_machine.specs.Machine.{valued}
use Rattle.fst_replace.specs.Calls.{Calling}
use Rattle.fst_replace.specs.Rules.{Labelled, machine_at}
use Rattle.fst_replace.proofs.Putting.{next_arcs, next_filled, next_next, next_room, next_rule, next_starts}
use Rattle.fst_replace.proofs.expand.put_block.Goals as goal

pub machine-machine-requires : goal.machine-machine-requires
machine-machine-requires g c =
    let low = next_rule g.W.Weight.value c.args.rules.now c.args.shapes.now c.requires.table _ _ _ c.requires.expanding in
    let same = ap (λ (z : Calling). z.rule) c.call.view_is in
    omega (arith, low, same, length-map {B = Labelled Cost} c.args.rules.now (λ r. record { label = r.label; machine = valued g.W.Weight.value r.machine }))

pub put_machine-requires-clause-starts : goal.put_machine-requires-clause-starts
put_machine-requires-clause-starts g c = next_starts g.W.Weight.value c.args.rules.now c.args.shapes.now c.requires.table _ _ _ c.requires.expanding (c.machine-machine.ensures ∙ ap (machine_at c.args.rules.now) (ap (λ (z : Calling). z.rule) c.call.view_is))

pub put_machine-requires-clause-room : goal.put_machine-requires-clause-room
put_machine-requires-clause-room g c = next_room g.W.Weight.value c.args.rules.now c.args.shapes.now c.requires.table _ _ _ c.requires.expanding (c.machine-machine.ensures ∙ ap (machine_at c.args.rules.now) (ap (λ (z : Calling). z.rule) c.call.view_is)) c.requires.small

pub put_machine-requires-clause-arcs : goal.put_machine-requires-clause-arcs
put_machine-requires-clause-arcs g c = next_arcs g.W.Weight.value c.args.rules.now c.args.shapes.now c.requires.table _ _ _ c.requires.expanding (c.machine-machine.ensures ∙ ap (machine_at c.args.rules.now) (ap (λ (z : Calling). z.rule) c.call.view_is)) (ap (λ (z : Calling). z.next) c.call.view_is) c.requires.small

pub returns-clause-expanding : goal.returns-clause-expanding
returns-clause-expanding g c = next_next g.W.Weight.value c.args.rules.now c.args.shapes.now c.requires.table _ _ _ c.requires.expanding (c.machine-machine.ensures ∙ ap (machine_at c.args.rules.now) (ap (λ (z : Calling). z.rule) c.call.view_is)) (ap (λ (z : Calling). z.next) c.call.view_is) c.put_machine.new.output.states c.states.ensures.value c.requires.clear c.in_ok-put_machine.ensures.states c.in_ok-put_machine.ensures.calls c.in_ok-put_waiting.ensures.waiting

pub returns-clause-further : goal.returns-clause-further
returns-clause-further g c =
    let some = next_filled g.W.Weight.value c.args.rules.now c.args.shapes.now c.requires.table _ _ _ c.requires.expanding (c.machine-machine.ensures ∙ ap (machine_at c.args.rules.now) (ap (λ (z : Calling). z.rule) c.call.view_is)) in
    let room = next_room g.W.Weight.value c.args.rules.now c.args.shapes.now c.requires.table _ _ _ c.requires.expanding (c.machine-machine.ensures ∙ ap (machine_at c.args.rules.now) (ap (λ (z : Calling). z.rule) c.call.view_is)) c.requires.small in
    let size = c.states.ensures.value in
    (omega arith, omega arith)
