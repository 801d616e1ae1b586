use Rattle.fst_replace.proofs.Putting.{first_arcs, first_next, first_room, first_starts}
use Rattle.fst_replace.proofs.expand.put_root.Goals as goal

pub put_machine-requires-clause-starts : goal.put_machine-requires-clause-starts
put_machine-requires-clause-starts g c = first_starts g.W.Weight.value c.args.rules.now c.args.shapes.now c.requires.table c.machine-root.ensures

pub put_machine-requires-clause-room : goal.put_machine-requires-clause-room
put_machine-requires-clause-room g c = first_room g.W.Weight.value c.args.rules.now c.args.shapes.now c.requires.table c.machine-root.ensures c.requires.small

pub put_machine-requires-clause-arcs : goal.put_machine-requires-clause-arcs
put_machine-requires-clause-arcs g c = first_arcs g.W.Weight.value c.args.rules.now c.args.shapes.now c.requires.table c.machine-root.ensures c.requires.first c.requires.small

pub returns-clause-expanding : goal.returns-clause-expanding
returns-clause-expanding g c = first_next g.W.Weight.value c.args.rules.now c.args.shapes.now c.requires.table c.machine-root.ensures c.put_machine.new.output.states c.states.ensures.value c.requires.first c.requires.clear c.requires.none c.in_ok-put_machine.ensures.states c.in_ok-put_machine.ensures.calls c.in_ok-put_waiting.ensures.waiting
