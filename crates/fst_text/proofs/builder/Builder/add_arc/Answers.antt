use Rattle.std.proofs.Common.{ℕ}
use Rattle.fst_machine.specs.Machine.{Arc, with_arc}
use Rattle.fst_text.specs.Building.{built, found_in, or_start}
use Rattle.fst_text.proofs.Lines.{IsPlaced-changed, arc-added}
use Rattle.fst_text.proofs.builder.Builder.add_arc.Goals as goal

pub returns-clause-added : goal.returns-clause-added
returns-clause-added g c =
    let value = g.W.Weight.value in
    let grown = c.state-2.new.self in
    rw (c.in_ok-push_arc.ensures.ok, c.push_arc.ensures.places, c.begin.ensures.fst, c.begin.ensures.places)
    (arc-added value c.args.kept (built value c.args.self.now) (built value c.state.new.self) (found_in grown.places) grown.fst c.args.source c.args.dest c.in_ok-from.from c.in_ok-next.next c.args.ilabel c.args.olabel c.args.weight c.in_ok-from.ensures.added c.in_ok-next.ensures.added c.in_ok-from.ensures.place c.in_ok-next.ensures.place)

pub returns-clause-placed : goal.returns-clause-placed
returns-clause-placed g c =
    let grown = c.state-2.new.self in
    let arc : Arc g.row.W.Denot ℕ = record { ilabel = c.args.ilabel; olabel = c.args.olabel; weight = c.args.weight; next = c.in_ok-next.next } in
    rw (c.in_ok-push_arc.ensures.ok, c.push_arc.ensures.places, c.begin.ensures.fst, c.begin.ensures.places)
    (IsPlaced-changed g.W.Weight.value (found_in grown.places) grown.fst (or_start c.in_ok-from.from grown.fst.start) (with_arc arc) c.in_ok-from.from c.in_ok-next.ensures.placed)
