use Rattle.fst_machine.specs.Machine.{with_final}
use Rattle.fst_text.specs.Building.{built, found_in, or_start}
use Rattle.fst_text.proofs.Lines.{IsPlaced-changed, final-added}
use Rattle.fst_text.proofs.builder.Builder.add_final.Goals as goal

pub returns-clause-added : goal.returns-clause-added
returns-clause-added g c =
    let value = g.W.Weight.value in
    let grown = c.state.new.self in
    rw (c.set_final.ensures, c.begin.ensures.fst, c.begin.ensures.places)
    (final-added value c.args.kept (built value c.args.self.now) (found_in grown.places) grown.fst c.args.number c.in_ok-state.state c.args.weight c.in_ok-state.ensures.added c.in_ok-state.ensures.place)

pub returns-clause-placed : goal.returns-clause-placed
returns-clause-placed g c =
    let grown = c.state.new.self in
    rw (c.set_final.ensures, c.begin.ensures.fst, c.begin.ensures.places)
    (IsPlaced-changed g.W.Weight.value (found_in grown.places) grown.fst (or_start c.in_ok-state.state grown.fst.start) (with_final c.args.weight) c.in_ok-state.state c.in_ok-state.ensures.placed)
