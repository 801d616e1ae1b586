use Rattle.std.proofs.Common.{ap, ◌∙◌}
use Rattle.fst_machine.specs.Machine.{valued}
use Rattle.fst_table.specs.declared.places.Places.{Places}
use Rattle.fst_text.proofs.Growth.{arc_total-pushed, with_state-is}
use Rattle.fst_text.specs.Building.{found_in, with_state}
use Rattle.fst_text.proofs.builder.Builder.add.Goals as goal

pub returns-clause-added : goal.returns-clause-added
returns-clause-added g c =
    let value = g.W.Weight.value in
    let fst = c.args.self.now.fst in
    let grows = c.in_ok-place.ensures.zero in
    rw grows.2 (with_state-is value fst grows.0 (found_in c.push_state.new.self.places) (found_in c.add.new.self) c.args.number c.in_ok-place.place grows.1 c.in_ok-place.ensures.number c.in_ok-add.ensures.added ∙ ap (λ (p : Places). with_state (record { found = found_in p; machine = valued value fst }) c.args.number) c.push_state.ensures.places)

pub returns-clause-arcs : goal.returns-clause-arcs
returns-clause-arcs g c =
    let grows = c.in_ok-place.ensures.zero in
    rw grows.2 (arc_total-pushed c.args.self.now.fst.states grows.0)
