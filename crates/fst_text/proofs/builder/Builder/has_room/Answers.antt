use Rattle.std.proofs.Common.{◌≡◌, ◌≤◌, length, arith}
use Rattle.std.proofs.lemmas.List.{length-map}
use Rattle.fst_machine.specs.Machine.{most_states, valued_state}
use Rattle.fst_text.proofs.Rooms.{room-kept}
use Rattle.fst_text.specs.Building.{built}
use Rattle.fst_text.proofs.builder.Builder.has_room.Goals as goal

pub returns-then-kept : goal.returns-then-kept
returns-then-kept g c =
    let states = (built g.W.Weight.value c.args.self.now).machine.states in
    let same : length states ≡ length c.args.self.now.fst.states = length-map c.args.self.now.fst.states (valued_state g.W.Weight.value) in
    let few : length states ≤ most_states = omega (arith, c.states-states.ensures.machine.few_states) in
    rw c.if-kept.true (room-kept c.args.number states few)
