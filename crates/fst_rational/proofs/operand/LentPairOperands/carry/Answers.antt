use Rattle.std.proofs.Common.{◌++◌, List, None, map, true, refl, ap, ◌∙◌}
use Rattle.fst_semiring.specs.Cost.{Cost}
use Rattle.fst_machine.specs.Machine.{State, valued_state}
use Rattle.fst_rational.specs.Constructions.{both_of, carried}
use Rattle.fst_rational.proofs.Putting.{put_machine}
use Rattle.fst_rational.proofs.operand.LentPairOperands.carry.Goals as goal

pub into_machine-requires : goal.into_machine-requires
into_machine-requires g c =
    let value = g.W.Weight.value in
    let a = c.args.self.a.now in
    let b = c.args.self.b.now in
    let behind = map (carried c.args.room.0 true None) (map (valued_state value) b.states) in
    put_machine value (both_of value c.args.start c.args.head c.args.arcs.now c.args.how c.args.room.0 a b) c.args.start c.push_states.new.list refl
    (c.in_ok-push_states.ensures ∙ ap (λ (ss : List (State Cost)). ss ++ behind) c.in_ok-list.ensures) c.requires.machine
