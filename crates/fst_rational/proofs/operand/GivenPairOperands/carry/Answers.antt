use Rattle.std.proofs.Common.{◌++◌, None, map, true, refl, arith}
use Rattle.fst_machine.specs.Machine.{valued_state}
use Rattle.fst_rational.specs.Constructions.{both_of, carried, carried_states}
use Rattle.fst_rational.proofs.Putting.{both_put, further_sized, put_machine}
use Rattle.fst_rational.proofs.operand.GivenPairOperands.carry.Goals as goal

pub given_states-requires-2-clause-all : goal.given_states-requires-2-clause-all
given_states-requires-2-clause-all g c = omega (arith, c.arc_count.ensures, further_sized g.W.Weight.value c.args.room.0 c.args.self.b.states)

pub new-requires : goal.new-requires
new-requires g c =
    let value = g.W.Weight.value in
    let a = c.args.self.a in
    let b = c.args.self.b in
    let front = carried_states value c.args.head c.args.arcs.now c.args.how a in
    let behind = map (carried c.args.room.0 true None) (map (valued_state value) b.states) in
    put_machine value (both_of value c.args.start c.args.head c.args.arcs.now c.args.how c.args.room.0 a b) c.args.start (c.in_ok-first.first ++ c.in_ok-second.second) refl
    (both_put value front behind c.in_ok-first.first c.in_ok-second.second c.in_ok-first.ensures c.in_ok-second.ensures) c.requires.machine
