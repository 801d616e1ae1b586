use Rattle.std.proofs.Common.{map}
use Rattle.fst_machine.specs.Machine.{valued_state}
use Rattle.fst_rational.specs.Constructions.{carried}
use Rattle.fst_rational.proofs.Heading.{behind_fits}
use Rattle.fst_rational.proofs.carry.copied_states.Goals as goal

pub put_carried-requires-clause-room : goal.put_carried-requires-clause-room
put_carried-requires-clause-room g c =
    let value = g.W.Weight.value in
    let how = c.args.how in
    let states = map (carried how.shift how.keeps how.target) (map (valued_state value) c.args.fst.now.states) in
    behind_fits value c.args.head c.args.arcs.now c.in_ok-list.ensures states c.requires.few c.put_front.new.list c.in_ok-put_front.ensures
