use Rattle.std.proofs.Common.{arith}
use Rattle.fst_rational.proofs.Carrying.{carried_put, carried_size, has_places}
use Rattle.fst_rational.proofs.carry.push_state.Goals as goal

pub push_shifted-requires-clause-room : goal.push_shifted-requires-clause-room
push_shifted-requires-clause-room g c = omega (arith, c.requires.room, carried_size g.W.Weight.value c.args.by c.args.last c.args.arcs.now)

pub push_shifted-requires-clause-places : goal.push_shifted-requires-clause-places
push_shifted-requires-clause-places g c = has_places g.W.Weight.value c.args.by c.args.arcs.now c.requires.small c.requires.good

pub returns : goal.returns
returns g c = carried_put g.W.Weight.value c.args.by c.args.list.now c.push_shifted.new.self c.args.last c.args.arcs.now c.in_ok-push_shifted.ensures.ok
