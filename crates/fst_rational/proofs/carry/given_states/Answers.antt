use Rattle.std.proofs.Common.{arith}
use Rattle.fst_rational.proofs.Heading.{own_fits}
use Rattle.fst_rational.proofs.carry.given_states.Goals as goal

pub overflow_sub-more : goal.overflow_sub-more
overflow_sub-more g c = omega (arith, c.arc_count.ensures, own_fits g.W.Weight.value c.args.head c.args.arcs.now c.args.how.shift c.args.how.keeps c.args.how.target c.args.fst.states c.requires.all)

pub carry_in_place-requires-clause-room : goal.carry_in_place-requires-clause-room
carry_in_place-requires-clause-room g c = omega (arith, c.arc_count.ensures, own_fits g.W.Weight.value c.args.head c.args.arcs.now c.args.how.shift c.args.how.keeps c.args.how.target c.args.fst.states c.requires.all)
