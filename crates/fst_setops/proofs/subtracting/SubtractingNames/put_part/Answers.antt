use Rattle.fst_setops.specs.Good.{near_inside}
use Rattle.fst_setops.proofs.subtracting.SubtractingNames.put_part.Goals as goal

pub put_rests-requires-clause-first : goal.put_rests-requires-clause-first
put_rests-requires-clause-first g c = (near_inside g.W.Weight.value c.args.self.now.a.now c.args.self.now.b.now c.requires.holds.0 c.requires.holds.1 c.args.key.now c.requires.near).0

pub put_rests-requires-clause-second : goal.put_rests-requires-clause-second
put_rests-requires-clause-second g c = (near_inside g.W.Weight.value c.args.self.now.a.now c.args.self.now.b.now c.requires.holds.0 c.requires.holds.1 c.args.key.now c.requires.near).1
