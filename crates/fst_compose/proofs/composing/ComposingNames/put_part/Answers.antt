use Rattle.fst_compose.specs.Good.{near_inside}
use Rattle.fst_compose.proofs.composing.ComposingNames.put_part.Goals as goal

pub put_part-requires-clause-first : goal.put_part-requires-clause-first
put_part-requires-clause-first g c = (near_inside g.W.Weight.KIND g.W.Weight.value c.args.self.now.a.now c.args.self.now.b.now c.requires.holds.0 c.requires.holds.1 c.args.key.now c.requires.near).0

pub put_part-requires-clause-second : goal.put_part-requires-clause-second
put_part-requires-clause-second g c = (near_inside g.W.Weight.KIND g.W.Weight.value c.args.self.now.a.now c.args.self.now.b.now c.requires.holds.0 c.requires.holds.1 c.args.key.now c.requires.near).1
