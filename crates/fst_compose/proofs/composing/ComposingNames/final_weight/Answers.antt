use Rattle.fst_compose.specs.Good.{near_inside}
use Rattle.fst_compose.proofs.composing.ComposingNames.final_weight.Goals as goal

pub key_final-requires-clause-first : goal.key_final-requires-clause-first
key_final-requires-clause-first g c = (near_inside g.W.Weight.KIND g.W.Weight.value c.args.self.now.a.now c.args.self.now.b.now c.requires.holds.0 c.requires.holds.1 c.args.key.now c.requires.near).0

pub key_final-requires-clause-second : goal.key_final-requires-clause-second
key_final-requires-clause-second g c = (near_inside g.W.Weight.KIND g.W.Weight.value c.args.self.now.a.now c.args.self.now.b.now c.requires.holds.0 c.requires.holds.1 c.args.key.now c.requires.near).1
