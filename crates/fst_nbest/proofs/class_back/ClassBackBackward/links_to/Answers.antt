use Rattle.std.proofs.Common.{length, ap, arith}
use Rattle.fst_search.proofs.Finishing.{turned_length}
use Rattle.fst_nbest.proofs.class_back.ClassBackBackward.links_to.Goals as goal

pub links-requires : goal.links-requires
links-requires g c = omega (arith, ap length c.self.invariant.1, turned_length (g.M.AsMachine.machine c.self.inside.fst.now).states, c.parted-state.ensures.low, c.state_count.ensures.count)
