use Rattle.std.proofs.Common.{length, ap, arith}
use Rattle.fst_search.proofs.Finishing.{turned_length}
use Rattle.fst_nbest.specs.Ready.{Measured}
use Rattle.fst_nbest.proofs.tight.TightBackBackward.links_to.Goals as goal

pub links-requires : goal.links-requires
links-requires g c =
    let states = ap (λ (p : Measured g.row.V.Denot g.row.W-Wide.Denot). length p.machine.states) c.self.view_is in
    omega (arith, ap length c.self.invariant.1, turned_length (g.M.AsMachine.machine c.self.inside.fst.now).states, states, c.requires)
