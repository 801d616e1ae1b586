use Rattle.fst_machine.proofs.Changes.{IsMachine-with_final}
use Rattle.fst_machine.proofs.wide.WideFst.set_final.Goals as goal

pub invariant_of-self : goal.invariant_of-self
invariant_of-self g c = rw c.set_final.ensures (IsMachine-with_final g.W.Weight.wide_value c.self.inside.kept c.args.state c.args.weight c.self.invariant (rw c.self.view_is c.requires))
