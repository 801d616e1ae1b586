use Rattle.fst_minimize.proofs.ByBlocks.{AreNumbered}
use Rattle.fst_minimize.proofs.dividing.put_numbered.Given as goal

abbrev pub invariant-loop-state : goal.invariant-loop-state
invariant-loop-state l = AreNumbered l.numbers l.state l.out.items
