use Rattle.std.proofs.Common.{take}
use Rattle.fst_determinize.specs.Subsets.{AscendsBy}
use Rattle.fst_determinize.proofs.OneMember.{AreBelow}
use Rattle.fst_determinize.proofs.single.labels_ascend.Given as goal

abbrev pub invariant-loop-arc : goal.invariant-loop-arc
invariant-loop-arc g l = record {
  ascends : AscendsBy (λ a. a.ilabel) (take l.arc-index l.arcs);
  below : AreBelow (λ a. a.ilabel) l.least (take l.arc-index l.arcs);
}
