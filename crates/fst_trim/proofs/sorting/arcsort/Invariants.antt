use Rattle.fst_trim.proofs.Rearranged.{SortedSoFar}
use Rattle.fst_trim.proofs.sorting.arcsort.Given as goal

abbrev pub invariant-loop-state : goal.invariant-loop-state
invariant-loop-state g l = SortedSoFar l.side l.a.states l.states l.state
