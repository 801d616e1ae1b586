use Rattle.std.proofs.Common.{take}
use Rattle.fst_distance.specs.Values.{Picks}
use Rattle.fst_distance.proofs.by_distance.pick.Given as goal

abbrev pub invariant-loop-place : goal.invariant-loop-place
invariant-loop-place g l = Picks (take l.place-index l.places) l.all l.picked.items
