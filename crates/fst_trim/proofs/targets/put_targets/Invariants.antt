use Rattle.std.proofs.Common.{◌≡◌, ◌++◌, map, take}
use Rattle.fst_trim.proofs.targets.put_targets.Given as goal

abbrev pub invariant-loop-arc : goal.invariant-loop-arc
invariant-loop-arc g l = l.targets.items ≡ l.initial.targets.items ++ map (λ a. a.next) (take l.arc-index l.arcs)
