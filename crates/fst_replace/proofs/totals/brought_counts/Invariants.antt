use Rattle.std.proofs.Common.{◌≡◌, map, take}
use Rattle.fst_machine.specs.Machine.{valued}
use Rattle.fst_replace.specs.Totals.{brings}
use Rattle.fst_replace.proofs.totals.brought_counts.Given as goal

abbrev pub invariant-loop-place : goal.invariant-loop-place
invariant-loop-place g l = l.counts.items ≡ map (λ r. brings (valued g.W.Weight.value r.machine)) (take l.place l.rules)
