use Rattle.std.proofs.Common.{◌≡◌, ◌++◌, map, take}
use Rattle.fst_machine.specs.Machine.{valued_arc}
use Rattle.fst_walk.specs.Names.{key_arc}
use Rattle.fst_setops.specs.Difference.{rest_at}
use Rattle.fst_setops.specs.Following.{IsPassed, led_on}
use Rattle.fst_setops.proofs.following.put_led.Given as goal

abbrev pub invariant-loop-a : goal.invariant-loop-a
invariant-loop-a g l = record {
  passed : IsPassed l.bs l.passed.label l.passed.place;
  put : map (key_arc g.W.Weight.wide_value) l.out.items ≡ map (key_arc g.W.Weight.wide_value) l.fn.out.items ++ map (λ a. rest_at (led_on l.second (map (valued_arc g.W.Weight.value) l.bs) a.ilabel) a) (map (valued_arc g.W.Weight.value) (take l.a-index l.arcs));
}
