use Rattle.std.proofs.Common.{◌≡◌, ◌∙◌, ◌+◌, length, refl, sym, ap, arith, map, Ok, rules}
use Rattle.fst_any.proofs.Taking.{before_none, taken_all, taken_more, taken_other}
use Rattle.std.specs.Vec.Iter.{into_iter_items}
use Rattle.fst_machine.specs.Machine.{valued}
use Rattle.fst_any.specs.Taken.{before, machines_as}
use Rattle.fst_any.specs.Typed.{typed}
use Rattle.fst_any.proofs.kinded.machines_of.Goals as goal

pub loop-any-init : goal.loop-any-init
loop-any-init g c =
    let gives = c.into_iter-any-iterator.ensures.into_iter_gives in
    record {
      taken = ap (λ ms. before (map (valued g.W.Weight.value) ms) (machines_as g.W.Weight.KIND (map typed (into_iter_items c.into_iter-any-iterator.result)))) c.in_ok-machines.ensures.items
          ∙ before_none _ ∙ ap (λ xs. machines_as g.W.Weight.KIND (map typed xs)) gives.0;
      left = gives.1 ∙ (search rules) ∙ ap length (sym gives.0);
    }

pub loop-any-preserved : goal.loop-any-preserved
loop-any-preserved g c = record {
  taken = taken_more g.W.Weight.value g.W.Weight.KIND c.loop-any.machines.items c.push.new.self.items _ _ _ c.in-Some.any _ c.in-Some.ensures.steps.0 c.in_ok-push.ensures.items c.in_ok-machine.ensures c.loop-any.invariant.taken;
  left = let e = ap length c.in-Some.ensures.steps.0 in omega (arith, e, c.in-Some.ensures.steps.1, c.loop-any.invariant.left);
}
