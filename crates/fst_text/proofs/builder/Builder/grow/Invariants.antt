use Rattle.std.proofs.Common.{◌≡◌, ◌+◌, ◌-◌, length, true}
use Rattle.fst_machine.specs.Machine.{arc_total}
use Rattle.fst_text.specs.Building.{IsPlaced, built, with_number}
use Rattle.fst_text.proofs.builder.Builder.grow.Given as goal

-- the states that are still missing complete what was there
abbrev pub invariant-loop-self : goal.invariant-loop-self
invariant-loop-self g l = record {
  added : with_number true (built g.W.Weight.value l.self) l.place ≡ with_number true (built g.W.Weight.value l.fn.self) l.place;
  arcs : arc_total l.self.fst.states ≡ arc_total l.fn.self.fst.states;
  placed : IsPlaced (built g.W.Weight.value l.self);
}

abbrev pub decreases-loop-self : goal.decreases-loop-self
decreases-loop-self g l = l.place + 1 - length l.self.fst.states
