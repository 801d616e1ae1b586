use Rattle.std.proofs.Common.{◌↔◌, ◌≡◌, inl, true, false, Bool, ℕ, List, refl, sym, subst}
use Rattle.fst_semiring.specs.Cost.{Cost}
use Rattle.fst_machine.specs.Graph.{graph_of}
use Rattle.fst_machine.specs.Machine.{IsMachine, Machine, valued}
use Rattle.fst_machine.specs.Narrowing.{IsCause}
use Rattle.fst_machine.specs.Relation.{Rel}
use Rattle.fst_machine.proofs.Valued.{IsMachine-valued}
use Rattle.fst_trim.specs.Handed.{machine_of}
use Rattle.fst_distance.specs.PushLaws.{NoArcIsZero}
use Rattle.fst_distance.specs.Totals.{IsPlaceFor, IsTotalled, put_on}
use Rattle.fst_distance.proofs.OneAnswer.{past_fault}
use Rattle.fst_distance.proofs.Picked.{machine_some}
use Rattle.fst_distance.proofs.WithTotal.{placed_some, totalled_keeps, totalled_one, totalled_removes}
use Rattle.fst_distance.proofs.machines.push_handed.Given.{Over}
use Rattle.fst_distance.proofs.machines.push_handed.Goals.{After-place_of-place}
use Rattle.fst_distance.proofs.machines.push_handed.Goals as goal

-- no arc of the machine weighs Zero
some : (g : Over) (c : After-place_of-place g) → NoArcIsZero (valued g.W.Weight.value (machine_of c.args.fst))
some g c =
    let w = g.W.Weight in
    machine_some (valued w.value (machine_of c.args.fst)) (IsMachine-valued w.value (machine_of c.args.fst) (subst (λ (n : Machine g.row.W.Denot). IsMachine w.value n) c.fst.ensures c.states-states.ensures.machine))

-- the place, where the total is removed or put on
placed : (g : Over) (c : After-place_of-place g) (removed : Bool) → c.args.remove_total ≡ removed → IsPlaceFor removed g.W.Weight.KIND (g.W.Weight.wide_value c.in-Ok.totalled.total) c.in-Ok.totalled.pushed c.place_of-place.result
placed g c removed flag = subst (λ (b : Bool). IsPlaceFor b g.W.Weight.KIND (g.W.Weight.wide_value c.in-Ok.totalled.total) c.in-Ok.totalled.pushed c.place_of-place.result) flag c.place_of-place.ensures.place

-- the pushed machine with its total there
whole : (g : Over) (c : After-place_of-place g) → IsTotalled g.W.Weight.KIND c.args.remove_total (valued g.W.Weight.value (machine_of c.args.fst)) (put_on g.W.Weight.KIND (g.W.Weight.wide_value c.in-Ok.totalled.total) c.in-Ok.totalled.pushed c.place_of-place.result)
whole g c = record {
  pushed = c.in-Ok.totalled.pushed;
  total = g.W.Weight.wide_value c.in-Ok.totalled.total;
  place = c.place_of-place.result;
  pushes = c.in-Ok.ensures.pushed;
  placed = c.place_of-place.ensures.place;
  same = refl;
}

pub returns-in-Some-clause-fault : goal.returns-in-Some-clause-fault
returns-in-Some-clause-fault g c =
    let w = g.W.Weight in
    inl (past_fault w.KIND c.args.remove_total (valued w.value (machine_of c.args.fst)) c.in-Some.fault (record {
      none = c.in-Ok.ensures.none;
      machine = put_on w.KIND (w.wide_value c.in-Ok.totalled.total) c.in-Ok.totalled.pushed c.place_of-place.result;
      totalled = whole g (goal.at.returns-in-Some-clause-fault g c).After-place_of-place;
      passes = c.in-Some.ensures.some (w.wide_value c.in-Ok.totalled.total);
    }))

pub with_total-requires-clause-some : goal.with_total-requires-clause-some
with_total-requires-clause-some g c =
    let w = g.W.Weight in
    placed_some w.KIND (valued w.value (machine_of c.args.fst)) c.in-Ok.totalled.pushed (w.wide_value c.in-Ok.totalled.total) c.in-Ok.ensures.pushed (some g (goal.at.with_total-requires-clause-some g c).After-place_of-place) c.args.remove_total c.place_of-place.result c.place_of-place.ensures.place

pub returns-in-Ok-with_total-clause-keeps : goal.returns-in-Ok-with_total-clause-keeps
returns-in-Ok-with_total-clause-keeps g c flag =
    let w = g.W.Weight in
    let at = (goal.at.returns-in-Ok-with_total-clause-keeps g c).After-place_of-place in
    let m = valued w.value (machine_of c.args.fst) in
    subst (λ (r : Machine Cost). (x y : List ℕ) (v : Cost) → Rel w.KIND (graph_of m) x y v ↔ Rel w.KIND (graph_of r) x y v) (sym c.in-Ok-with_total.ensures.machine)
    (totalled_keeps w.KIND m c.in-Ok.totalled.pushed (w.wide_value c.in-Ok.totalled.total) c.in-Ok.ensures.pushed (some g at) c.place_of-place.result (placed g at false flag) c.place_of-place.ensures.among)

pub returns-in-Ok-with_total-clause-removes : goal.returns-in-Ok-with_total-clause-removes
returns-in-Ok-with_total-clause-removes g c flag =
    let at = (goal.at.returns-in-Ok-with_total-clause-removes g c).After-place_of-place in
    totalled_removes g.W.Weight.KIND _ _ _ c.in-Ok.ensures.pushed (some g at) _ c.place_of-place.result (placed g at true flag) c.in-Ok-with_total.ensures.machine

pub returns-in-Ok-with_total-clause-one : goal.returns-in-Ok-with_total-clause-one
returns-in-Ok-with_total-clause-one g c flag =
    let at = (goal.at.returns-in-Ok-with_total-clause-one g c).After-place_of-place in
    totalled_one g.W.Weight.KIND _ _ _ c.in-Ok.ensures.pushed (some g at) _ c.place_of-place.result (placed g at true flag) c.in-Ok-with_total.ensures.machine

pub returns-in-Err-Overflow-clause-fault : goal.returns-in-Err-Overflow-clause-fault
returns-in-Err-Overflow-clause-fault g c =
    let total = g.W.Weight.wide_value c.in-Ok.totalled.total in
    let machine = put_on g.W.Weight.KIND total c.in-Ok.totalled.pushed c.place_of-place.result in
    inl (record {
      none = c.in-Ok.ensures.none;
      machine = machine;
      totalled = whole g (goal.at.returns-in-Err-Overflow-clause-fault g c).After-place_of-place;
      passes = (c.in-None.ensures.states total, c.in-None.ensures.arcs total, subst (IsCause machine) c.in-Err-Overflow.field-0-is c.in-Err-Overflow.ensures.fault);
    })
