use Rattle.std.proofs.Common.{◌≡◌, ◌<◌, ◌≤◌, ℕ, List, Some, length, get_or, slice_get, sym, ap, ◌∙◌, subst, arith}
use Rattle.std.specs.Prelude.{IfSome}
use Rattle.std.proofs.lemmas.List.{length-map}
use Rattle.std.proofs.lemmas.Option.{slice_get-get_or}
use Rattle.fst_semiring.specs.Cost.{Cost}
use Rattle.fst_semiring.specs.Semiring.{Within}
use Rattle.fst_machine.specs.Machine.{IsMachine, Machine, valued, valued_state, most_states}
use Rattle.fst_machine.proofs.Valued.{IsMachine-valued}
use Rattle.fst_trim.specs.Handed.{machine_of}
use Rattle.fst_distance.specs.PushLaws.{NoArcIsZero}
use Rattle.fst_distance.specs.Pushing.{IsPushed, value_at}
use Rattle.fst_distance.specs.Values.{Picks, most_distance, value_in}
use Rattle.fst_distance.proofs.Connecting.{connected_start, kept_below}
use Rattle.fst_distance.proofs.Picked.{machine_some, picked_distances, picked_pushed, picked_range, value_at_within}
use Rattle.fst_distance.proofs.by_distance.push_connected.Given.{Over}
use Rattle.fst_distance.proofs.by_distance.push_connected.Goals.{In_ok-distances}
use Rattle.fst_distance.proofs.by_distance.push_connected.Goals as goal

pub pick-requires : goal.pick-requires
pick-requires g c = λ i d low.
    let m = valued g.W.Weight.value (machine_of c.args.fst) in
    let n = valued g.W.Weight.value (machine_of c.in_ok-machine.field-0.machine) in
    let on = c.in_ok-machine.ensures.machine in
    let size : length m.states ≡ length (machine_of c.args.fst).states = length-map (machine_of c.args.fst).states (valued_state g.W.Weight.value) in
    let same : c.deref.result.now ≡ on.0.kept = c.deref.ensures.value ∙ sym on.1 in
    let here : slice_get c.deref.result.now i ≡ Some (get_or c.deref.result.now i d) = slice_get-get_or c.deref.result.now i d low in
    let below : get_or c.deref.result.now i d < length m.states = kept_below m n on.0 i (get_or c.deref.result.now i d) (ap (λ (ps : List ℕ). slice_get ps i) (sym same) ∙ here) in
    let two = c.requires.size in
    omega arith

pub start_value-total-requires : goal.start_value-total-requires
start_value-total-requires g c =
    let m = valued g.W.Weight.value (machine_of c.args.fst) in
    let n = valued g.W.Weight.value (machine_of c.in_ok-machine.field-0.machine) in
    let on = c.in_ok-machine.ensures.machine in
    let size : length n.states ≡ length (machine_of c.in_ok-machine.field-0.machine).states = length-map (machine_of c.in_ok-machine.field-0.machine).states (valued_state g.W.Weight.value) in
    let same : c.deref.result.now ≡ on.0.kept = c.deref.ensures.value ∙ sym on.1 in
    let long : length c.deref-2.result.now ≡ length (machine_of c.in_ok-machine.field-0.machine).states =
    ap length c.deref-2.ensures.value ∙ (c.in_ok-distances.ensures.size ∙ (ap length same ∙ (sym on.0.states ∙ size))) in
    subst (λ (k : ℕ). IfSome c.start.result (λ s. s < k)) (sym long) (subst (λ (k : Machine g.row.W.Denot). IfSome c.start.result (λ s. s < length k.states)) c.fst-2.ensures c.start.ensures.state)

-- no arc of the machine weighs Zero, its distances are few, and those of the states that are kept are picked
some : (g : Over) (c : In_ok-distances g) → NoArcIsZero (valued g.W.Weight.value (machine_of c.args.fst))
some g c =
    let w = g.W.Weight in
    machine_some (valued w.value (machine_of c.args.fst)) (IsMachine-valued w.value (machine_of c.args.fst) (subst (λ (k : Machine g.row.W.Denot). IsMachine w.value k) c.fst.ensures c.states-states.ensures.machine))

few : (g : Over) (c : In_ok-distances g) → length c.args.all.now ≤ most_states
few g c =
    let machine = subst (λ (k : Machine g.row.W.Denot). IsMachine g.W.Weight.value k) c.fst.ensures c.states-states.ensures.machine in
    let a = c.requires.size in
    let b = machine.few_states in
    omega arith

picks : (g : Over) (c : In_ok-distances g) → Picks c.in_ok-machine.ensures.machine.0.kept c.args.all.now c.in_ok-distances.distances.items
picks g c = subst (λ (ps : List ℕ). Picks ps c.args.all.now c.in_ok-distances.distances.items) (c.deref.ensures.value ∙ sym c.in_ok-machine.ensures.machine.1) c.in_ok-distances.ensures

pub new-requires-clause-distances : goal.new-requires-clause-distances
new-requires-clause-distances g c =
    let w = g.W.Weight in
    let at = (goal.at.new-requires-clause-distances g c).In_ok-distances in
    picked_distances w.KIND w.wide_value (valued w.value (machine_of c.args.fst)) (valued w.value (machine_of c.in_ok-machine.field-0.machine)) c.in_ok-machine.ensures.machine.0 (some g at) c.args.all.now c.in_ok-distances.distances.items (few g at) (picks g at) c.requires.distances c.requires.numbers c.requires.kinds

pub returns : goal.returns
returns g c =
    let w = g.W.Weight in
    let at = (goal.at.returns g c).In_ok-distances in
    let m = valued w.value (machine_of c.args.fst) in
    let n = valued w.value (machine_of c.in_ok-machine.field-0.machine) in
    let on = c.in_ok-machine.ensures.machine in
    let total : w.wide_value c.start_value-total.result ≡ value_at (value_in w.wide_value c.in_ok-distances.distances.items) n.start =
    c.start_value-total.ensures ∙ (ap (λ ds. value_at (value_in w.wide_value ds) c.start.result) c.deref-2.ensures.value ∙ ap (value_at (value_in w.wide_value c.in_ok-distances.distances.items)) (c.start.ensures.value ∙ ap (λ (k : Machine g.row.W.Denot). k.start) c.fst-2.ensures)) in
    let all = picked_pushed w.KIND w.wide_value m n on.0 (some g at) c.args.all.now c.in_ok-distances.distances.items (few g at) (picks g at) c.requires.distances c.requires.numbers c.requires.kinds
    (w.wide_value c.start_value-total.result) total in
    let starts : IfSome n.start (λ s. s < length n.states) = connected_start m n on.0 in
    record {
      range = subst (Within most_distance) (sym total) (value_at_within most_distance (value_in w.wide_value c.in_ok-distances.distances.items) (length n.states) n.start starts
          (picked_range w.KIND w.wide_value m n on.0 (some g at) c.args.all.now c.in_ok-distances.distances.items (few g at) (picks g at) c.requires.distances c.requires.numbers c.requires.kinds));
      pushed = subst (λ (r : Machine Cost). IsPushed w.KIND m r (w.wide_value c.start_value-total.result)) (sym c.new.ensures) all;
    }
