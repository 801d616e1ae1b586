use Rattle.std.proofs.Common.{◌≡◌, List, Some, get_or, map, refl, sym, ap, ◌∙◌, arith}
use Rattle.std.proofs.lemmas.List.{length-map}
use Rattle.fst_semiring.specs.Cost.{Cost}
use Rattle.fst_machine.specs.Machine.{State, changed, valued, valued_state}
use Rattle.fst_machine.specs.Placing.{arc_counts}
use Rattle.fst_rational.specs.Backing.{put_all, with_more}
use Rattle.fst_rational.specs.Constructions.{final_arcs, reverse_of}
use Rattle.fst_machine.proofs.Valued.{IsMachine-valued}
use Rattle.fst_rational.proofs.Putting.{put_machine, put_valued}
use Rattle.fst_rational.proofs.Backing.{IsMachine-reverse, base, base_count, length-reverse, put_all-reverse}
use Rattle.fst_rational.proofs.Counting.{counts-valued}
use Rattle.fst_rational.proofs.reversal.build.Given as given
use Rattle.fst_rational.proofs.reversal.build.Goals as goal

-- before arcs are put back
bare : (g : given.Over) (c : goal.After-states-3-1 g) → map (valued_state g.W.Weight.value) c.put_finals.new.states.states ≡ base g.W.Weight.KIND (valued g.W.Weight.value c.args.a.now) (IsMachine-valued g.W.Weight.value c.args.a.now c.states-states.ensures.machine)
bare g c =
    let vs = map (valued_state g.W.Weight.value) c.args.a.now.states in
    c.put_finals.ensures.states ∙ ap (λ (ss : List (State Cost)). changed (with_more (final_arcs 1 vs)) ss 0) c.in_ok-states.ensures.states

-- the rooms that the states have
rooms : (g : given.Over) (c : goal.After-states-3-1 g) → c.put_finals.new.states.rooms ≡ arc_counts (reverse_of g.W.Weight.KIND (valued g.W.Weight.value c.args.a.now)).states
rooms g c = c.put_finals.ensures.rooms ∙ (c.in_ok-states.ensures.rooms ∙ (c.as_slice.ensures.value ∙ c.in_ok-counts.ensures))

pub put_all_back-requires-clause-size : goal.put_all_back-requires-clause-size
put_all_back-requires-clause-size g c =
    let value = g.W.Weight.value in
    let kind = g.W.Weight.KIND in
    let a = valued value c.args.a.now in
    let good = IsMachine-valued value c.args.a.now c.states-states.ensures.machine in
    omega (arith, base_count kind a good value c.put_finals.new.states.states (bare g c), length-map c.args.a.now.states (valued_state value))

pub put_all_back-requires-clause-few : goal.put_all_back-requires-clause-few
put_all_back-requires-clause-few g c =
    let value = g.W.Weight.value in
    let kind = g.W.Weight.KIND in
    let a = valued value c.args.a.now in
    let good = IsMachine-valued value c.args.a.now c.states-states.ensures.machine in
    omega (arith, base_count kind a good value c.put_finals.new.states.states (bare g c), length-reverse kind a good, c.requires.states)

pub put_all_back-requires-clause-room : goal.put_all_back-requires-clause-room
put_all_back-requires-clause-room g c =
    let value = g.W.Weight.value in
    let kind = g.W.Weight.KIND in
    let a = valued value c.args.a.now in
    let good = IsMachine-valued value c.args.a.now c.states-states.ensures.machine in
    let made = ap (put_all 1 a.states) (bare g c) ∙ put_all-reverse kind a good in
    λ j. omega (arith, ap (λ (ss : List (State Cost)). get_or (arc_counts ss) j 0) made, ap (λ ns. get_or ns j 0) (rooms g c))

-- all arcs are put back
turned : (g : given.Over) (c : goal.After-put_all_back g) → map (valued_state g.W.Weight.value) c.put_all_back.new.states.states ≡ (reverse_of g.W.Weight.KIND (valued g.W.Weight.value c.args.a.now)).states
turned g c =
    let value = g.W.Weight.value in
    let kind = g.W.Weight.KIND in
    let a = valued value c.args.a.now in
    let good = IsMachine-valued value c.args.a.now c.states-states.ensures.machine in
    let vs = map (valued_state value) c.args.a.now.states in
    let bare = c.put_finals.ensures.states ∙ ap (λ (ss : List (State Cost)). changed (with_more (final_arcs 1 vs)) ss 0) c.in_ok-states.ensures.states in
    c.put_all_back.ensures.states ∙ (ap (put_all 1 a.states) bare ∙ put_all-reverse kind a good)

pub into_machine-requires-clause-machine : goal.into_machine-requires-clause-machine
into_machine-requires-clause-machine g c =
    let value = g.W.Weight.value in
    let kind = g.W.Weight.KIND in
    let a = valued value c.args.a.now in
    put_machine value (reverse_of kind a) (Some 0) c.put_all_back.new.states.states refl (turned g c) (IsMachine-reverse kind a (IsMachine-valued value c.args.a.now c.states-states.ensures.machine) c.requires)

pub into_machine-requires-clause-full : goal.into_machine-requires-clause-full
into_machine-requires-clause-full g c =
    let value = g.W.Weight.value in
    let rooms = c.put_all_back.ensures.rooms ∙ (c.put_finals.ensures.rooms ∙ (c.in_ok-states.ensures.rooms ∙ (c.as_slice.ensures.value ∙ c.in_ok-counts.ensures))) in
    sym (counts-valued value c.put_all_back.new.states.states) ∙ (ap (λ (ss : List (State Cost)). arc_counts ss) (turned g c) ∙ sym rooms)

pub returns : goal.returns
returns g c =
    let value = g.W.Weight.value in
    let kind = g.W.Weight.KIND in
    let a = valued value c.args.a.now in
    let good = IsMachine-valued value c.args.a.now c.states-states.ensures.machine in
    let vs = map (valued_state value) c.args.a.now.states in
    let bare = c.put_finals.ensures.states ∙ ap (λ (ss : List (State Cost)). changed (with_more (final_arcs 1 vs)) ss 0) c.in_ok-states.ensures.states in
    let states = c.put_all_back.ensures.states ∙ (ap (put_all 1 a.states) bare ∙ put_all-reverse kind a good) in
    ap (valued value) c.into_machine.ensures ∙ put_valued value (reverse_of kind a) (Some 0) c.put_all_back.new.states.states refl states
