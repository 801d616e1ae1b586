use Rattle.std.proofs.Common.{ℕ, List, sym, subst, arith}
use Rattle.fst_machine.specs.Machine.{Arc, Machine, most_arcs}
use Rattle.fst_trim.specs.Sorting.{IsArcSorted, IsStableSort}
use Rattle.fst_trim.proofs.Rearranged.{rearranged_machine, rearranged-Rel, sorted_is_rearranged, sort_ends, sort_more, sort_room}
use Rattle.fst_trim.proofs.SortedPaths.{sorted_paths}
use Rattle.fst_trim.proofs.sorting.arcsort.Goals as goal

pub push-requires : goal.push-requires
push-requires g c =
    let sorted = subst (λ (zs : List (Arc g.row.W.Denot ℕ)). IsStableSort c.args.side c.arcs.result.now zs) (sym c.as_slice.ensures.value) c.in_ok-sort_arcs.ensures in
    sort_room c.args.side c.args.a.now.states c.loop-state.states c.loop-state.state c.final_weight.result c.arcs.result.now c.as_slice.result.now c.loop-state.invariant c.final_weight.ensures c.arcs.ensures sorted most_arcs c.states-state-end.ensures.machine.few_arcs

pub loop-state-preserved : goal.loop-state-preserved
loop-state-preserved g c =
    let sorted = subst (λ (zs : List (Arc g.row.W.Denot ℕ)). IsStableSort c.args.side c.arcs.result.now zs) (sym c.as_slice.ensures.value) c.in_ok-sort_arcs.ensures in
    sort_more c.args.side c.args.a.now.states c.loop-state.states c.loop-state.state c.final_weight.result c.arcs.result.now c.as_slice.result.now c.loop-state.invariant c.final_weight.ensures c.arcs.ensures sorted c.push.new.self c.in_ok-push.ensures.ok

pub into_machine-requires : goal.into_machine-requires
into_machine-requires g c =
    let m = c.args.a.now in
    let new : Machine g.row.W.Denot = record { start = c.start.result; states = c.loop-state.states } in
    let h = sort_ends c.args.side m new c.loop-state.state (omega (arith, c.states-state-end.ensures.value)) (omega (arith, c.states-state-end.ensures.value)) c.start.ensures.value c.loop-state.invariant in
    rearranged_machine g.W.Weight.value m new (sorted_is_rearranged c.args.side m new h.0) h.1 c.states-state-end.ensures.machine

pub returns-clause-machine : goal.returns-clause-machine
returns-clause-machine g c =
    let m = c.args.a.now in
    let new : Machine g.row.W.Denot = record { start = c.start.result; states = c.loop-state.states } in
    let h = sort_ends c.args.side m new c.loop-state.state (omega (arith, c.states-state-end.ensures.value)) (omega (arith, c.states-state-end.ensures.value)) c.start.ensures.value c.loop-state.invariant in
    subst (λ (n : Machine g.row.W.Denot). IsArcSorted c.args.side m n) (sym c.into_machine.ensures) h.0

pub returns-clause-paths : goal.returns-clause-paths
returns-clause-paths g c =
    let m = c.args.a.now in
    let value = g.W.Weight.value in
    let new : Machine g.row.W.Denot = record { start = c.start.result; states = c.loop-state.states } in
    let h = sort_ends c.args.side m new c.loop-state.state (omega (arith, c.states-state-end.ensures.value)) (omega (arith, c.states-state-end.ensures.value)) c.start.ensures.value c.loop-state.invariant in
    let sorted = subst (λ (n : Machine g.row.W.Denot). IsArcSorted c.args.side m n) (sym c.into_machine.ensures) h.0 in
    sorted_paths value c.args.side m c.into_machine.result sorted g.W.Weight.KIND

pub returns-clause-relation : goal.returns-clause-relation
returns-clause-relation g c x y w =
    let m = c.args.a.now in
    let value = g.W.Weight.value in
    let new : Machine g.row.W.Denot = record { start = c.start.result; states = c.loop-state.states } in
    let h = sort_ends c.args.side m new c.loop-state.state (omega (arith, c.states-state-end.ensures.value)) (omega (arith, c.states-state-end.ensures.value)) c.start.ensures.value c.loop-state.invariant in
    let sorted = subst (λ (n : Machine g.row.W.Denot). IsArcSorted c.args.side m n) (sym c.into_machine.ensures) h.0 in
    rearranged-Rel value m c.into_machine.result (sorted_is_rearranged c.args.side m c.into_machine.result sorted) g.W.Weight.KIND x y w
