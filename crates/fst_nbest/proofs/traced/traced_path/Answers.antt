use Rattle.std.proofs.Common.{◌≡◌, ◌+◌, ◌++◌, ◌∷◌, [], ℕ, List, sym, ap, subst, ◌∙◌, arith}
use Rattle.std.proofs.lemmas.List.{map-append}
use Rattle.std.proofs.lemmas.Option.{slice_get-get_or}
use Rattle.fst_machine.specs.Machine.{valued}
use Rattle.fst_machine.specs.Graph.{graph_of}
use Rattle.fst_machine.specs.Steps.{written}
use Rattle.fst_machine.specs.declared.path.Step.{Step}
use Rattle.fst_nbest.specs.Chains.{arc_at, no_arc}
use Rattle.fst_nbest.proofs.TracedWords.{IsTracing, tracing_begins, tracing_ends, tracing_goes_on, tracing_within}
use Rattle.fst_nbest.proofs.traced.traced_path.Goals as goal

pub loop-k-init : goal.loop-k-init
loop-k-init g c =
    let graph = graph_of (valued g.M.AsMachine.value (g.M.AsMachine.machine c.args.fst.now)) in
    record {
      tracing = subst (λ (steps : List (ℕ × ℕ)). IsTracing graph c.args.start c.args.word.now 0 steps c.args.start) (sym (ap written c.new-path.ensures)) (tracing_begins graph c.args.start c.args.word.now c.requires.word);
      low = c.requires.start;
    }

pub next_state-state-requires : goal.next_state-state-requires
next_state-state-requires g c =
    let graph = graph_of (valued g.M.AsMachine.value (g.M.AsMachine.machine c.args.fst.now)) in
    tracing_within graph c.args.start c.args.word.now c.loop-k.k c.item-place.result.now c.item-place.ensures (written c.loop-k.path) c.loop-k.state c.loop-k.invariant.tracing

pub loop-k-preserved : goal.loop-k-preserved
loop-k-preserved g c =
    let graph = graph_of (valued g.M.AsMachine.value (g.M.AsMachine.machine c.args.fst.now)) in
    let state = c.loop-k.state in
    let place = c.item-place.result.now in
    let t = c.loop-k.invariant.tracing in
    let within = tracing_within graph c.args.start c.args.word.now c.loop-k.k place c.item-place.ensures (written c.loop-k.path) state t in
    let next : c.next_state-state.result ≡ (arc_at graph (state, place)).next = c.next_state-state.ensures.next (arc_at graph (state, place)) (slice_get-get_or (graph.arcs state) place (no_arc state) within) in
    let step : Step = record { state = state; place = place } in
    let steps : written c.loop-k.path ++ (state, place) ∷ [] ≡ written c.push.new.self = sym (map-append (λ (s : Step). (s.state, s.place)) c.loop-k.path (step ∷ [])) ∙ ap written (sym c.in_ok-push.ensures.ok) in
    record {
      tracing = subst (λ (q : ℕ). IsTracing graph c.args.start c.args.word.now (c.loop-k.k + 1) (written c.push.new.self) q) (sym next)
          (subst (λ (l : List (ℕ × ℕ)). IsTracing graph c.args.start c.args.word.now (c.loop-k.k + 1) l (arc_at graph (state, place)).next) steps (tracing_goes_on graph c.args.start c.args.word.now c.loop-k.k place c.item-place.ensures (written c.loop-k.path) state t));
      low = c.next_state-state.ensures.low;
    }

pub returns : goal.returns
returns g c =
    let graph = graph_of (valued g.M.AsMachine.value (g.M.AsMachine.machine c.args.fst.now)) in
    tracing_ends graph c.args.start c.args.word.now c.loop-k.k (written c.loop-k.path) c.loop-k.state (omega (arith, c.loop-k-test.false, c.len-k-end.ensures)) c.loop-k.invariant.tracing
