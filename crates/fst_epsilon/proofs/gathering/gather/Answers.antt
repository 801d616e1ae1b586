use Rattle.std.proofs.Common.{◌≡◌, ◌+◌, ◌++◌, ◌∷◌, [], ℕ, List, Some, length, map, slice_get, take, refl, sym, ap, ap₂, ◌∙◌}
use Rattle.std.proofs.lemmas.Option.{slice_get_read}
use Rattle.fst_semiring.specs.Cost.{Cost, plus}
use Rattle.fst_semiring.specs.Semiring.{times}
use Rattle.fst_machine.specs.Graph.{graph_of}
use Rattle.fst_machine.specs.Machine.{Arc, valued, valued_arc}
use Rattle.fst_machine.proofs.Narrowing.{taken}
use Rattle.fst_search.specs.Closure.{Reached}
use Rattle.fst_search.proofs.Finishing.{final_read}
use Rattle.fst_epsilon.specs.Construction.{best_final, collected, merged, spoken}
use Rattle.fst_epsilon.specs.Gathering.{pairs_of}
use Rattle.fst_epsilon.proofs.Gathered.{arcs_read, best-push, collected-push, merged-append}
use Rattle.fst_epsilon.proofs.gathering.gather.Goals as goal

pub loop-item-preserved : goal.loop-item-preserved
loop-item-preserved g c =
    let value = g.W.Weight.value in
    let wide = g.W.Weight.wide_value in
    let kind = g.W.Weight.KIND in
    let states = c.args.fst.now.states in
    let graph = graph_of (valued value c.args.fst.now) in
    let closure = c.args.closure.now in
    let i = c.loop-item.item-index in
    let b : Reached g.row.W-Wide.Denot = record { state = c.item.inside.state; distance = c.item.inside.distance } in
    let d = wide b.distance in
    let there : slice_get closure i ≡ Some b = slice_get_read closure (length closure) i c.item-item.result refl c.loop-item-test.true c.item-item.is ∙ ap Some (sym c.item.view_is) in
    let front = take i (pairs_of wide closure) in
    let on : take (i + 1) (pairs_of wide closure) ≡ front ++ (b.state, d) ∷ [] = taken (λ (r : Reached g.row.W-Wide.Denot). (r.state, wide r.distance)) closure i b there in
    let own : graph.arcs b.state ≡ map (valued_arc value) c.arcs.result.now = arcs_read value states b.state c.arcs.result.now c.arcs.ensures in
    let ends : g.W.Weight.value c.final_weight.result ≡ graph.final b.state = sym (final_read value states b.state c.final_weight.result c.final_weight.ensures) in
    record {
      paired = c.in_ok-put_arcs.ensures.paired;
      arcs = c.in_ok-put_arcs.ensures.arcs
          ∙ (ap₂ (λ (done own : List (Arc Cost ℕ)). merged done (spoken kind d own)) c.loop-item.invariant.arcs (sym own)
          ∙ (sym (merged-append [] (collected kind graph front) (spoken kind d (graph.arcs b.state)))
          ∙ ap (merged []) (sym (ap (collected kind graph) on ∙ collected-push kind graph front b.state d))));
      ends = c.better_end-last.ensures
          ∙ (ap₂ plus c.loop-item.invariant.ends (ap (times kind d) ends)
          ∙ sym (ap (best_final kind graph) on ∙ best-push kind graph front b.state d));
    }
