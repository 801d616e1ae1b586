use Rattle.std.proofs.Common.{◌≡◌, ◌+◌, ◌++◌, ◌∷◌, [], ℕ, List, Some, length, map, slice_get, take, refl, sym, ap, ap₂, ◌∙◌}
use Rattle.std.proofs.lemmas.Option.{slice_get_read}
use Rattle.fst_semiring.specs.Cost.{Cost, plus}
use Rattle.fst_semiring.specs.Semiring.{times}
use Rattle.fst_machine.specs.Graph.{graph_of}
use Rattle.fst_machine.specs.Machine.{Arc, valued, valued_arc}
use Rattle.fst_machine.proofs.Narrowing.{taken}
use Rattle.fst_search.specs.Closure.{Reached}
use Rattle.fst_search.proofs.Finishing.{final_read}
use Rattle.fst_epsilon.specs.Construction.{best_final, collected, merged, spoken}
use Rattle.fst_epsilon.specs.Gathering.{pairs_of}
use Rattle.fst_epsilon.proofs.Gathered.{arcs_read, best-push, collected-push, merged-append}
use Rattle.fst_epsilon.proofs.Growing.{near_state}
use Rattle.fst_epsilon.proofs.gathering.gather_few.Goals as goal

pub returns-clause-range : goal.returns-clause-range
returns-clause-range g c = near_state g.W.Weight.value (Some c.loop-item.last) c.loop-item.out.arcs.items c.loop-item.invariant.last c.loop-item.invariant.range

pub loop-item-preserved : goal.loop-item-preserved
loop-item-preserved g c =
    let value = g.W.Weight.value in
    let kind = g.W.Weight.KIND in
    let states = c.args.fst.now.states in
    let graph = graph_of (valued value c.args.fst.now) in
    let closure = c.args.closure.now in
    let i = c.loop-item.item-index in
    let b : Reached g.row.W.Denot = record { state = c.item.inside.state; distance = c.item.inside.distance } in
    let d = value b.distance in
    let there : slice_get closure i ≡ Some b = slice_get_read closure (length closure) i c.item-item.result refl c.loop-item-test.true c.item-item.is ∙ ap Some (sym c.item.view_is) in
    let front = take i (pairs_of value closure) in
    let on : take (i + 1) (pairs_of value closure) ≡ front ++ (b.state, d) ∷ [] = taken (λ (r : Reached g.row.W.Denot). (r.state, value r.distance)) closure i b there in
    let own : graph.arcs b.state ≡ map (valued_arc value) c.arcs-arcs.result.now = arcs_read value states b.state c.arcs-arcs.result.now c.arcs-arcs.ensures in
    let ends : g.W.Weight.value c.final_weight.result ≡ graph.final b.state = sym (final_read value states b.state c.final_weight.result c.final_weight.ensures) in
    record {
      marked = c.in_ok-put_few.ensures.marked;
      range = c.in_ok-put_few.ensures.range;
      arcs = c.in_ok-put_few.ensures.arcs c.if-not-branch.false
          ∙ (ap₂ (λ (done own : List (Arc Cost ℕ)). merged done (spoken kind d own)) c.loop-item.invariant.arcs (sym own)
          ∙ (sym (merged-append [] (collected kind graph front) (spoken kind d (graph.arcs b.state)))
          ∙ ap (merged []) (sym (ap (collected kind graph) on ∙ collected-push kind graph front b.state d))));
      last = c.in-Some.ensures.range;
      ends = c.in-Some.ensures.better
          ∙ (ap₂ plus c.loop-item.invariant.ends (ap (times kind d) ends)
          ∙ sym (ap (best_final kind graph) on ∙ best-push kind graph front b.state d));
    }
