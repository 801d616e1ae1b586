use Rattle.std.proofs.Common.{ℕ, ◌≡◌, inr, ◌<◌, [], ◌∷◌, ◌++◌, Some, slice_get, List, length, refl, sym, ap, ◌∙◌, subst, arith}
use Rattle.std.proofs.lemmas.Option.{slice_get_read}
use Rattle.fst_machine.specs.Machine.{valued}
use Rattle.fst_machine.specs.Graph.{graph_of, nexts}
use Rattle.fst_machine.specs.BreadthFirst.{Grows, Has}
use Rattle.fst_machine.proofs.Elements.{at_Has, Apart_below}
use Rattle.fst_machine.proofs.Walking.{walking_begins, walking_goes_on, walking_ends, walking_apart, graph_nexts, nexts_within}
use Rattle.fst_machine.proofs.BreadthFirst.{breadth_first_of_walked}
use Rattle.fst_plain.proofs.Reached.{begins_within, goes_on_within}
use Rattle.fst_plain.proofs.scan.breadth_first.Goals as goal

pub loop-taken-init : goal.loop-taken-init
loop-taken-init g c =
    let e : c.push.new.self.items ≡ c.args.start ∷ [] = c.in_ok-push.ensures.items ∙ ap (λ ns. ns ++ c.args.start ∷ []) c.new-names.ensures.items in
    record {
      walking = walking_begins (graph_of (valued g.W.Weight.value c.args.fst.now)) c.args.start c.push.new.self.items (inr ((λ none. none), sym e));
      within = subst (λ (ns : List ℕ). (k : ℕ) → Has ns k → k < length c.args.fst.now.states) (sym e) (begins_within (length c.args.fst.now.states) c.args.start c.requires);
    }

pub arcs-arcs-requires : goal.arcs-arcs-requires
arcs-arcs-requires g c =
    let names = c.loop-taken.names.items in
    let low : c.loop-taken.taken < length names = omega arith in
    let there : slice_get names c.loop-taken.taken ≡ Some c.index.result.now = slice_get_read names (length names) c.loop-taken.taken c.index.result.now refl low c.index.ensures in
    c.loop-taken.invariant.within c.index.result.now (at_Has names c.loop-taken.taken c.index.result.now there)

pub loop-taken-smaller : goal.loop-taken-smaller
loop-taken-smaller g c =
    let few = Apart_below (length c.args.fst.now.states) c.loop-taken.names.items (walking_apart (graph_of (valued g.W.Weight.value c.args.fst.now)) c.args.start c.loop-taken.names.items c.loop-taken.taken c.loop-taken.invariant.walking) c.loop-taken.invariant.within in
    omega (arith, few)

pub loop-taken-preserved : goal.loop-taken-preserved
loop-taken-preserved g c =
    let names = c.loop-taken.names.items in
    let graph = graph_of (valued g.W.Weight.value c.args.fst.now) in
    let n = c.index.result.now in
    let low : c.loop-taken.taken < length names = omega arith in
    let there : slice_get names c.loop-taken.taken ≡ Some n = slice_get_read names (length names) c.loop-taken.taken n refl low c.index.ensures in
    let grows : Grows names (nexts (graph.arcs n)) c.find_all.new.names.items = subst (λ (zs : List ℕ). Grows names zs c.find_all.new.names.items) (sym (graph_nexts g.W.Weight.value c.args.fst.now n c.arcs-arcs.result.now c.arcs-arcs.ensures)) c.in_ok-find_all.ensures in
    record {
      walking = walking_goes_on graph c.args.start names c.find_all.new.names.items c.loop-taken.taken n c.loop-taken.invariant.walking there grows;
      within = goes_on_within (length c.args.fst.now.states) names c.find_all.new.names.items c.arcs-arcs.result.now c.loop-taken.invariant.within (nexts_within g.W.Weight.value c.args.fst.now n c.arcs-arcs.result.now c.states-states.ensures.machine c.arcs-arcs.ensures) c.in_ok-find_all.ensures;
    }

pub returns : goal.returns
returns g c = breadth_first_of_walked (graph_of (valued g.W.Weight.value c.args.fst.now)) c.args.start c.loop-taken.names.items (walking_ends (graph_of (valued g.W.Weight.value c.args.fst.now)) c.args.start c.loop-taken.names.items c.loop-taken.taken c.loop-taken.invariant.walking (omega arith))
