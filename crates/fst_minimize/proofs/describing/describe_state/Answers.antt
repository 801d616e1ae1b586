use Rattle.std.proofs.Common.{ℕ, List, sym, subst, map}
use Rattle.std.specs.List.{All}
use Rattle.std.proofs.lemmas.List.Elements.{All-map, All-weaker}
use Rattle.fst_semiring.specs.Semiring.{IsCost, Within}
use Rattle.fst_machine.specs.Machine.{Arc, valued_arc}
use Rattle.fst_machine.specs.Graph.{graph_of}
use Rattle.fst_distance.specs.Values.{most_pushed}
use Rattle.fst_minimize.specs.Saying.{IsByLabel}
use Rattle.fst_minimize.proofs.Describe.{by_label}
use Rattle.fst_minimize.proofs.describing.describe_state.Goals as goal

pub returns-clause-described : goal.returns-clause-described
returns-clause-described g c = λ old.
    let w = g.W.Weight in
    let graph = graph_of c.args.pushed.now in
    let state = c.args.state in
    let by = by_label w.wide_value (graph.arcs state) c.put_arcs.new.out.items c.sort_arcs.new.arcs.items c.in_ok-put_arcs.ensures.arcs (c.requires.once state) c.in_ok-sort_arcs.ensures.same c.in_ok-sort_arcs.ensures.sorted in
    c.in_ok-add_state.ensures.described graph state (subst (λ (xs : List (Arc _ ℕ)). IsByLabel (graph.arcs state) (map (valued_arc w.wide_value) xs)) (sym c.deref.ensures.value) by) (sym c.final_weight.ensures.value) old

pub returns-clause-kind : goal.returns-clause-kind
returns-clause-kind g c =
    let w = g.W.Weight in
    let arcs = c.put_arcs.new.out.items in (
      subst (All (λ a. IsCost w.KIND a.weight)) c.in_ok-put_arcs.ensures.arcs
          (All-map (λ a. IsCost w.KIND a.weight) (valued_arc w.wide_value) arcs
          (All-weaker (λ a. IsCost w.KIND (w.wide_value a.weight) × Within most_pushed (w.wide_value a.weight)) (λ a. IsCost w.KIND (w.wide_value a.weight)) (λ a h. h.0) arcs c.in_ok-put_arcs.ensures.good)),
      subst (IsCost w.KIND) c.final_weight.ensures.value c.final_weight.ensures.kind,
    )
