use Rattle.std.proofs.Common.{List, [], ◌∷◌, All, Ok, Err, length, map, slice_get, refl, sym, ap, ◌∙◌, subst}
use Rattle.std.proofs.lemmas.List.{length-map}
use Rattle.fst_semiring.specs.Semiring.{InRange}
use Rattle.fst_machine.specs.Graph.{graph_of}
use Rattle.fst_machine.specs.Machine.{valued, valued_state}
use Rattle.fst_search.specs.Distances.{Counts, IsDistanceTo, NoneImproves}
use Rattle.fst_search.specs.declared.direction.Direction.{Direction}
use Rattle.fst_verbs.specs.Causes.{unmade}
use Rattle.fst_verbs.specs.Meaning.{text}
use Rattle.fst_verbs.specs.Measuring.{AreDistances, Improves, direction_of, measure_meaning, measure_text}
use Rattle.fst_verbs.specs.declared.commands.measuring.Unmeasured.TheVariants.{ImprovingCycle, Overflow}
use Rattle.fst_verbs.proofs.Measured.{are_distances, in_err, in_ok, listed, measured_passes, on_ok}
use Rattle.fst_verbs.proofs.Refusing.{declines_made}
use Rattle.fst_verbs.proofs.Settled.{settled}
use Rattle.fst_verbs.proofs.commands.measuring.measured.Goals as goal

pub returns-in-Err-ImprovingCycle : goal.returns-in-Err-ImprovingCycle
returns-in-Err-ImprovingCycle g c =
    let kind = g.W.Weight.KIND in
    let value = g.W.Weight.value in
    let o = c.args.options.now in
    let m = c.one-machine.result in
    let cycle = listed c.in-Err-ImprovingCycle.field-0 c.in-Err-ImprovingCycle.field-0-0 _ c.in-Err-ImprovingCycle.field-0-is c.in-Err-ImprovingCycle.ensures.cycle in
    let improves = subst (λ (d : Direction). Improves d kind (valued value m)) c.direction.ensures (cycle.state, cycle.cycle, cycle.counts, cycle.improves) in
    settled (measure_meaning o) kind value c.args.given (m ∷ []) (Err c.unmade.result) c.one-machine.ensures
    (declines_made _ (unmade (measure_text ImprovingCycle)) c.unmade.result (ImprovingCycle, improves, refl) (c.unmade.ensures (measure_text ImprovingCycle) refl))

pub returns-in-Ok-2 : goal.returns-in-Ok-2
returns-in-Ok-2 g c =
    let kind = g.W.Weight.KIND in
    let value = g.W.Weight.value in
    let wide = g.W.Weight.wide_value in
    let o = c.args.options.now in
    let m = c.one-machine.result in
    let now = c.as_slice.result.now in
    let are : AreDistances (direction_of o) kind (valued value m) (map wide now) = are_distances kind (valued value m) wide (direction_of o) now (ap length c.as_slice.ensures.value ∙ (c.in-Ok.ensures.size ∙ sym (length-map m.states (valued_state value))))
    (λ q d there. subst (λ (way : Direction). IsDistanceTo way kind (graph_of (valued value m)) q (wide d)) c.direction.ensures (c.in-Ok.ensures.distances q d (ap (λ (ds : List _). slice_get ds q) (sym c.as_slice.ensures.value) ∙ there))) in
    let none : NoneImproves kind (graph_of (valued value m)) (Counts (direction_of o) (graph_of (valued value m))) = subst (λ (way : Direction). NoneImproves kind (graph_of (valued value m)) (Counts way (graph_of (valued value m)))) c.direction.ensures c.in-Ok.ensures.none in
    let range : All InRange (map wide now) = on_ok c.in_ok-lines.field-0 c.in-Ok-2.lines _ c.in-Ok-2.is c.in_ok-lines.ensures.range in
    settled (measure_meaning o) kind value c.args.given (m ∷ []) (Ok (text c.in-Ok-2.lines.items)) c.one-machine.ensures (
      (λ fault stops. measured_passes kind (valued value m) (direction_of o) (map wide now) are none range stops.0 stops.1),
      (map wide now, are, ap text (in_ok c.in_ok-lines.field-0 c.in-Ok-2.lines _ c.in-Ok-2.is c.in_ok-lines.ensures.told)),
    )

pub returns : goal.returns
returns g c =
    let kind = g.W.Weight.KIND in
    let value = g.W.Weight.value in
    let wide = g.W.Weight.wide_value in
    let o = c.args.options.now in
    let m = c.one-machine.result in
    let now = c.as_slice.result.now in
    let are : AreDistances (direction_of o) kind (valued value m) (map wide now) = are_distances kind (valued value m) wide (direction_of o) now (ap length c.as_slice.ensures.value ∙ (c.in-Ok.ensures.size ∙ sym (length-map m.states (valued_state value))))
    (λ q d there. subst (λ (way : Direction). IsDistanceTo way kind (graph_of (valued value m)) q (wide d)) c.direction.ensures (c.in-Ok.ensures.distances q d (ap (λ (ds : List _). slice_get ds q) (sym c.as_slice.ensures.value) ∙ there))) in
    let none : NoneImproves kind (graph_of (valued value m)) (Counts (direction_of o) (graph_of (valued value m))) = subst (λ (way : Direction). NoneImproves kind (graph_of (valued value m)) (Counts way (graph_of (valued value m)))) c.direction.ensures c.in-Ok.ensures.none in
    let fine : Improves (direction_of o) kind (valued value m) → ⊥ = λ improves. none improves.0 improves.1 improves.2 improves.3 in
    settled (measure_meaning o) kind value c.args.given (m ∷ []) (Err c.unmade-in-Err.result) c.one-machine.ensures
    (declines_made _ (unmade (measure_text (Overflow c.in-Err.state))) c.unmade-in-Err.result (Overflow c.in-Err.state, (fine, map wide now, are, in_err c.in_ok-lines.field-0 c.in-Err.state _ c.in-Err.is c.in_ok-lines.ensures.past), refl) (c.unmade-in-Err.ensures (measure_text (Overflow c.in-Err.state)) refl))
