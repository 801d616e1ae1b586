use Rattle.std.proofs.Common.{◌≡◌, ◌≢◌, ◌*◌, ℕ, Bool, true, List, Some, get_or, length, slice_get, ap, ◌∙◌, sym, subst, subst₂, arith}
use Rattle.std.specs.Bool.{Decides}
use Rattle.fst_semiring.specs.Cost.{infinite}
use Rattle.fst_semiring.proofs.Ranges.{Within-more}
use Rattle.fst_machine.specs.Graph.{graph_of}
use Rattle.fst_machine.specs.Machine.{valued}
use Rattle.fst_search.specs.Distances.{IfImproving, IsListed, IsOpenDistance, IsOpenReached}
use Rattle.fst_distance.specs.Values.{value_in}
use Rattle.fst_select.specs.Surveyed.{best_of_start}
use Rattle.fst_select.specs.Thinned.{most_sum}
use Rattle.fst_select.proofs.SurveyedGraph.{improving_more, listed_useful, none_successful, starts_of, surveyed}
use Rattle.fst_select.proofs.surveying.surveyed.Given.{Over}
use Rattle.fst_select.proofs.surveying.surveyed.Goals.{In-Ok}
use Rattle.fst_select.proofs.surveying.surveyed.Goals as goal

pub returns-in_default-clause-nothing : goal.returns-in_default-clause-nothing
returns-in_default-clause-nothing g c =
    let w = g.W.Weight in
    none_successful w.KIND w.value c.args.fst.now c.states-states.ensures.machine w.wide_value c.in_ok-to_finals.to_finals.items c.in_ok-to_finals.ensures.size c.in_ok-to_finals.ensures.distances
    (subst₂ (λ xs o. best_of_start (value_in w.wide_value xs) o ≡ infinite) c.deref.ensures.value c.start.ensures.value c.in_default.ensures.none)

-- the start, and the marks of the states whose distance is not Zero
start_of : (g : Over) (c : In-Ok g) → (first : ℕ) × (c.args.fst.now.start ≡ Some first) × (value_in g.W.Weight.wide_value c.in_ok-to_finals.to_finals.items first ≡ infinite → ⊥)
start_of g c =
    let w = g.W.Weight in
    starts_of (value_in w.wide_value c.in_ok-to_finals.to_finals.items) c.args.fst.now.start (w.wide_value c.in-Some.best) c.in-Some.ensures.some.0
    (subst₂ (λ xs o. w.wide_value c.in-Some.best ≡ best_of_start (value_in w.wide_value xs) o) c.deref.ensures.value c.start.ensures.value c.in-Some.ensures.some.1)

marks_are : (g : Over) (c : In-Ok g) → (q : ℕ) (x : g.row.W-Wide.Denot) → slice_get c.in_ok-to_finals.to_finals.items q ≡ Some x → Decides (get_or c.in-Ok.marks.items q true) (g.W.Weight.wide_value x ≢ infinite)
marks_are g c q x there = c.in-Ok.ensures q x (ap (λ xs. slice_get xs q) c.deref-2.ensures.value ∙ there)

pub returns-in-Err-clause-cycle : goal.returns-in-Err-clause-cycle
returns-in-Err-clause-cycle g c =
    let at = (goal.at.returns-in-Err-clause-cycle g c).In-Ok in
    let w = g.W.Weight in
    let s = start_of g at in
    improving_more c.in-Err.fault _ _ (listed_useful w.KIND w.value c.args.fst.now c.states-states.ensures.machine w.wide_value c.in_ok-to_finals.to_finals.items c.in_ok-to_finals.ensures.size c.in_ok-to_finals.ensures.distances
    c.in-Ok.marks.items (marks_are g at) s.0 s.1 s.2)
    (subst (λ (ms : List Bool). IfImproving c.in-Err.fault (IsListed w.KIND (graph_of (valued w.value c.args.fst.now)) (IsOpenReached ms (graph_of (valued w.value c.args.fst.now))))) c.deref-3.ensures.value c.in-Err.ensures.cycle)

pub wide_times-bound-requires-clause-a_wide : goal.wide_times-bound-requires-clause-a_wide
wide_times-bound-requires-clause-a_wide g c =
    let w = g.W.Weight in
    let one = c.in-Some.ensures.one in
    let few = c.states-states.ensures.machine.few_states in
    Within-more (length c.args.fst.now.states * 1000000000000000000) 1329227995784915872903807060280344575 (w.wide_value c.in-Some.best) (omega (arith, few))
    (c.in_ok-to_finals.ensures.numbers one.0 c.in-Some.best (ap (λ xs. slice_get xs one.0) (sym c.deref.ensures.value) ∙ one.1))

pub returns-clause-survey : goal.returns-clause-survey
returns-clause-survey g c =
    let at = (goal.at.returns-clause-survey g c).In-Ok in
    let w = g.W.Weight in
    let s = start_of g at in
    surveyed w.KIND w.value c.args.fst.now c.states-states.ensures.machine w.wide_value c.in_ok-to_finals.to_finals.items c.in_ok-to_finals.ensures.size c.in_ok-to_finals.ensures.distances
    c.in-Ok.marks.items (marks_are g at) s.0 s.1 s.2 c.in-Ok-distance_over.from_start.items c.in-Ok-distance_over.ensures.size
    (λ q x there. subst (λ (ms : List Bool). IsOpenDistance ms w.KIND (graph_of (valued w.value c.args.fst.now)) c.args.fst.now.start q (w.wide_value x)) c.deref-3.ensures.value (c.in-Ok-distance_over.ensures.distances q x there))

pub returns-clause-start_range : goal.returns-clause-start_range
returns-clause-start_range g c q d there =
    let few = c.states-states.ensures.machine.few_states in
    Within-more (length c.args.fst.now.states * 1000000000000000000) most_sum (g.W.Weight.wide_value d) (omega (arith, few)) (c.in-Ok-distance_over.ensures.numbers q d there)

pub returns-clause-final_range : goal.returns-clause-final_range
returns-clause-final_range g c q d there =
    let few = c.states-states.ensures.machine.few_states in
    Within-more (length c.args.fst.now.states * 1000000000000000000) most_sum (g.W.Weight.wide_value d) (omega (arith, few)) (c.in_ok-to_finals.ensures.numbers q d there)
