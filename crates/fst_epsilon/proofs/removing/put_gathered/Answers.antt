use Rattle.std.proofs.Common.{◌≡◌, ◌++◌, ◌∷◌, [], map, ap, ◌∙◌, subst}
use Rattle.fst_semiring.specs.Cost.{Cost}
use Rattle.fst_machine.specs.Graph.{graph_of}
use Rattle.fst_machine.specs.Machine.{State, valued, valued_arc, valued_state}
use Rattle.fst_epsilon.specs.Gathering.{pairs_of}
use Rattle.fst_epsilon.specs.Making.{IsMade, gathered}
use Rattle.fst_epsilon.proofs.removing.put_gathered.Goals as goal

pub returns : goal.returns
returns g c all at made =
    let value = g.W.Weight.value in
    let wide = g.W.Weight.wide_value in
    let new = c.put_state.new.output in
    let arcs = ap (map (valued_arc wide)) c.as_slice.ensures.value ∙ c.in_ok-last.ensures.arcs in
    let ends = c.in_ok-last.ensures.ends in
    let same : valued_state wide (record { final = c.in_ok-last.last; arcs = c.as_slice.result.now }) ≡ gathered g.W.Weight.KIND (graph_of (valued value c.args.fst.now)) (pairs_of wide c.args.closure.now) = λ i. record { final = ends i; arcs = arcs i } in
    subst (λ (s : State Cost). IsMade (all ++ s ∷ []) (map (valued_state value) new.states) new.total new.overflow) same (c.in_ok-put_state.ensures all at made)
