use Rattle.std.proofs.Common.{◌≡◌, ◌<◌, ◌++◌, ◌∷◌, [], ℕ, All, List, length, map, sym, ap, ◌∙◌, subst}
use Rattle.std.specs.Prelude.{OnOk}
use Rattle.fst_semiring.specs.Cost.{Cost}
use Rattle.fst_machine.specs.Graph.{graph_of}
use Rattle.fst_machine.specs.Machine.{State, valued, valued_arc, valued_state}
use Rattle.fst_semiring.specs.Semiring.{IsWide}
use Rattle.fst_search.specs.Closure.{Reached}
use Rattle.fst_epsilon.specs.Gathering.{pairs_of}
use Rattle.fst_epsilon.specs.Making.{IsMade, gathered}
use Rattle.fst_epsilon.proofs.Whole.{in_some, pairs_moved, states_moved}
use Rattle.fst_epsilon.proofs.removing.put_soon.Goals as goal

pub returns-in-Some : goal.returns-in-Some
returns-in-Some g c all at made =
    let value = g.W.Weight.value in
    let new = c.put_near.new.output in
    let arcs = ap (map (valued_arc value)) c.as_slice.ensures.value ∙ in_some _ c.in-Some.last _ c.in-Some.is c.in_ok-last.ensures.arcs in
    let ends = in_some _ c.in-Some.last _ c.in-Some.is c.in_ok-last.ensures.ends in
    let same : valued_state value (record { final = c.in-Some.last; arcs = c.as_slice.result.now }) ≡ gathered g.W.Weight.KIND (graph_of (valued value c.args.fst.now)) (pairs_of value c.args.closure.now) = λ i. record { final = ends i; arcs = arcs i } in
    subst (λ (s : State Cost). IsMade (all ++ s ∷ []) (map (valued_state value) new.states) new.total new.overflow) same (c.in_ok-put_near.ensures all made)

pub put_gathered-requires-clause-states : goal.put_gathered-requires-clause-states
put_gathered-requires-clause-states g c =
    subst (λ (rs : List (Reached g.row.W-Wide.Denot)). All (λ (r : Reached g.row.W-Wide.Denot). r.state < length c.args.fst.now.states) rs) (sym c.as_slice-2.ensures.value)
    (states_moved g.W.Weight.value g.W.Weight.wide_value c.args.closure.now c.in_ok-wide.wide.items c.in_ok-wide.ensures.same (length c.args.fst.now.states) c.requires.states)

pub put_gathered-requires-clause-wide : goal.put_gathered-requires-clause-wide
put_gathered-requires-clause-wide g c =
    subst (λ (rs : List (Reached g.row.W-Wide.Denot)). All (λ (r : Reached g.row.W-Wide.Denot). IsWide (g.W.Weight.wide_value r.distance)) rs) (sym c.as_slice-2.ensures.value) c.in_ok-wide.ensures.wide

pub returns : goal.returns
returns g c =
    let value = g.W.Weight.value in
    let wide = g.W.Weight.wide_value in
    let moved = ap (pairs_of wide) c.as_slice-2.ensures.value ∙ pairs_moved value wide c.args.closure.now c.in_ok-wide.wide.items c.in_ok-wide.ensures.same in
    subst (λ (pairs : List (ℕ × Cost)). OnOk c.put_gathered.result ((all : List (State Cost)) → length all ≡ c.args.state → IsMade all (map (valued_state value) c.args.output.now.states) c.args.output.now.total c.args.output.now.overflow → IsMade (all ++ gathered g.W.Weight.KIND (graph_of (valued value c.args.fst.now)) pairs ∷ []) (map (valued_state value) c.put_gathered.new.output.states) c.put_gathered.new.output.total c.put_gathered.new.output.overflow)) moved c.put_gathered.ensures
