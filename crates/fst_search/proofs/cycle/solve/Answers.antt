use Rattle.std.proofs.Common.{◌≡◌, ◌≤◌, ◌<◌, ℕ, Option, Some, length, map, sym, ap, ◌∙◌, subst}
use Rattle.std.proofs.lemmas.List.{length-map}
use Rattle.fst_machine.specs.declared.path.Step.{Step}
use Rattle.fst_search.specs.Cycles.{in_order}
use Rattle.fst_semiring.specs.Cost.{Cost}
use Rattle.fst_search.specs.Hops.{IsHop}
use Rattle.fst_search.specs.Searching.{Answers, Turned, link_at, valued_node}
use Rattle.fst_search.proofs.Ending.{links_low}
use Rattle.fst_search.proofs.Telling.{found_cycle, turned_trail}
use Rattle.fst_search.proofs.cycle.solve.Given.{Over}
use Rattle.fst_search.proofs.cycle.solve.Goals.{In-Some}
use Rattle.fst_search.proofs.cycle.solve.Goals as goal

-- a state that is answered is one to which kept hops lead back
abbrev Turns : (g : Over) → In-Some g → (ℕ → Cost) → Type 0
Turns g c source = Turned g.W.Weight.KIND (IsHop g.M.AsMachine.value c.args.marks.now c.args.links.now) source (length c.args.links.now) (map (valued_node g.W.Weight.wide_value) c.search.new.table.nodes.items) c.in-Some.state

turns : (g : Over) (c : In-Some g) (source : ℕ → Cost)
    → Answers g.W.Weight.KIND (IsHop g.M.AsMachine.value c.args.marks.now c.args.links.now) source (length c.args.links.now) g.M.Widens.bound (map (valued_node g.W.Weight.wide_value) c.search.new.table.nodes.items) (g.Q.StateQueue.members c.search.new.queue) c.search.new.table.met.items c.in_ok-state.field-0
    → Turns g c source
turns g c source found = subst (λ (r : Option ℕ). Answers g.W.Weight.KIND (IsHop g.M.AsMachine.value c.args.marks.now c.args.links.now) source (length c.args.links.now) g.M.Widens.bound (map (valued_node g.W.Weight.wide_value) c.search.new.table.nodes.items) (g.Q.StateQueue.members c.search.new.queue) c.search.new.table.met.items r) c.in-Some.is found

-- so it is for one source, over as many nodes as there are states
one : (g : Over) (c : In-Some g) → Turns g c c.requires.begun.0 × (length c.args.links.now ≡ length c.search.new.table.nodes.items)
one g c =
    let b = c.requires.begun in
    let t = turns g c b.0 (c.in_ok-state.ensures.found b.0 b.1) in
    (t, sym t.size ∙ length-map c.search.new.table.nodes.items (valued_node g.W.Weight.wide_value))

pub cycle_from-requires-clause-low : goal.cycle_from-requires-clause-low
cycle_from-requires-clause-low g c =
    let t = one g (goal.at.cycle_from-requires-clause-low g c).In-Some in
    let L = link_at (map (valued_node g.W.Weight.wide_value) c.search.new.table.nodes.items) in
    subst (λ (m : ℕ). (q : ℕ) (s : Step) → L q ≡ Some s → (q < m) × (s.state < m)) t.1 (λ q s link. links_low g.W.Weight.KIND _ c.requires.begun.0 _ c.requires.net _ L t.0.tentative q s link)

pub cycle_from-requires-clause-turns : goal.cycle_from-requires-clause-turns
cycle_from-requires-clause-turns g c =
    let t = one g (goal.at.cycle_from-requires-clause-turns g c).In-Some in
    let trail = turned_trail g.W.Weight.KIND (IsHop g.M.AsMachine.value c.args.marks.now c.args.links.now) c.requires.begun.0 (length c.args.links.now) (map (valued_node g.W.Weight.wide_value) c.search.new.table.nodes.items) c.in-Some.state t.0 in
    (trail.0, trail.1, trail.2, subst (λ (m : ℕ). length trail.0 ≤ m) t.1 trail.3)

pub returns-clause-found : goal.returns-clause-found
returns-clause-found g c = λ source begun.
    let t = turns g (goal.at.returns-clause-found g c).In-Some source (c.in_ok-state.ensures.found source begun) in
    let trail = c.in_ok-steps.ensures in
    found_cycle g.W.Weight.KIND (IsHop g.M.AsMachine.value c.args.marks.now c.args.links.now) source c.args.direction (length c.args.links.now) (map (valued_node g.W.Weight.wide_value) c.search.new.table.nodes.items) c.in-Some.state t trail.0 trail.1 trail.2 c.in_ok-path.path
    (c.in_ok-path.ensures ∙ ap (in_order c.args.direction) (c.as_slice.ensures.value ∙ trail.3))
