use Rattle.std.proofs.Common.{◌≡◌, ℕ, true, List, [], length, map, get_or, sym, ap, ◌∙◌, subst}
use Rattle.std.proofs.lemmas.List.{length-map}
use Rattle.fst_machine.specs.BreadthFirst.{Has}
use Rattle.fst_trim.specs.Links.{Link}
use Rattle.fst_search.specs.Searching.{distance_at, valued_node}
use Rattle.fst_search.specs.Trying.{AreBelow}
use Rattle.fst_search.proofs.Starting.{known_links, start_cycle, start_made, start_net}
use Rattle.fst_search.proofs.measuring.from_start_over.Goals as goal

pub measure-requires-clause-net : goal.measure-requires-clause-net
measure-requires-clause-net g c =
    let m = g.M.AsMachine.machine c.args.fst.now in
    start_net g.W.Weight.KIND g.M.AsMachine.value m c.state_count-states.ensures.good c.args.marks.now (distance_at []) c.in_ok-links.links c.in_ok-links.ensures

pub measure-requires-clause-known : goal.measure-requires-clause-known
measure-requires-clause-known g c =
    let m = g.M.AsMachine.machine c.args.fst.now in
    subst (λ (ls : List (List (Link g.row.V.Denot))). (q : ℕ) (l : Link g.row.V.Denot) → Has (get_or ls q []) l → g.M.Widens.known l.weight) (sym c.in_ok-links.ensures) (known_links g.M.Widens.known (λ a. true) m.states c.requires.known)

pub returns-clause-made : goal.returns-clause-made
returns-clause-made g c =
    let m = g.M.AsMachine.machine c.args.fst.now in
    start_made g.W.Weight.KIND g.M.AsMachine.value m c.state_count-states.ensures.good c.args.marks.now (distance_at (map (valued_node g.W.Weight.wide_value) c.begin_start.new.table.nodes.items)) (λ v. map g.W.Weight.wide_value v.items) (λ path. path) g.M.Widens.bound (g.Q.StateQueue.members c.measure.new.queue) c.in_ok-links.links c.measure.result
    c.in_ok-links.ensures c.in_ok-begin_start.ensures.values c.measure.ensures.found

pub returns-clause-cycle : goal.returns-clause-cycle
returns-clause-cycle g c =
    let m = g.M.AsMachine.machine c.args.fst.now in
    start_cycle g.W.Weight.KIND g.M.AsMachine.value m c.state_count-states.ensures.good c.args.marks.now (distance_at (map (valued_node g.W.Weight.wide_value) c.begin_start.new.table.nodes.items)) (λ v. map g.W.Weight.wide_value v.items) (λ path. path) g.M.Widens.bound (g.Q.StateQueue.members c.measure.new.queue) c.in_ok-links.links c.measure.result
    c.in_ok-links.ensures c.in_ok-begin_start.ensures.values c.measure.ensures.found

pub returns-clause-below : goal.returns-clause-below
returns-clause-below g c =
    let m = g.M.AsMachine.machine c.args.fst.now in
    let same : length c.in_ok-links.links ≡ length m.states = ap length c.in_ok-links.ensures ∙ length-map m.states _ in
    subst (λ (n : ℕ). AreBelow n (g.Q.StateQueue.members c.measure.new.queue)) same c.measure.ensures.below
