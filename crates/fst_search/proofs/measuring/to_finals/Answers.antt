use Rattle.std.proofs.Common.{◌≡◌, ℕ, List, [], length, map, get_or, sym, ap, ◌∙◌, subst, arith}
use Rattle.fst_machine.specs.BreadthFirst.{Has}
use Rattle.fst_trim.specs.Links.{Link}
use Rattle.fst_search.specs.Searching.{distance_at, valued_node}
use Rattle.fst_search.specs.Beginning.{IsBegun}
use Rattle.fst_search.specs.Trying.{AreBelow}
use Rattle.fst_search.proofs.Finishing.{finals_cycle, finals_made, finals_net, known_turned, turned_length}
use Rattle.fst_search.proofs.measuring.to_finals.Goals as goal

pub measure-requires-clause-net : goal.measure-requires-clause-net
measure-requires-clause-net g c = finals_net g.M.AsMachine.value (g.M.AsMachine.machine c.args.fst.now) c.state_count-states.ensures.good c.args.marks.now c.in_ok-links.links c.in_ok-links.ensures

pub measure-requires-clause-known : goal.measure-requires-clause-known
measure-requires-clause-known g c =
    let m = g.M.AsMachine.machine c.args.fst.now in
    subst (λ (ls : List (List (Link g.row.V.Denot))). (q : ℕ) (l : Link g.row.V.Denot) → Has (get_or ls q []) l → g.M.Widens.known l.weight) (sym c.in_ok-links.ensures) (known_turned g.M.Widens.known m.states c.requires.known)

pub returns-clause-made : goal.returns-clause-made
returns-clause-made g c =
    finals_made g.W.Weight.KIND g.M.AsMachine.value (g.M.AsMachine.machine c.args.fst.now) c.state_count-states.ensures.good c.args.marks.now (distance_at (map (valued_node g.W.Weight.wide_value) c.begin_finals.new.table.nodes.items)) c.in_ok-begin_finals.ensures.values c.requires.closed
    (λ v. map g.W.Weight.wide_value v.items) (λ path. path) g.M.Widens.bound (g.Q.StateQueue.members c.measure.new.queue) c.in_ok-links.links c.measure.result c.in_ok-links.ensures c.measure.ensures.found

pub returns-clause-cycle : goal.returns-clause-cycle
returns-clause-cycle g c =
    finals_cycle g.W.Weight.KIND g.M.AsMachine.value (g.M.AsMachine.machine c.args.fst.now) c.state_count-states.ensures.good c.args.marks.now (distance_at (map (valued_node g.W.Weight.wide_value) c.begin_finals.new.table.nodes.items)) c.in_ok-begin_finals.ensures.values c.requires.closed
    (λ v. map g.W.Weight.wide_value v.items) (λ path. path) g.M.Widens.bound (g.Q.StateQueue.members c.measure.new.queue) c.in_ok-links.links c.measure.result c.in_ok-links.ensures c.measure.ensures.found

pub returns-clause-below : goal.returns-clause-below
returns-clause-below g c =
    let m = g.M.AsMachine.machine c.args.fst.now in
    let same : length c.in_ok-links.links ≡ length m.states = ap length c.in_ok-links.ensures ∙ turned_length m.states in
    subst (λ (n : ℕ). AreBelow n (g.Q.StateQueue.members c.measure.new.queue)) same c.measure.ensures.below

pub measure-requires-clause-size : goal.measure-requires-clause-size
measure-requires-clause-size g c =
    let m = g.M.AsMachine.machine c.args.fst.now in
    let same : length c.in_ok-links.links ≡ length m.states = ap length c.in_ok-links.ensures ∙ turned_length m.states in
    let few = c.state_count-states.ensures.good.few_states in
    omega arith

pub measure-requires-clause-begun : goal.measure-requires-clause-begun
measure-requires-clause-begun g c =
    let m = g.M.AsMachine.machine c.args.fst.now in
    let same : length c.in_ok-links.links ≡ length m.states = ap length c.in_ok-links.ensures ∙ turned_length m.states in
    subst (λ (n : ℕ). IsBegun g.W.Weight.KIND n g.M.Widens.bound (map (valued_node g.W.Weight.wide_value) c.begin_finals.new.table.nodes.items) (g.Q.StateQueue.members c.begin_finals.new.queue) c.begin_finals.new.table.met.items) (sym same) c.in_ok-begin_finals.ensures.begun
