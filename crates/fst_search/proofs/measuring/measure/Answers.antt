use Rattle.std.proofs.Common.{◌≡◌, List, Option, None, length, map, subst}
use Rattle.fst_machine.specs.declared.path.Step.{Step}
use Rattle.fst_search.specs.Cycles.{Solves}
use Rattle.fst_search.specs.Hops.{IsHop}
use Rattle.fst_search.specs.Searching.{distance_at, valued_node}
use Rattle.fst_search.proofs.Begun.{searching_begins}
use Rattle.fst_search.proofs.Kept.{kept_least}
use Rattle.fst_search.proofs.measuring.measure.Goals as goal

pub solve-requires-clause-begun : goal.solve-requires-clause-begun
solve-requires-clause-begun g c =
    let nodes = map (valued_node g.W.Weight.wide_value) c.args.table.now.nodes.items in
    (distance_at nodes, searching_begins g.W.Weight.KIND (length c.args.links) g.M.Widens.bound (IsHop g.M.AsMachine.value c.args.marks.now c.args.links) nodes (g.Q.StateQueue.members c.args.queue.now) c.args.table.now.met.items g.met.M.Widens.few c.requires.begun)

pub returns-in-Some-clause-found : goal.returns-in-Some-clause-found
returns-in-Some-clause-found g c =
    let nodes = map (valued_node g.W.Weight.wide_value) c.args.table.now.nodes.items in
    let goes = IsHop g.M.AsMachine.value c.args.marks.now c.args.links in
    let n = length c.args.links in
    let begun = searching_begins g.W.Weight.KIND n g.M.Widens.bound goes nodes (g.Q.StateQueue.members c.args.queue.now) c.args.table.now.met.items g.met.M.Widens.few c.requires.begun in
    subst (λ (r : Option (List Step)). Solves g.W.Weight.KIND goes (distance_at nodes) c.args.direction n g.M.Widens.bound (map (valued_node g.W.Weight.wide_value) c.solve.new.table.nodes.items) (g.Q.StateQueue.members c.solve.new.queue) c.solve.new.table.met.items r) c.in-Some.is (c.in_ok-cycle.ensures.found (distance_at nodes) begun)

pub returns-clause-found : goal.returns-clause-found
returns-clause-found g c =
    let value = g.W.Weight.wide_value in
    let nodes = map (valued_node value) c.args.table.now.nodes.items in
    let now = map (valued_node value) c.solve.new.table.nodes.items in
    let goes = IsHop g.M.AsMachine.value c.args.marks.now c.args.links in
    let n = length c.args.links in
    let begun = searching_begins g.W.Weight.KIND n g.M.Widens.bound goes nodes (g.Q.StateQueue.members c.args.queue.now) c.args.table.now.met.items g.met.M.Widens.few c.requires.begun in
    let none : c.in_ok-cycle.cycle ≡ None = c.in_default.is in
    let solved = subst (λ (r : Option (List Step)). Solves g.W.Weight.KIND goes (distance_at nodes) c.args.direction n g.M.Widens.bound now (g.Q.StateQueue.members c.solve.new.queue) c.solve.new.table.met.items r) none (c.in_ok-cycle.ensures.found (distance_at nodes) begun) in
    (solved.0, kept_least g.W.Weight.KIND goes (distance_at nodes) n g.M.Widens.bound value c.solve.new.table.nodes.items c.in_ok-values.values.items c.solve.new.table.met.items c.in_ok-values.ensures solved.1)
