use Rattle.std.proofs.Common.{◌≡◌, ◌<◌, ◌++◌, ◌∷◌, [], ℕ, List, length, map, set, get_or, refl, sym, subst, arith}
use Rattle.std.proofs.lemmas.List.{length-map}
use Rattle.fst_semiring.specs.Cost.{Cost}
use Rattle.fst_search.specs.Beginning.{IsBegun}
use Rattle.fst_search.specs.Searching.{Node, valued_node}
use Rattle.fst_search.proofs.Begun.{begun_more, sets_written}
use Rattle.fst_search.proofs.Nodes.{distance_written}
use Rattle.fst_search.proofs.beginning.begin_at.Goals as goal

pub returns-clause-begun : goal.returns-clause-begun
returns-clause-begun g c = λ n bound number begun.
    let value = g.W.Weight.wide_value in
    let items = c.args.table.now.nodes.items in
    let node : Node g.row.W-Wide.Denot = record { distance = c.behind-table.inside.distance; link = c.behind-table.inside.link; turn = c.behind-table.inside.turn } in
    let is : node ≡ get_or items c.args.state node = subst (λ (z : Node g.row.W-Wide.Denot). z ≡ get_or items c.args.state z) (sym c.behind-table.view_is) c.index_mut.ensures.value in
    let low : c.args.state < length (map (valued_node value) items) = (let same = length-map items (valued_node value) in let below = c.requires.state in omega arith) in
    let wrote = distance_written value items c.args.state c.args.value node c.requires.state is in
    let met : c.push.new.self.items ≡ c.args.table.now.met.items ++ c.args.state ∷ [] = c.in_ok-push.ensures.items in
    let after : List (Node Cost) = map (valued_node value) (set items c.args.state (record { distance = c.args.value; link = node.link; turn = node.turn })) in
    subst (λ (ms : List ℕ). IsBegun g.W.Weight.KIND n bound after (g.Q.StateQueue.members c.put.new.self) ms) (sym met)
    (begun_more g.W.Weight.KIND n bound c.args.state (value c.args.value) (map (valued_node value) items) after (g.Q.StateQueue.members c.args.queue.now) (g.Q.StateQueue.members c.put.new.self) c.args.table.now.met.items begun low c.requires.some number c.requires.kind c.requires.new c.in_ok-put.ensures.ok wrote)

pub returns-clause-sets : goal.returns-clause-sets
returns-clause-sets g c =
    let value = g.W.Weight.wide_value in
    let items = c.args.table.now.nodes.items in
    let node : Node g.row.W-Wide.Denot = record { distance = c.behind-table.inside.distance; link = c.behind-table.inside.link; turn = c.behind-table.inside.turn } in
    let is : node ≡ get_or items c.args.state node = subst (λ (z : Node g.row.W-Wide.Denot). z ≡ get_or items c.args.state z) (sym c.behind-table.view_is) c.index_mut.ensures.value in
    let low : c.args.state < length (map (valued_node value) items) = (let same = length-map items (valued_node value) in let below = c.requires.state in omega arith) in
    sets_written c.args.state (value c.args.value) (map (valued_node value) items) _ _ low (distance_written value items c.args.state c.args.value node c.requires.state is) refl
