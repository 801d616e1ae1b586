use Rattle.std.proofs.Common.{◌≡◌, ◌<◌, ◌++◌, ◌∷◌, [], ℕ, List, None, inl, length, map, set, get_or, sym, refl, ap, ◌∙◌, subst, arith, rules, append-nil}
use Rattle.std.proofs.lemmas.List.{length-map, map-append, map-set}
use Rattle.fst_semiring.specs.Cost.{Cost}
use Rattle.fst_machine.specs.BreadthFirst.{Has}
use Rattle.fst_machine.proofs.Elements.{Has-append_right}
use Rattle.fst_search.specs.Closure.{Reached, Unmeeting, valued_reached}
use Rattle.fst_search.specs.Searching.{Node, blank_node, valued_node}
use Rattle.fst_search.proofs.Nodes.{node_read}
use Rattle.fst_search.proofs.Unmet.{unmeeting_on}
use Rattle.fst_search.proofs.unmeeting.take_met.Given.{Over}
use Rattle.fst_search.proofs.unmeeting.take_met.Goals.{In-Some}
use Rattle.fst_search.proofs.unmeeting.take_met.Goals as goal

-- the state that is taken off is one of the nodes
low : (g : Over) (c : In-Some g) → c.in-Some.state < length c.loop-state.table.nodes.items
low g c =
    let value = g.W.Weight.wide_value in
    let u = c.loop-state.invariant.taking in
    let has : Has c.loop-state.table.met.items c.in-Some.state = subst (λ (xs : List ℕ). Has xs c.in-Some.state) (sym c.in-Some.ensures.items) (Has-append_right c.pop.new.self.items (c.in-Some.state ∷ []) c.in-Some.state (inl refl)) in
    let was = c.requires.low c.in-Some.state (u.old c.in-Some.state has) in
    let size = u.size in
    let one = length-map c.loop-state.table.nodes.items (valued_node value) in
    let two = length-map c.args.table.now.nodes.items (valued_node value) in
    omega arith

pub index-requires : goal.index-requires
index-requires g c = let below = low g (goal.at.index-requires g c).In-Some in search rules

pub index_mut-requires : goal.index_mut-requires
index_mut-requires g c = let below = low g (goal.at.index_mut-requires g c).In-Some in search rules

pub loop-state-preserved : goal.loop-state-preserved
loop-state-preserved g c =
    let value = g.W.Weight.wide_value in
    let items = c.loop-state.table.nodes.items in
    let nodes = map (valued_node value) items in
    let before = map (valued_node value) c.args.table.now.nodes.items in
    let all = c.args.table.now.met.items in
    let state = c.in-Some.state in
    let u = c.loop-state.invariant.taking in
    let low = low g (goal.at.loop-state-preserved g c).In-Some in
    let below : state < length nodes = (let one = length-map items (valued_node value) in omega arith) in
    let node : Node g.row.W-Wide.Denot = record { distance = c.behind-table.inside.distance; link = c.behind-table.inside.link; turn = c.behind-table.inside.turn } in
    let is : node ≡ get_or items state node = subst (λ (z : Node g.row.W-Wide.Denot). z ≡ get_or items state z) (sym c.behind-table.view_is) c.index.ensures in
    let was = node_read value items state node low is in
    let r : Reached g.row.W-Wide.Denot = record { state = state; distance = node.distance } in
    let blank : Node g.row.W-Wide.Denot = record { distance = c.widen.result; link = None; turn = 0 } in
    let is_zero = c.widen.ensures.same ∙ c.zero.ensures in
    let same : ◌≡◌ {A = Node Cost} (valued_node value blank) blank_node = λ i. record { distance = is_zero i; link = None; turn = 0 } in
    let wrote : map (valued_node value) (set items state blank) ≡ set nodes state blank_node = map-set (valued_node value) items state blank ∙ ap (λ (z : Node Cost). set nodes state z) same in
    let pushed : c.push.new.self.items ≡ c.loop-state.list.items ++ r ∷ [] = c.in_ok-push.ensures.items in
    let list : map (valued_reached value) c.push.new.self.items ≡ map (valued_reached value) c.loop-state.list.items ++ valued_reached value r ∷ [] = ap (map (valued_reached value)) pushed ∙ map-append (valued_reached value) c.loop-state.list.items (r ∷ []) in
    let on = unmeeting_on before nodes (map (valued_node value) (set items state blank)) all c.loop-state.table.met.items c.pop.new.self.items (map (valued_reached value) c.loop-state.list.items) (valued_reached value r) u c.in-Some.ensures.items below (sym (ap (λ z. z.distance) was)) wrote in
    record {
      taking = subst (λ (ls : List (Reached Cost)). Unmeeting before (map (valued_node value) (set items state blank)) all c.pop.new.self.items ls) (sym list) on;
      later = c.loop-state.invariant.later;
    }

pub returns-clause-list : goal.returns-clause-list
returns-clause-list g c =
    let same : c.loop-state.table.met.items ≡ c.pop.new.self.items = c.in_default.ensures.items ∙ append-nil c.pop.new.self.items in
    subst (λ (ms : List ℕ). Unmeeting (map (valued_node g.W.Weight.wide_value) c.args.table.now.nodes.items) (map (valued_node g.W.Weight.wide_value) c.loop-state.table.nodes.items) c.args.table.now.met.items ms (map (valued_reached g.W.Weight.wide_value) c.loop-state.list.items)) same c.loop-state.invariant.taking
