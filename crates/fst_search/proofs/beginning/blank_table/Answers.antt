use Rattle.std.proofs.Common.{◌≡◌, ◌+◌, ◌++◌, ◌∷◌, [], List, None, map, sym, ap, ◌∙◌, subst}
use Rattle.std.proofs.lemmas.List.{map-append}
use Rattle.fst_semiring.specs.Cost.{Cost}
use Rattle.fst_search.specs.Beginning.{IsBlank}
use Rattle.fst_search.specs.Searching.{Node, blank_node, valued_node}
use Rattle.fst_search.proofs.Begun.{blank-push}
use Rattle.fst_search.proofs.beginning.blank_table.Goals as goal

pub loop-preserved : goal.loop-preserved
loop-preserved g c =
    let value = g.W.Weight.wide_value in
    let node : Node g.row.W-Wide.Denot = record { distance = c.widen.result; link = None; turn = 0 } in
    let pushed : c.push.new.self.items ≡ c.loop.nodes.items ++ node ∷ [] = c.in_ok-push.ensures.items in
    let is_zero = c.widen.ensures.same ∙ c.zero.ensures in
    let blank : ◌≡◌ {A = Node Cost} (valued_node value node) blank_node = λ i. record { distance = is_zero i; link = None; turn = 0 } in
    let whole : map (valued_node value) c.push.new.self.items ≡ map (valued_node value) c.loop.nodes.items ++ blank_node ∷ [] = ap (map (valued_node value)) pushed ∙ (map-append (valued_node value) c.loop.nodes.items (node ∷ []) ∙ ap (λ (z : Node Cost). map (valued_node value) c.loop.nodes.items ++ z ∷ []) blank) in
    subst (λ (ns : List (Node Cost)). IsBlank (c.loop.counter + 1) ns) (sym whole) (blank-push c.loop.counter (map (valued_node value) c.loop.nodes.items) c.loop.invariant)
