use Rattle.std.proofs.Common.{◌≡◌, ◌+◌, ℕ, [], ◌∷◌, ◌++◌, None, Some, map, sym, ap, ◌∙◌, arith}
use Rattle.std.proofs.lemmas.List.{length-append}
use Rattle.fst_search.specs.Searching.{Node, link_at, valued_node}
use Rattle.fst_search.proofs.Nodes.{node_read}
use Rattle.fst_search.proofs.Trails.{IsTrail-push}
use Rattle.fst_search.proofs.searching.follow.Goals as goal

pub loop-preserved : goal.loop-preserved
loop-preserved g c =
    let value = g.W.Weight.wide_value in
    let items = c.args.nodes.now.items in
    let was = node_read value items c.loop.at c.index.result.now c.loop.invariant.0 c.index.ensures in
    let link : link_at (map (valued_node value) items) c.loop.at ≡ Some c.in-Some.step = ap (λ z. z.link) was ∙ (ap (λ (n : Node g.row.W-Wide.Denot). n.link) (sym c.behind-nodes.view_is) ∙ c.in-Some.is) in
    let t = c.loop.invariant.1 in (
      c.requires.low c.loop.at c.in-Some.step link,
      (
        t.0 ++ c.in-Some.step ∷ [],
        IsTrail-push (link_at (map (valued_node value) items)) t.0 c.args.from c.loop.at c.in-Some.step t.1 link,
        length-append t.0 (c.in-Some.step ∷ []) ∙ ap (λ (n : ℕ). n + 1) t.2,
      ),
    )

pub returns-in_default-clause-ends : goal.returns-in_default-clause-ends
returns-in_default-clause-ends g c =
    let value = g.W.Weight.wide_value in
    let items = c.args.nodes.now.items in
    let was = node_read value items c.loop.at c.index.result.now c.loop.invariant.0 c.index.ensures in
    let link : link_at (map (valued_node value) items) c.loop.at ≡ None = ap (λ z. z.link) was ∙ (ap (λ (n : Node g.row.W-Wide.Denot). n.link) (sym c.behind-nodes.view_is) ∙ c.in_default.is) in
    let t = c.loop.invariant.1 in
    (t.0, c.loop.at, t.1, (let many = t.2 in let low = c.loop-test.true in omega arith), link)
