use Rattle.std.proofs.Common.{◌≡◌, inl, inr, false, map, sym, ap, ◌∙◌, subst, refl}
use Rattle.fst_search.specs.Hops.{Better, NoWorse}
use Rattle.fst_search.specs.Searching.{Node, distance_at, valued_node}
use Rattle.fst_search.proofs.Nodes.{node_read}
use Rattle.fst_search.proofs.Order.{better_or_not_at}
use Rattle.fst_search.proofs.table.try_value.Goals as goal

pub improve-requires-clause-better : goal.improve-requires-clause-better
improve-requires-clause-better g c =
    let value = g.W.Weight.wide_value in
    let nodes = map (valued_node value) c.args.table.now.nodes.items in
    let was = node_read value c.args.table.now.nodes.items c.args.state c.index.result.now c.requires.state c.index.ensures in
    let distance : distance_at nodes c.args.state ≡ value c.behind-table.inside.distance = ap (λ z. z.distance) was ∙ ap (λ (n : Node g.row.W-Wide.Denot). value n.distance) (sym c.behind-table.view_is) in
    subst (λ z. Better (value c.args.value) z) (sym distance) (c.if-not-is_better.ensures.better.0 refl)

pub returns-clause-tried : goal.returns-clause-tried
returns-clause-tried g c = inr c.in_ok-improve.ensures.betters

pub returns-then-not-is_better-clause-tried : goal.returns-then-not-is_better-clause-tried
returns-then-not-is_better-clause-tried g c =
    let value = g.W.Weight.wide_value in
    let nodes = map (valued_node value) c.args.table.now.nodes.items in
    let was = node_read value c.args.table.now.nodes.items c.args.state c.index.result.now c.requires.state c.index.ensures in
    let distance : distance_at nodes c.args.state ≡ value c.behind-table.inside.distance = ap (λ z. z.distance) was ∙ ap (λ (n : Node g.row.W-Wide.Denot). value n.distance) (sym c.behind-table.view_is) in
    let no_worse : NoWorse (value c.behind-table.inside.distance) (value c.args.value) = better_or_not_at (value c.args.value) (value c.behind-table.inside.distance) false c.if-not-is_better.ensures.better refl in
    inl (record {
      no_worse = subst (λ z. NoWorse z (value c.args.value)) (sym distance) no_worse;
      nodes_same = refl;
      members_same = refl;
      later_same = refl;
      met_same = refl;
    })
