use Rattle.std.proofs.Common.{◌≡◌, Some, refl, sym, ap, ◌∙◌, subst}
use Rattle.fst_machine.specs.BreadthFirst.{Has}
use Rattle.fst_setops.specs.Followed.{ArePut, ends}
use Rattle.fst_semiring.specs.Semiring.{times}
use Rattle.fst_setops.specs.Kept as kept
use Rattle.fst_setops.specs.Ways.{arc_weight}
use Rattle.fst_setops.proofs.Putting.{not_listed, pair_put}
use Rattle.fst_setops.proofs.seeking.follow.Goals as goal

pub returns-in_default-clause-followed : goal.returns-in_default-clause-followed
returns-in_default-clause-followed g c =
    let full = c.in_ok-pair.ensures.full c.in_default.is in
    let key : ends c.args.way.first c.args.way.second ≡ record { first = c.end_of.result; second = c.end_of-2.result } = λ i. record { first = sym c.end_of.ensures i; second = sym c.end_of-2.ensures i } in
    (full.0, λ h. not_listed c.args.search.now.pairs _ full.1 (subst (Has c.args.search.now.pairs) key h))

pub returns-clause-followed : goal.returns-clause-followed
returns-clause-followed g c =
    let put = rw c.in-Some.is at c.in_ok-pair.ensures in
    let ways = ends c.args.way.first c.args.way.second in
    let key : record { first = c.end_of.result; second = c.end_of-2.result } ≡ ways = λ i. record { first = c.end_of.ensures i; second = c.end_of-2.ensures i } in
    let first = ap (λ (n : kept.Node g.row.W-Wide.Denot). n.first) c.node.view_is in
    let second = ap (λ (n : kept.Node g.row.W-Wide.Denot). n.second) c.node.view_is in
    let word : kept.Node g.row.W-Wide.Denot = record { pair = c.in-Some.pair; parent = c.args.parent; label = c.args.way.label; first = c.product.result; second = c.product-2.result } in
    record {
      word = word;
      there = put.there ∙ ap Some key;
      put = subst (λ k. ArePut c.args.limit k c.args.search.now.pairs c.put_below.new.self) key (pair_put c.args.limit c.args.search.now.pairs c.put_below.new.self (record { first = c.end_of.result; second = c.end_of-2.result }) c.in-Some.pair c.in-Some.is_new put.keys put.added put.last);
      behind = refl;
      label_is = refl;
      first = c.product.ensures.product ∙ ap (λ v. times g.W.Weight.KIND (g.W.Weight.wide_value v) (arc_weight g.W.Weight.value c.args.way.first)) first;
      second = c.product-2.ensures.product ∙ ap (λ v. times g.W.Weight.KIND (g.W.Weight.wide_value v) (arc_weight g.W.Weight.value c.args.way.second)) second;
      found = c.in_ok-put_word.ensures.word;
    }
