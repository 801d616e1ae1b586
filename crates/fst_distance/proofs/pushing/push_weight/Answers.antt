use Rattle.std.proofs.Common.{ap, ◌∙◌}
use Rattle.fst_semiring.specs.Semiring.{times}
use Rattle.fst_semiring.specs.Division.{push_quotient}
use Rattle.fst_distance.proofs.Bounds.{product_wide, pushed_within}
use Rattle.fst_distance.proofs.pushing.push_weight.Goals as goal

pub push_divide-requires-clause-weight_wide : goal.push_divide-requires-clause-weight_wide
push_divide-requires-clause-weight_wide g c =
    let w = g.W.Weight in
    product_wide w.KIND (w.value c.args.weight) (w.wide_value c.args.next) _ (c.wide_times-product.ensures.product ∙ ap (λ v. times w.KIND v (w.wide_value c.args.next)) c.widen.ensures.same) c.widen.ensures.range c.requires.next_within

pub returns-clause-range : goal.returns-clause-range
returns-clause-range g c =
    let w = g.W.Weight in
    pushed_within w.KIND (w.value c.args.weight) (w.wide_value c.args.next) (w.wide_value c.args.own) _ (c.push_divide.ensures.quotient
    ∙ ap (λ v. push_quotient w.KIND v (w.wide_value c.args.own)) (c.wide_times-product.ensures.product ∙ ap (λ v. times w.KIND v (w.wide_value c.args.next)) c.widen.ensures.same)) c.widen.ensures.range c.requires.next_within c.requires.own_within
