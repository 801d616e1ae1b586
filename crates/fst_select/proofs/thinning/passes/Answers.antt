use Rattle.std.proofs.Common.{◌+◌, ap, ◌∙◌, sym, subst, arith}
use Rattle.fst_semiring.specs.Semiring.{times, Within}
use Rattle.fst_semiring.proofs.Ranges.{Within-more, Within-times}
use Rattle.fst_select.specs.Thinned.{is_within, most_sum}
use Rattle.fst_select.proofs.thinning.passes.Goals as goal

pub wide_times-requires-clause-b_wide : goal.wide_times-requires-clause-b_wide
wide_times-requires-clause-b_wide g c =
    let w = g.W.Weight in
    let product : Within (1000000000000000000 + most_sum) (times w.KIND (w.value c.args.weight) (w.wide_value c.args.ahead)) = Within-times w.KIND 1000000000000000000 most_sum (w.value c.args.weight) (w.wide_value c.args.ahead) c.widen.ensures.range c.requires.ahead in
    let same = c.wide_times-rest.ensures.product ∙ ap (λ v. times w.KIND v (w.wide_value c.args.ahead)) c.widen.ensures.same in
    subst (Within 1329227995784915872903807060280344575) (sym same) (Within-more (1000000000000000000 + most_sum) 1329227995784915872903807060280344575 _ (omega arith) product)

pub returns : goal.returns
returns g c =
    let w = g.W.Weight in
    let rest = c.wide_times-rest.ensures.product ∙ ap (λ v. times w.KIND v (w.wide_value c.args.ahead)) c.widen.ensures.same in
    c.is_within.ensures ∙ ap (is_within (w.wide_value c.args.bound)) (c.wide_times.ensures.product ∙ ap (times w.KIND (w.wide_value c.args.own)) rest)
