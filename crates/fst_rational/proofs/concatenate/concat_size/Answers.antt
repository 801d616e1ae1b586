use Rattle.std.proofs.Common.{◌+◌, refl, ap, ◌∙◌}
use Rattle.std.specs.Option.{option_map}
use Rattle.fst_rational.proofs.Concatenating.{concat_counted}
use Rattle.fst_rational.proofs.concatenate.concat_size.Goals as goal

pub returns : goal.returns
returns g c = concat_counted g.W.Weight.value c.args.a.now c.args.b.now _ _ c.states-front.result c.states-back.result c.arc_count.result c.arc_count-2.result c.count_onward.result c.shifted-target.result c.states-front.ensures.value c.states-back.ensures.value c.arc_count.ensures c.arc_count-2.ensures (c.shifted-target.ensures ∙ ap (option_map (λ s. c.states-front.result + s)) c.start.ensures.value) c.count_onward.ensures.count refl refl
