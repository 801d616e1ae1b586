use Rattle.std.proofs.Common.{◌≡◌, true, ap, sym, ◌∙◌}
use Rattle.fst_semiring.specs.Cost.{best}
use Rattle.fst_bytes.specs.Reading.{has_best}
use Rattle.fst_bytes.proofs.Weights.{found_by_key, best_has_field}
use Rattle.fst_bytes.proofs.weight_field.best_weight.Goals as goal

pub returns : goal.returns
returns g c =
    let has : has_best g.W.Weight.KIND ≡ true = ap has_best (sym c.KIND.ensures) ∙ sym c.has_tag_of_best.ensures ∙ c.if-not-has_tag_of_best.false in
    rw has (found_by_key g.W.Weight.value g.W.Weight.KIND best c.from_key.result c.from_key.ensures.found c.from_key.ensures.none (best_has_field g.W.Weight.KIND has))
