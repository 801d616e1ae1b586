use Rattle.std.proofs.Common.{sym, ap, ◌∙◌}
use Rattle.fst_semiring.specs.Semiring.{times}
use Rattle.fst_semiring.proofs.Laws.{times_zero}
use Rattle.fst_determinize.proofs.Forms.{zero_told}
use Rattle.fst_determinize.proofs.way.further_final.Goals as goal

pub returns-then-is_zero : goal.returns-then-is_zero
returns-then-is_zero g c =
    let none = zero_told (g.W.Weight.value c.args.last) (sym c.if-is_zero.true ∙ c.is_zero.ensures) in
    c.widen.ensures.same ∙ (none ∙ (sym (times_zero g.W.Weight.KIND (g.R.Kept.value c.args.residual)) ∙ ap (times g.W.Weight.KIND (g.R.Kept.value c.args.residual)) (sym none)))
