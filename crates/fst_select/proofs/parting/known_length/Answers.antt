use Rattle.std.proofs.Common.{true≢false, refl, sym, ◌∙◌}
use Rattle.fst_select.proofs.parting.known_length.Goals as goal

pub returns-then-not-is_due : goal.returns-then-not-is_due
returns-then-not-is_due g c is = absurd (true≢false (sym (c.is_due.ensures.1 is) ∙ c.if-not-is_due.true))

pub left-requires-clause-due : goal.left-requires-clause-due
left-requires-clause-due g c = c.is_due.ensures.0 c.if-not-is_due.false

pub returns : goal.returns
returns g c is = (c.left.result, c.left.ensures c.requires.subset.0 c.requires.subset.1, refl)
