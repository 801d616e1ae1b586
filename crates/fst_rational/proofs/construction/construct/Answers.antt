use Rattle.std.proofs.Common.{◌∙◌}
use Rattle.fst_rational.proofs.Sizes.{fits, limited_memory, limited_ok, limited_refused}
use Rattle.fst_rational.proofs.construction.construct.Goals as goal

pub returns-in-Some-clause-limits : goal.returns-in-Some-clause-limits
returns-in-Some-clause-limits g c = limited_refused c.size-needed.ensures (c.check_size.ensures ∙ c.in-Some.is)

pub build-requires-clause-small : goal.build-requires-clause-small
build-requires-clause-small g c = fits c.size-needed.ensures (c.check_size.ensures ∙ c.in_default.is)

pub returns-in-Ok-clause-limits : goal.returns-in-Ok-clause-limits
returns-in-Ok-clause-limits g c = limited_ok c.size-needed.ensures (c.check_size.ensures ∙ c.in_default.is)

pub returns-in-Err-clause-limits : goal.returns-in-Err-clause-limits
returns-in-Err-clause-limits g c = limited_memory c.size-needed.ensures (c.check_size.ensures ∙ c.in_default.is)
