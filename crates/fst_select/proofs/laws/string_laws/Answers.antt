use Rattle.fst_select.proofs.PlainStrings.{plain_strings}
use Rattle.fst_select.proofs.SubsetKeys.{prefix_laws}
use Rattle.fst_select.proofs.laws.string_laws.Goals as goal

pub returns-clause-plain : goal.returns-clause-plain
returns-clause-plain c kind g plain x w = plain_strings kind g plain x w

pub returns-clause-prefixes : goal.returns-clause-prefixes
returns-clause-prefixes c kind g weighted d far x by members is = prefix_laws kind g weighted d far x by members is
