use Rattle.fst_compose.proofs.Searching.{searchable_first, searchable_second}
use Rattle.fst_compose.proofs.laws.searching_laws.Goals as goal

pub returns-clause-first : goal.returns-clause-first
returns-clause-first g c a b n sorted = searchable_first a b n sorted

pub returns-clause-second : goal.returns-clause-second
returns-clause-second g c a b n sorted = searchable_second a b n sorted
