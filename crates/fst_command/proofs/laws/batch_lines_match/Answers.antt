use Rattle.fst_command.proofs.LineMatches.{is_matched, listed_matches}
use Rattle.fst_command.proofs.laws.batch_lines_match.Goals as goal

pub returns-clause-matched : goal.returns-clause-matched
returns-clause-matched g c = λ kind a b line none. is_matched kind a b line none

pub returns-clause-listed : goal.returns-clause-listed
returns-clause-listed g c = λ kind a b line n limit value listed is. listed_matches kind a b line n limit value listed is
