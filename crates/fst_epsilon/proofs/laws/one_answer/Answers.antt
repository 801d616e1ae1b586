use Rattle.fst_epsilon.proofs.OneAnswer.{fine_passes, one_removed, one_text}
use Rattle.fst_epsilon.proofs.laws.one_answer.Goals as goal

pub returns-clause-removed : goal.returns-clause-removed
returns-clause-removed c kind m h k one two = one_removed kind m h k one two

pub returns-clause-told : goal.returns-clause-told
returns-clause-told c kind m f h one two = one_text kind m f h one two

pub returns-clause-apart : goal.returns-clause-apart
returns-clause-apart c kind m h f fine stops = fine_passes kind m h fine f stops
