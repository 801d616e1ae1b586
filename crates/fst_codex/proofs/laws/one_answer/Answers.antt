use Rattle.fst_codex.proofs.OneAnswer.{one_decoding, one_encoded}
use Rattle.fst_codex.proofs.laws.one_answer.Goals as goal

pub returns-clause-encoded : goal.returns-clause-encoded
returns-clause-encoded g c = one_encoded

pub returns-clause-decoded : goal.returns-clause-decoded
returns-clause-decoded g c = λ kind value m t. one_decoding kind value m t
