use Rattle.std.proofs.Common.{codes}
use Rattle.fst_verbs.specs.Causes.{misread}
use Rattle.fst_verbs.specs.Given.{pairs_in}
use Rattle.fst_verbs.proofs.Refusing.{fails_read}
use Rattle.fst_rational.specs.Faults.{line_of, reason_of}
use Rattle.fst_rational.specs.Pairs.{pairs_of_text}
use Rattle.fst_rational.specs.declared.pairs.PairsFault.TheVariants.{Memory}
use Rattle.fst_command.proofs.reading.read_pairs.Goals as goal

pub returns-in-Err : goal.returns-in-Err
unfolding pairs_in
returns-in-Err c = fails_read (λ fault. misread c.args.name.now (codes "line") (line_of fault) (reason_of fault)) Memory c.in-Err.fault (pairs_of_text c.args.content.now) c.not_pairs.result c.in-Err.ensures.read c.not_pairs.ensures.made c.not_pairs.ensures.memory
