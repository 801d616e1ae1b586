use Rattle.fst_replace.specs.Rules.{valued_rules}
use Rattle.fst_machine.specs.Machine.{valued}
use Rattle.fst_replace.proofs.Reading.{replaced_says}
use Rattle.fst_replace.proofs.Answering.{cause_limited, cause_recurs, made_recurs}
use Rattle.fst_replace.proofs.replacing.replace.Goals as goal

pub returns-in-Ok-clause-recursive : goal.returns-in-Ok-clause-recursive
returns-in-Ok-clause-recursive g c = made_recurs (valued_rules g.W.Weight.value c.args.rules.now) c.in-Ok.machine (rw c.in-Ok-Ok.field-0-is at c.in-Ok-Ok.ensures.fine).0

pub returns-in-Ok-Err-clause-recursive : goal.returns-in-Ok-Err-clause-recursive
returns-in-Ok-Err-clause-recursive g c = cause_recurs (valued_rules g.W.Weight.value c.args.rules.now) c.in-Ok-Err.fault (rw c.in-Ok-Err.field-0-is at c.in-Ok-Err.ensures.cause)

pub returns-in-Ok-Err-clause-limits : goal.returns-in-Ok-Err-clause-limits
returns-in-Ok-Err-clause-limits g c = cause_limited (valued_rules g.W.Weight.value c.args.rules.now) c.in-Ok-Err.fault (rw c.in-Ok-Err.field-0-is at c.in-Ok-Err.ensures.cause)

pub returns-in-Ok-clause-relation : goal.returns-in-Ok-clause-relation
returns-in-Ok-clause-relation g c = replaced_says g.W.Weight.KIND g.W.Weight.value c.args.rules.now c.count-rules.ensures.rules (valued g.W.Weight.value c.in-Ok.machine) c.in-Ok.ensures
