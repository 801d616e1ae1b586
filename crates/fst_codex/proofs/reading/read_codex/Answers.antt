use Rattle.std.proofs.Common.{subst, arith}
use Rattle.fst_codex.specs.Reading.{Gives}
use Rattle.fst_codex.specs.Table.{valued_table}
use Rattle.fst_codex.proofs.Found.{is_found, spelled_again}
use Rattle.fst_codex.proofs.reading.read_codex.Goals as goal

pub returns-clause-found : goal.returns-clause-found
returns-clause-found g c = is_found (λ t. valued_table g.W.Weight.value t) g.W.Weight.KIND c.args.bytes.now c.read_whole.result (λ i. omega (arith, c.type_inv.bytes i)) c.read_whole.ensures

pub returns-clause-only : goal.returns-clause-only
returns-clause-only g c = λ t has spelled. subst (λ r. Gives (λ x. valued_table g.W.Weight.value x) c.read_whole.result r) (spelled_again g.W.Weight.KIND c.args.bytes.now t has spelled) c.read_whole.ensures
