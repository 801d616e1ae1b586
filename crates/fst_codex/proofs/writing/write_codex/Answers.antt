use Rattle.fst_codex.specs.Table.{valued_table}
use Rattle.fst_codex.proofs.Again.{is_again, is_named}
use Rattle.fst_codex.proofs.writing.write_codex.Goals as goal

pub returns-clause-again : goal.returns-clause-again
returns-clause-again g c = is_again g.W.Weight.KIND (valued_table g.W.Weight.value c.args.codex.now) (λ bytes. bytes.items) c.write_whole.result c.write_whole.ensures.fits c.write_whole.ensures.spelled

pub returns-clause-named : goal.returns-clause-named
returns-clause-named g c = is_named g.W.Weight.KIND (valued_table g.W.Weight.value c.args.codex.now) (λ bytes. bytes.items) c.write_whole.result c.write_whole.ensures.spelled
