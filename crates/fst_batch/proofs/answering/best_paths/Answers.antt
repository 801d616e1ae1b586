use Rattle.std.proofs.Common.{arith}
use Rattle.fst_search.specs.Searching.{most_number}
use Rattle.fst_batch.proofs.Filled.{small_arcs_all, small_finals_all}
use Rattle.fst_batch.proofs.answering.best_paths.Goals as goal

pub nbest_wide-requires-clause-arcs : goal.nbest_wide-requires-clause-arcs
nbest_wide-requires-clause-arcs g c = small_arcs_all g.W.Weight.wide_value c.args.fst.now c.requires.small most_number (omega arith)

pub nbest_wide-requires-clause-finals : goal.nbest_wide-requires-clause-finals
nbest_wide-requires-clause-finals g c = small_finals_all g.W.Weight.wide_value c.args.fst.now c.requires.small most_number (omega arith)
