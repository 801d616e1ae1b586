use Rattle.fst_algebra_tests.proofs.Narrowed.{narrowed_arcs, narrowed_finals}
use Rattle.fst_algebra_tests.proofs.shortest_paths.are_wide_firsts.Goals as goal

pub nbest_wide-requires-clause-arcs : goal.nbest_wide-requires-clause-arcs
nbest_wide-requires-clause-arcs g c = narrowed_arcs g.W.Weight.wide_value c.args.wide.now.states c.in-Ok.ensures.fits

pub nbest_wide-requires-clause-finals : goal.nbest_wide-requires-clause-finals
nbest_wide-requires-clause-finals g c = narrowed_finals g.W.Weight.wide_value c.args.wide.now.states c.in-Ok.ensures.fits
