use Rattle.std.proofs.Common.{ℕ, List, map, sym, ap, subst}
use Rattle.fst_machine.specs.Machine.{valued}
use Rattle.fst_machine.specs.Graph.{graph_of}
use Rattle.fst_machine.specs.Steps.{written}
use Rattle.fst_nbest.specs.FirstPaths.{AreFirstPaths}
use Rattle.fst_nbest.proofs.first_paths.paths_ahead.Goals as goal

pub returns-in_default-clause-first : goal.returns-in_default-clause-first
returns-in_default-clause-first g c =
    subst (λ (walks : List (List (ℕ × ℕ))). AreFirstPaths g.W.Weight.KIND (graph_of (valued g.M.AsMachine.value (g.M.AsMachine.machine c.args.fst.now))) c.args.n walks) (sym (ap (map written) c.new.ensures)) (c.in_default.ensures.none c.args.n)
