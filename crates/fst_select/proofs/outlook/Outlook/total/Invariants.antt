use Rattle.std.proofs.Common.{◌≡◌, take}
use Rattle.fst_nbest.specs.Ready.{dist_in}
use Rattle.fst_select.specs.Keys.{best_total}
use Rattle.fst_select.proofs.outlook.Outlook.total.Given as goal

abbrev pub invariant-loop-place : goal.invariant-loop-place
invariant-loop-place g l = g.W.Weight.wide_value l.best ≡ best_total g.W.Weight.KIND (dist_in g.W.Weight.wide_value l.self.dist) (g.W.Weight.wide_value l.by) (take l.place l.subset)
