use Rattle.std.proofs.Common.{take}
use Rattle.fst_nbest.specs.Ready.{count_in, dist_in}
use Rattle.fst_select.specs.Outlook.{IsLeastTight}
use Rattle.fst_select.proofs.outlook.Outlook.left.Given as goal

abbrev pub invariant-loop-place : goal.invariant-loop-place
invariant-loop-place g l =
    let wide = g.W.Weight.wide_value in
    IsLeastTight g.W.Weight.KIND (dist_in wide l.self.dist) (wide l.by) (wide l.total) (count_in l.self.count) (take l.place l.subset) l.least
