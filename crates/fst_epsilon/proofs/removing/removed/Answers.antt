use Rattle.fst_epsilon.proofs.Whole.{on_ok}
use Rattle.fst_epsilon.proofs.removing.removed.Goals as goal

pub finished-requires : goal.finished-requires
finished-requires g c = on_ok c.in_ok-put_all.field-0 c.in-Ok.field-0 _ c.in-Ok.is c.in_ok-put_all.ensures.removing
