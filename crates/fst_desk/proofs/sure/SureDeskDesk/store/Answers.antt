use Rattle.std.proofs.Common.{rules}
use Rattle.fst_desk.proofs.Promises.{Stores-sure}
use Rattle.fst_desk.proofs.sure.SureDeskDesk.store.Goals as goal

pub returns-clause-exact : goal.returns-clause-exact
returns-clause-exact c = search rules

pub returns-clause-promised : goal.returns-clause-promised
returns-clause-promised c = Stores-sure _ _ _ _ _ (returns-clause-exact c)
