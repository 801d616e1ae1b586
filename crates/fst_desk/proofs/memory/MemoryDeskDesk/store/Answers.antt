use Rattle.std.proofs.Common.{rules}
use Rattle.fst_desk.proofs.Promises.{Stores-kept}
use Rattle.fst_desk.proofs.memory.MemoryDeskDesk.store.Goals as goal

pub returns-then-is_some-clause-exact : goal.returns-then-is_some-clause-exact
returns-then-is_some-clause-exact c = search rules

pub returns-then-is_some-clause-promised : goal.returns-then-is_some-clause-promised
returns-then-is_some-clause-promised c = Stores-kept _ _ _ _ _ (returns-then-is_some-clause-exact c)

pub returns-clause-exact : goal.returns-clause-exact
returns-clause-exact c = search rules

pub returns-clause-promised : goal.returns-clause-promised
returns-clause-promised c = Stores-kept _ _ _ _ _ (returns-clause-exact c)
