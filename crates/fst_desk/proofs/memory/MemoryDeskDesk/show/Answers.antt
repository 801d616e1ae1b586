use Rattle.std.proofs.Common.{rules}
use Rattle.fst_desk.proofs.Promises.{DeskShows-kept}
use Rattle.fst_desk.proofs.memory.MemoryDeskDesk.show.Goals as goal

pub returns-then-is_some-clause-exact : goal.returns-then-is_some-clause-exact
returns-then-is_some-clause-exact c = search rules

pub returns-then-is_some-clause-promised : goal.returns-then-is_some-clause-promised
returns-then-is_some-clause-promised c = DeskShows-kept _ _ _ _ (returns-then-is_some-clause-exact c)
