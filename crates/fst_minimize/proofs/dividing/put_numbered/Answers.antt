use Rattle.std.proofs.Common.{subst, ℕ, arith}
use Rattle.fst_minimize.proofs.ByBlocks.{AreNumbered, numbered_takes}
use Rattle.fst_minimize.proofs.dividing.put_numbered.Goals as goal

pub returns-clause-alike : goal.returns-clause-alike
returns-clause-alike c = λ g. numbered_takes g c.args.numbers.now c.loop-state.out.items (subst (λ (n : ℕ). AreNumbered c.args.numbers.now n c.loop-state.out.items) (omega arith) c.loop-state.invariant)
