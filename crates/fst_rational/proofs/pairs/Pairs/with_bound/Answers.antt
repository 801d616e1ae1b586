use Rattle.std.proofs.Common.{List, ℕ, sym, subst}
use Rattle.fst_table.specs.Found.{found_in}
use Rattle.fst_rational.specs.Pairs.{AreKept}
use Rattle.fst_rational.proofs.Reading.{AreKept-nil}
use Rattle.fst_rational.proofs.pairs.Pairs.with_bound.Goals as goal

pub invariant_of-result : goal.invariant_of-result
invariant_of-result c = subst (λ (es : List (ℕ × ℕ)). AreKept es (found_in c.new-2.result)) (sym c.new.ensures.items) (AreKept-nil (found_in c.new-2.result) c.new-2.ensures.none)
