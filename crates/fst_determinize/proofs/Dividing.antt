-- Division where a common factor falls away, and what holds where factors do not cancel.
use Rattle.std.proofs.Common.{◌≡◌, ◌≢◌, false, refl, subst, arith}
use Rattle.std.proofs.lemmas.Int.{ints}
use Rattle.fst_semiring.specs.Cost.{Cost, best, finite, infinite, plus}
use Rattle.fst_semiring.specs.Division.{difference_of, quotient}
use Rattle.fst_semiring.specs.Semiring.{cancels, one_of, sum_of, times, IsCost}
use Rattle.fst_semiring.specs.declared.arc_type.ArcType.{ArcType}
use Rattle.fst_semiring.specs.declared.arc_type.ArcType.TheVariants.{Boolean, Tropical, MinMax, Lexicographic}
use Rattle.fst_semiring.proofs.Cancelling.{never_best, one_best}
use Rattle.fst_semiring.proofs.Dividing.{quotient_undone}
use Rattle.fst_semiring.proofs.Laws.{pair_eq, times_keeps, times_one}
use Rattle.fst_semiring.proofs.Order.{plus_unless}

difference_shared : (c v w : Cost) → c ≢ best → c ≢ infinite → v ≢ best → v ≢ infinite → difference_of (sum_of c w) (sum_of c v) ≡ difference_of w v
difference_shared infinite v w nc ic nv iv = absurd (ic refl)
difference_shared best v w nc ic nv iv = absurd (nc refl)
difference_shared (finite a b) infinite w nc ic nv iv = absurd (iv refl)
difference_shared (finite a b) best w nc ic nv iv = absurd (nv refl)
difference_shared (finite a b) (finite c d) infinite nc ic nv iv = refl
difference_shared (finite a b) (finite c d) best nc ic nv iv = refl
difference_shared (finite a b) (finite c d) (finite e f) nc ic nv iv = pair_eq (omega (arith, ints)) (omega (arith, ints))

-- a common factor falls away; where factors do not cancel it is no worse than the value
pub quotient_shared : (kind : ArcType) (c v w : Cost) → IsCost kind c → c ≢ infinite → IsCost kind v → v ≢ infinite → (cancels kind ≡ false → plus c w ≡ c)
    → quotient kind (times kind c w) (times kind c v) ≡ quotient kind w v
quotient_shared Boolean c v w kc nc kv nv low = difference_shared c v w (never_best Boolean c refl kc) nc (never_best Boolean v refl kv) nv
quotient_shared Tropical c v w kc nc kv nv low = difference_shared c v w (never_best Tropical c refl kc) nc (never_best Tropical v refl kv) nv
quotient_shared MinMax c v w kc nc kv nv low = quotient_undone MinMax w c kc nc (low refl)
quotient_shared Lexicographic c v w kc nc kv nv low = difference_shared c v w (never_best Lexicographic c refl kc) nc (never_best Lexicographic v refl kv) nv

-- where factors do not cancel, division leaves the value, and a product is no better than its first factor
pub quotient_kept : (kind : ArcType) (a by : Cost) → cancels kind ≡ false → quotient kind a by ≡ a
quotient_kept Boolean a by e = absurd (cc)
quotient_kept Tropical a by e = absurd (cc)
quotient_kept MinMax a by e = refl
quotient_kept Lexicographic a by e = absurd (cc)

pub times_worsens : (kind : ArcType) (r a : Cost) → cancels kind ≡ false → plus r (times kind r a) ≡ r
times_worsens kind r a e =
    let low : plus (one_of kind) a ≡ one_of kind = plus_unless (one_of kind) a (one_best kind a e) in
    subst (λ z. plus z (times kind r a) ≡ z) (times_one kind r) (times_keeps kind r (one_of kind) a low)

-- One divided by One
pub one_quotient : (kind : ArcType) → quotient kind (one_of kind) (one_of kind) ≡ one_of kind
one_quotient Boolean = refl
one_quotient Tropical = refl
one_quotient MinMax = refl
one_quotient Lexicographic = refl
