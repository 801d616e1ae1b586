-- How far the numbers of sums, products and quotients go.
use Rattle.std.proofs.Common.{◌≡◌, ◌⊎◌, inl, inr, ℕ, ◌+◌, ◌≤◌, sym, subst, arith}
use Rattle.std.specs.Prelude.{ℤ, pos, ◌+ℤ◌, ◌-ℤ◌}
use Rattle.std.proofs.lemmas.Int.{ints}
use Rattle.fst_semiring.specs.declared.arc_type.ArcType.{ArcType}
use Rattle.fst_semiring.specs.declared.arc_type.ArcType.TheVariants.{Boolean, Tropical, MinMax, Lexicographic}
use Rattle.fst_semiring.specs.Cost.{Cost, best, finite, infinite, plus, worse}
use Rattle.fst_semiring.specs.Semiring.{one_of, sum_of, times, IsWithin, Within}
use Rattle.fst_semiring.specs.Division.{difference_of, quotient, push_quotient}
use Rattle.fst_semiring.proofs.Order.{plus_picks, worse_picks}
use Rattle.fst_semiring.proofs.Dividing.{push_either}

within-more : (m n : ℕ) (a : ℤ) → m ≤ n → IsWithin m a → IsWithin n a
within-more m n a low h = (omega (arith, ints, h.0, low), omega (arith, ints, h.1, low))

within-add : (m n : ℕ) (a b : ℤ) → IsWithin m a → IsWithin n b → IsWithin (m + n) (a +ℤ b)
within-add m n a b one two = (omega (arith, ints, one.0, two.0), omega (arith, ints, one.1, two.1))

within-sub : (m n : ℕ) (a b : ℤ) → IsWithin m a → IsWithin n b → IsWithin (m + n) (a -ℤ b)
within-sub m n a b one two = (omega (arith, ints, one.0, two.1), omega (arith, ints, one.1, two.0))

within-zero : (n : ℕ) → IsWithin n (pos 0)
within-zero n = (omega (arith, ints), omega (arith, ints))

-- a bound may be greater
pub Within-more : (m n : ℕ) (a : Cost) → m ≤ n → Within m a → Within n a
Within-more m n best low h = tt
Within-more m n (finite a b) low h = (within-more m n a low h.0, within-more m n b low h.1)
Within-more m n infinite low h = tt

-- each bound is within the sum of two
first_bound : (m n : ℕ) (a : Cost) → Within m a → Within (m + n) a
first_bound m n a h = Within-more m (m + n) a (omega arith) h

second_bound : (m n : ℕ) (a : Cost) → Within n a → Within (m + n) a
second_bound m n a h = Within-more n (m + n) a (omega arith) h

pub Within-one : (n : ℕ) (kind : ArcType) → Within n (one_of kind)
Within-one n Boolean = (within-zero n, within-zero n)
Within-one n Tropical = (within-zero n, within-zero n)
Within-one n MinMax = tt
Within-one n Lexicographic = (within-zero n, within-zero n)

-- one of two values
either : (n : ℕ) (a b c : Cost) → (c ≡ a) ⊎ (c ≡ b) → Within n a → Within n b → Within n c
either n a b c (inl e) one two = subst (Within n) (sym e) one
either n a b c (inr e) one two = subst (Within n) (sym e) two

pub Within-plus : (n : ℕ) (a b : Cost) → Within n a → Within n b → Within n (plus a b)
Within-plus n a b one two = either n a b (plus a b) (plus_picks a b) one two

sum-Within : (m n : ℕ) (a b : Cost) → Within m a → Within n b → Within (m + n) (sum_of a b)
sum-Within m n infinite b one two = tt
sum-Within m n best infinite one two = tt
sum-Within m n best best one two = tt
sum-Within m n best (finite c d) one two = tt
sum-Within m n (finite a b) infinite one two = tt
sum-Within m n (finite a b) best one two = tt
sum-Within m n (finite a b) (finite c d) one two = (within-add m n a c one.0 two.0, within-add m n b d one.1 two.1)

difference-Within : (m n : ℕ) (a b : Cost) → Within m a → Within n b → Within (m + n) (difference_of a b)
difference-Within m n infinite b one two = tt
difference-Within m n best b one two = tt
difference-Within m n (finite a b) infinite one two = first_bound m n (finite a b) one
difference-Within m n (finite a b) best one two = first_bound m n (finite a b) one
difference-Within m n (finite a b) (finite c d) one two = (within-sub m n a c one.0 two.0, within-sub m n b d one.1 two.1)

-- a product is within the sum of the bounds
pub Within-times : (kind : ArcType) (m n : ℕ) (a b : Cost) → Within m a → Within n b → Within (m + n) (times kind a b)
Within-times Boolean m n a b one two = sum-Within m n a b one two
Within-times Tropical m n a b one two = sum-Within m n a b one two
Within-times MinMax m n a b one two = either (m + n) a b (worse a b) (worse_picks a b) (first_bound m n a one) (second_bound m n b two)
Within-times Lexicographic m n a b one two = sum-Within m n a b one two

-- and so is a quotient
pub Within-quotient : (kind : ArcType) (m n : ℕ) (a b : Cost) → Within m a → Within n b → Within (m + n) (quotient kind a b)
Within-quotient Boolean m n a b one two = difference-Within m n a b one two
Within-quotient Tropical m n a b one two = difference-Within m n a b one two
Within-quotient MinMax m n a b one two = first_bound m n a one
Within-quotient Lexicographic m n a b one two = difference-Within m n a b one two

pub Within-push : (kind : ArcType) (m n : ℕ) (a b : Cost) → Within m a → Within n b → Within (m + n) (push_quotient kind a b)
Within-push kind m n a b one two = push_either kind a b (Within (m + n)) (λ _. Within-one (m + n) kind) (Within-quotient kind m n a b one two)
