-- The results of the operations are values of the arc type.
use Rattle.std.proofs.Common.{◌≡◌, ◌⊎◌, inl, inr, sym, refl, subst, arith}
use Rattle.std.specs.Prelude.{ℤ, pos, ◌+ℤ◌, ◌-ℤ◌}
use Rattle.std.proofs.lemmas.Int.{ints}
use Rattle.fst_semiring.specs.declared.arc_type.ArcType.{ArcType}
use Rattle.fst_semiring.specs.declared.arc_type.ArcType.TheVariants.{Boolean, Tropical, MinMax, Lexicographic}
use Rattle.fst_semiring.specs.Cost.{Cost, best, finite, infinite, plus, worse}
use Rattle.fst_semiring.specs.Semiring.{one_of, times, IsCost}
use Rattle.fst_semiring.specs.Division.{quotient, push_quotient}
use Rattle.fst_semiring.proofs.Order.{plus_picks, worse_picks}
use Rattle.fst_semiring.proofs.Dividing.{push_either}

pub IsCost-one : (kind : ArcType) → IsCost kind (one_of kind)
IsCost-one Boolean = (refl, refl)
IsCost-one Tropical = refl
IsCost-one MinMax = tt
IsCost-one Lexicographic = tt

-- one of two values
either : (kind : ArcType) (a b c : Cost) → (c ≡ a) ⊎ (c ≡ b) → IsCost kind a → IsCost kind b → IsCost kind c
either kind a b c (inl e) one two = subst (IsCost kind) (sym e) one
either kind a b c (inr e) one two = subst (IsCost kind) (sym e) two

pub IsCost-plus : (kind : ArcType) (a b : Cost) → IsCost kind a → IsCost kind b → IsCost kind (plus a b)
IsCost-plus kind a b one two = either kind a b (plus a b) (plus_picks a b) one two

-- the sum of two numbers that are 0, and their difference
zero_sum : (a b : ℤ) → a ≡ pos 0 → b ≡ pos 0 → a +ℤ b ≡ pos 0
zero_sum a b one two = omega (arith, ints, one, two)

zero_difference : (a b : ℤ) → a ≡ pos 0 → b ≡ pos 0 → a -ℤ b ≡ pos 0
zero_difference a b one two = omega (arith, ints, one, two)

pub IsCost-times : (kind : ArcType) (a b : Cost) → IsCost kind a → IsCost kind b → IsCost kind (times kind a b)
IsCost-times Boolean infinite b one two = tt
IsCost-times Boolean best b one two = absurd one
IsCost-times Boolean (finite a b) infinite one two = tt
IsCost-times Boolean (finite a b) best one two = absurd two
IsCost-times Boolean (finite a b) (finite c d) one two = (zero_sum a c one.0 two.0, zero_sum b d one.1 two.1)
IsCost-times Tropical infinite b one two = tt
IsCost-times Tropical best b one two = absurd one
IsCost-times Tropical (finite a b) infinite one two = tt
IsCost-times Tropical (finite a b) best one two = absurd two
IsCost-times Tropical (finite a b) (finite c d) one two = zero_sum b d one two
IsCost-times MinMax a b one two = either MinMax a b (worse a b) (worse_picks a b) one two
IsCost-times Lexicographic infinite b one two = tt
IsCost-times Lexicographic best b one two = absurd one
IsCost-times Lexicographic (finite a b) infinite one two = tt
IsCost-times Lexicographic (finite a b) best one two = absurd two
IsCost-times Lexicographic (finite a b) (finite c d) one two = tt

pub IsCost-quotient : (kind : ArcType) (a b : Cost) → IsCost kind a → IsCost kind b → IsCost kind (quotient kind a b)
IsCost-quotient Boolean infinite b one two = tt
IsCost-quotient Boolean best b one two = absurd one
IsCost-quotient Boolean (finite a b) infinite one two = one
IsCost-quotient Boolean (finite a b) best one two = one
IsCost-quotient Boolean (finite a b) (finite c d) one two = (zero_difference a c one.0 two.0, zero_difference b d one.1 two.1)
IsCost-quotient Tropical infinite b one two = tt
IsCost-quotient Tropical best b one two = absurd one
IsCost-quotient Tropical (finite a b) infinite one two = one
IsCost-quotient Tropical (finite a b) best one two = one
IsCost-quotient Tropical (finite a b) (finite c d) one two = zero_difference b d one two
IsCost-quotient MinMax a b one two = one
IsCost-quotient Lexicographic infinite b one two = tt
IsCost-quotient Lexicographic best b one two = absurd one
IsCost-quotient Lexicographic (finite a b) infinite one two = tt
IsCost-quotient Lexicographic (finite a b) best one two = tt
IsCost-quotient Lexicographic (finite a b) (finite c d) one two = tt

pub IsCost-push : (kind : ArcType) (a b : Cost) → IsCost kind a → IsCost kind b → IsCost kind (push_quotient kind a b)
IsCost-push kind a b one two = push_either kind a b (IsCost kind) (λ _. IsCost-one kind) (IsCost-quotient kind a b one two)
