-- The laws of the values of every arc type. (Mohri 2009, section 2: a commutative semiring with the path
-- property, whose natural order is total.)
use Rattle.std.specs.Prelude.{◌≡◌, ◌≢◌, ◌⊎◌, ℕ, ◌+◌, ◌≤◌, true, false}
use Rattle.std.specs.declared.cmp.Ordering.TheVariants.{Less, Equal}
use Rattle.fst_semiring.specs.Cost.{Cost, infinite, cost_cmp, plus}
use Rattle.fst_semiring.specs.declared.arc_type.ArcType.{ArcType}
use Rattle.fst_semiring.specs.Semiring.{cancels, one_of, times, IsCost, Within}
use Rattle.fst_semiring.specs.Division.{quotient, push_quotient}

-- Plus is the better of two values by a total order.
pub record PlusLaws (a b c : Cost) : Type 0 where
  pub equal : cost_cmp a b ≡ Equal → a ≡ b
  pub commutative : plus a b ≡ plus b a
  pub associative : plus (plus a b) c ≡ plus a (plus b c)
  pub picks : (plus a b ≡ a) ⊎ (plus a b ≡ b)
  pub neutral : plus a infinite ≡ a
  pub least : plus a b ≡ a → cost_cmp b a ≡ Less → ⊥
  pub unless : (cost_cmp b a ≡ Less → ⊥) → plus a b ≡ a

-- Times, with One neutral and Zero, which annihilates.
pub record TimesLaws (kind : ArcType) (a b c d : Cost) : Type 0 where
  pub commutative : times kind a b ≡ times kind b a
  pub associative : times kind (times kind a b) c ≡ times kind a (times kind b c)
  pub neutral : times kind (one_of kind) a ≡ a
  pub zero : times kind infinite a ≡ infinite
  pub only_zero : times kind a b ≡ infinite → (a ≡ infinite) ⊎ (b ≡ infinite)
  pub distributes : times kind a (plus b c) ≡ plus (times kind a b) (times kind a c)
  pub keeps : plus b c ≡ b → plus (times kind a b) (times kind a c) ≡ times kind a b
  pub regroups : times kind (times kind a b) (times kind c d) ≡ times kind (times kind a c) (times kind b d)

-- Where factors cancel, products with one factor are equal, and in order, only where their other factors are.
-- Where they do not, nothing is better than One.
pub record CancelLaws (kind : ArcType) (a b c : Cost) : Type 0 where
  pub cancelled : cancels kind ≡ true → IsCost kind a → a ≢ infinite → times kind a b ≡ times kind a c → b ≡ c
  pub reflected : cancels kind ≡ true → IsCost kind a → a ≢ infinite → plus (times kind a b) (times kind a c) ≡ times kind a b → plus b c ≡ b
  pub one_best : cancels kind ≡ false → cost_cmp a (one_of kind) ≡ Less → ⊥

-- Division by a better or equal value that is not Zero. Push division is One between equal values, and else
-- it is subset division; so the two differ only where factors do not cancel.
pub record DivisionLaws (kind : ArcType) (a by : Cost) : Type 0 where
  pub undone : IsCost kind by → by ≢ infinite → plus by a ≡ by → times kind by (quotient kind a by) ≡ a
  pub no_better : IsCost kind by → by ≢ infinite → plus by a ≡ by → plus (one_of kind) (quotient kind a by) ≡ one_of kind
  pub only : cancels kind ≡ true → IsCost kind by → by ≢ infinite → (q : Cost) → times kind by q ≡ a → q ≡ quotient kind a by
  pub zero : quotient kind infinite by ≡ infinite
  pub push_undone : IsCost kind by → by ≢ infinite → plus by a ≡ by → times kind by (push_quotient kind a by) ≡ a
  pub push_one : a ≡ by → push_quotient kind a by ≡ one_of kind
  pub push_apart : a ≢ by → push_quotient kind a by ≡ quotient kind a by
  pub push_cancels : cancels kind ≡ true → IsCost kind by → by ≢ infinite → push_quotient kind a by ≡ quotient kind a by

-- The results are values of the arc type.
pub record KindLaws (kind : ArcType) (a b : Cost) : Type 0 where
  pub one : IsCost kind (one_of kind)
  pub sum : IsCost kind a → IsCost kind b → IsCost kind (plus a b)
  pub product : IsCost kind a → IsCost kind b → IsCost kind (times kind a b)
  pub divided : IsCost kind a → IsCost kind b → IsCost kind (quotient kind a b)
  pub pushed : IsCost kind a → IsCost kind b → IsCost kind (push_quotient kind a b)

-- How far the numbers of the results go.
pub record RangeLaws (kind : ArcType) (m n : ℕ) (a b : Cost) : Type 0 where
  pub wider : m ≤ n → Within m a → Within n a
  pub one : Within m (one_of kind)
  pub sum : Within m a → Within m b → Within m (plus a b)
  pub product : Within m a → Within n b → Within (m + n) (times kind a b)
  pub divided : Within m a → Within n b → Within (m + n) (quotient kind a b)
  pub pushed : Within m a → Within n b → Within (m + n) (push_quotient kind a b)
