-- How members and ways are kept, and what stands for them as plain values.
use Rattle.std.specs.Prelude.{◌≡◌, ◌≢◌, ◌<◌, ◌≤◌, ℕ, Bool, List, [], ◌∷◌, ◌+◌, ◌*◌, ◌%◌, ◌^◌, ◌&&◌, fold, map, nat_eq, unsigned_abs}
use Rattle.std.specs.Cmp.Lexicographic.{pointwise}
use Rattle.std.specs.Ordering.{is_eq}
use Rattle.fst_semiring.specs.Cost.{Cost, cost_cmp, first_of, infinite, plus}
use Rattle.fst_semiring.specs.Semiring.{IsWide, Within}
use Rattle.fst_machine.specs.BreadthFirst.{Has}
use Rattle.fst_determinize.specs.Subsets.{Member}
use Rattle.fst_determinize.specs.Ways.{Way}

-- A state with its residual in any form.
pub record HeldAs (V : Type 0) : Type 0 where
  pub state : ℕ
  pub residual : V

-- a way with its weight in any form
pub record WayAs (V : Type 0) : Type 0 where
  pub label : ℕ
  pub state : ℕ
  pub weight : V

module _ {V : Type 0} (value : V → Cost) where
  -- the same with plain values
  abbrev pub member_as : HeldAs V → Member
  member_as h = record { state = h.state; residual = value h.residual }

  abbrev pub members_as : List (HeldAs V) → List Member
  members_as hs = map member_as hs

  abbrev pub way_as : WayAs V → Way
  way_as y = record { label = y.label; state = y.state; weight = value y.weight }

  abbrev pub ways_as : List (WayAs V) → List Way
  ways_as ys = map way_as ys

-- whether two values are one
abbrev pub same_cost : Cost → Cost → Bool
same_cost a b = is_eq (cost_cmp a b)

-- what `==` answers of members, and of subsets
abbrev pub same_member : Member → Member → Bool
same_member a b = nat_eq a.state b.state && same_cost a.residual b.residual

abbrev pub same_members : List Member → List Member → Bool
same_members = pointwise same_member

-- a number by which ways stand by label, and by state where they have one label
abbrev pub rank : {V : Type 0} → WayAs V → ℕ
rank y = y.label * 4294967296 + y.state

-- Each number of the value has absolute value at most 2 to the 118, so that it can be computed with once more and once
-- more again.
abbrev pub IsModest : Cost → Type 0
IsModest v = Within 332306998946228968225951765070086144 v

-- no element has a greater key than one that stands behind it
abbrev pub RisesBy : {X : Type 0} → (X → ℕ) → List X → Type 0
RisesBy key [] = Unit {0}
RisesBy {X} key (x ∷ xs) = ((y : X) → Has xs y → key x ≤ key y) × RisesBy key xs

-- A way to a state that its rank tells, with a weight that can be divided and divided by.
pub record IsGoodWay {V : Type 0} (value : V → Cost) (y : WayAs V) : Type 0 where
  pub state : y.state < 4294967296
  pub wide : IsWide (value y.weight)
  pub not_zero : value y.weight ≢ infinite

-- good ways in the order of their ranks
pub record AreGoodWays {V : Type 0} (value : V → Cost) (ys : List (WayAs V)) : Type 0 where
  pub ranked : RisesBy rank ys
  pub good : (y : WayAs V) → Has ys y → IsGoodWay value y

-- ways by state, each of which this value divides
pub record AreDivided {V : Type 0} (value : V → Cost) (by : Cost) (ys : List (WayAs V)) : Type 0 where
  pub ranked : RisesBy (λ y. y.state) ys
  pub wide : (y : WayAs V) → Has ys y → IsWide (value y.weight)
  pub no_better : (y : WayAs V) → Has ys y → plus by (value y.weight) ≡ by

-- a number with a member more; nothing hangs on which one it is
unfoldable pub number_more : ℕ → Member → ℕ
number_more n m =
    let once = (n * 11400714819323198485 % 2 ^ 64 + unsigned_abs (first_of m.residual) % 2 ^ 64) % 2 ^ 64 in
    (once * 15485907386658061715 % 2 ^ 64 + m.state) % 2 ^ 64

-- the number by which a subset is found
abbrev pub subset_number : List Member → ℕ
subset_number members = fold number_more 0 members
