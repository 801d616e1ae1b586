-- Tables of places after a write.
use Rattle.std.proofs.Common.{◌≡◌, ℕ, ◌<◌, ◌==◌, Bool, true, false, List, length, get_or, set, Option, Some, None, cond, refl, ap, arith, nat_lt}
use Rattle.std.proofs.lemmas.Bool.{eqb-true}
use Rattle.std.proofs.lemmas.Bool.Decides.{nat_tests}
use Rattle.std.proofs.lemmas.Grind.{common_steps}
use Rattle.fst_table.specs.Slots.{place_in_slot}

-- what a slot tells after a write to one
pub slot-set : (xs : List ℕ) (bound n place m : ℕ) (rest : Option ℕ) → n < length xs → n < bound → place < 4294967295 → cond (nat_lt m bound) (place_in_slot (get_or (set xs n place) m 4294967295)) rest ≡ cond (m == n) (Some place) (cond (nat_lt m bound) (place_in_slot (get_or xs m 4294967295)) rest)
slot-set xs bound n place m rest within low small = grind (arith, common_steps, nat_tests)

-- what is known of a number stays, where another becomes known
pub slot-kept : (found : ℕ → Option ℕ) (n m place q : ℕ) → found n ≡ None → found m ≡ Some q → cond (m == n) (Some place) (found m) ≡ Some q
slot-kept found n m place q absent known = go (m == n) refl where
  go : (same : Bool) → (m == n) ≡ same → cond same (Some place) (found m) ≡ Some q
  go true e = absurd (let at = ap found (eqb-true m n e) in cc)
  go false e = known
