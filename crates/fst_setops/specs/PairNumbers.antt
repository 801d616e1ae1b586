-- The number by which a pair of states is found.
use Rattle.std.proofs.Common.{◌≡◌, ℕ, ◌+◌, ◌*◌, Bool, true, Option, None, Some, ◌&&◌, eqb, nat_lt, if◌then◌else◌, refl, subst}
use Rattle.std.specs.Bool.{Decides}
use Rattle.std.specs.Option.{option_eq}
use Rattle.std.proofs.lemmas.Bool.{and_parts}
use Rattle.fst_setops.specs.SameStates.{own_state, tells_state}
use Rattle.fst_setops.specs.Separating.{Pair}

-- a state as a part of a number: 0 where there is none, and else the state after it, where it has room
abbrev pub part_of : Option ℕ → Option ℕ
part_of None = Some 0
part_of (Some n) = if nat_lt n 2147483648 then Some (n + 1) else None

-- the parts side by side; 0 where they have no room
abbrev pub parts_number : Option ℕ → Option ℕ → ℕ
parts_number None y = 0
parts_number (Some x) None = 0
parts_number (Some x) (Some y) = 1 + x + y * 4294967296

abbrev pub pair_number : Pair ℕ ℕ → ℕ
pair_number p = parts_number (part_of p.first) (part_of p.second)

-- whether two pairs are one
abbrev pub same_pair : Pair ℕ ℕ → Pair ℕ ℕ → Bool
same_pair a b = option_eq eqb a.first b.first && option_eq eqb a.second b.second

-- pairs that compare as equal are one
pub pair_decides : (a b : Pair ℕ ℕ) → Decides (same_pair a b) (a ≡ b)
pair_decides a b = (tells, λ e. subst (λ (n : Pair ℕ ℕ). same_pair a n ≡ true) e own)
  where
    tells : same_pair a b ≡ true → a ≡ b
    tells e =
        let parts = and_parts _ _ e in
        λ i. record { first = tells_state a.first b.first parts.0 i; second = tells_state a.second b.second parts.1 i }

    own : same_pair a a ≡ true
    own = rw (own_state a.first, own_state a.second) refl
