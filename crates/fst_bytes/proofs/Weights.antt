-- Keys and the weights that have them.
use Rattle.std.proofs.Common.{◌≡◌, ℕ, ℤ, pos, ◌+◌, ◌*◌, ◌≤◌, length, ◌≤ℤ◌, neg_ℤ, int_le, ltb, Ok, Err, Bool, cond, true, false, ◌&&◌, List, Option, Some, None, ap, refl, sym, ◌∙◌, arith}
use Rattle.std.specs.Prelude.{IfSome, IfNone}
use Rattle.std.specs.Option.{option_map}
use Rattle.std.specs.List.{list_all}
use Rattle.std.proofs.lemmas.Bool.{le-ltb}
use Rattle.std.proofs.lemmas.Float.{T_from_true}
use Rattle.std.specs.Int.Signed.{le_z_yes}
use Rattle.fst_semiring.specs.declared.arc_type.ArcType.{ArcType}
use Rattle.fst_semiring.specs.declared.arc_type.ArcType.TheVariants.{Boolean, Tropical, MinMax, Lexicographic}
use Rattle.fst_semiring.specs.declared.key.Key.{Key}
use Rattle.fst_semiring.specs.Cost.{Cost, best, finite, infinite, is_infinite}
use Rattle.fst_semiring.specs.Semiring.{IsCost, InRange, IsSmall}
use Rattle.fst_semiring.specs.Keys.{key_of}
use Rattle.fst_bytes.specs.declared.fault.WeightFieldFault.TheVariants.{BadWeight}
use Rattle.fst_bytes.specs.Spelling.{HasField}
use Rattle.fst_bytes.specs.Reading.{cost_of_numbers, has_best, integers_at, integer_at, is_small, number_count, numbers_at}

-- values with one key are one value
pub key_apart : (v w : Cost) → key_of v ≡ key_of w → v ≡ w
key_apart best best e = refl
key_apart best (finite a b) e = absurd (let n : 0 ≡ 1 = ap (λ (k : Key). k.class) e in omega (arith, n))
key_apart best infinite e = absurd (let n : 0 ≡ 2 = ap (λ (k : Key). k.class) e in omega (arith, n))
key_apart (finite a b) best e = absurd (let n : 1 ≡ 0 = ap (λ (k : Key). k.class) e in omega (arith, n))
key_apart (finite a b) (finite c d) e =
    let f : a ≡ c = ap (λ (k : Key). k.first) e in
    let s : b ≡ d = ap (λ (k : Key). k.second) e in
    rw (f, s) refl
key_apart (finite a b) infinite e = absurd (let n : 1 ≡ 2 = ap (λ (k : Key). k.class) e in omega (arith, n))
key_apart infinite best e = absurd (let n : 2 ≡ 0 = ap (λ (k : Key). k.class) e in omega (arith, n))
key_apart infinite (finite a b) e = absurd (let n : 2 ≡ 1 = ap (λ (k : Key). k.class) e in omega (arith, n))
key_apart infinite infinite e = refl

pub and_left : (a b : Bool) → a && b ≡ true → a ≡ true
and_left true b e = refl
and_left false b e = absurd cc

pub and_right : (a b : Bool) → a && b ≡ true → b ≡ true
and_right true b e = e
and_right false b e = absurd cc

test_passed : {a b : ℤ} → int_le a b ≡ true → a ≤ℤ b
test_passed {a} {b} e = le_z_yes (T_from_true (int_le a b) e)

-- a small number by its test
small_is : (n : ℤ) → is_small n ≡ true → IsSmall n
small_is n e =
    let low : int_le (neg_ℤ (pos 1000000000000000000)) n ≡ true = and_left _ _ e in
    let high : int_le n (pos 1000000000000000000) ≡ true = and_right _ _ e in
    (test_passed low, test_passed high)

pub zero_is_small : IsSmall (pos 0)
zero_is_small = small_is (pos 0) refl

-- numbers that pass their test make a value that has a field
pub numbers_have_field : (kind : ArcType) (bytes : List ℕ) (at : ℕ) → list_all is_small (integers_at (number_count kind) bytes at) ≡ true → HasField kind (cost_of_numbers (integers_at (number_count kind) bytes at))
numbers_have_field Boolean bytes at e = ((refl, refl), (zero_is_small, zero_is_small))
numbers_have_field Tropical bytes at e = (refl, (small_is (integer_at bytes at) (and_left _ _ e), zero_is_small))
numbers_have_field MinMax bytes at e = (refl, (small_is (integer_at bytes at) (and_left _ _ e), zero_is_small))
numbers_have_field Lexicographic bytes at e = (tt, (small_is (integer_at bytes at) (and_left _ _ e), small_is (integer_at bytes (at + 8)) (and_left _ _ (and_right (is_small (integer_at bytes at)) _ e))))

-- numbers that are there and pass their test are read
pub numbers_are_read : (kind : ArcType) (bytes : List ℕ) (at : ℕ) → at + 8 * number_count kind ≤ length bytes → list_all is_small (integers_at (number_count kind) bytes at) ≡ true → numbers_at kind bytes at ≡ Ok (cost_of_numbers (integers_at (number_count kind) bytes at), at + 8 * number_count kind)
unfolding numbers_at
numbers_are_read kind bytes at whole small = let long : ltb (length bytes) (at + 8 * number_count kind) ≡ false = le-ltb _ _ whole in rw (long, small) refl

-- numbers that are there and fail their test are refused
pub numbers_are_refused : (kind : ArcType) (bytes : List ℕ) (at : ℕ) → at + 8 * number_count kind ≤ length bytes → list_all is_small (integers_at (number_count kind) bytes at) ≡ false → numbers_at kind bytes at ≡ Err BadWeight
unfolding numbers_at
numbers_are_refused kind bytes at whole large = let long : ltb (length bytes) (at + 8 * number_count kind) ≡ false = le-ltb _ _ whole in rw (long, large) refl

-- they are no Zero
pub numbers_not_zero : (kind : ArcType) (bytes : List ℕ) (at : ℕ) → is_infinite (cost_of_numbers (integers_at (number_count kind) bytes at)) ≡ false
numbers_not_zero Boolean bytes at = refl
numbers_not_zero Tropical bytes at = refl
numbers_not_zero MinMax bytes at = refl
numbers_not_zero Lexicographic bytes at = refl

-- what a test let through, and what it did not
pub let_through : {A : Type 0} (t : Bool) (x y : A) → cond t (Some x) None ≡ Some y → (t ≡ true) × (x ≡ y)
let_through true x y e = (refl, cc)
let_through false x y e = absurd cc

pub kept_back : {A : Type 0} (t : Bool) (x : A) → cond t (Some x) None ≡ None → t ≡ false
kept_back true x e = absurd cc
kept_back false x e = refl

-- what is found by the key of a value that has a field is the weight with this value
pub found_by_key : {W : Type 0} (value : W → Cost) (kind : ArcType) (v : Cost) (r : Option W) → IfSome r (λ w. key_of (value w) ≡ key_of v) → IfNone r ((u : Cost) → IsCost kind u → InRange u → key_of u ≡ key_of v → ⊥) → HasField kind v → option_map value r ≡ Some v
found_by_key value kind v (Some w) found none fits = ap (λ (u : Cost). Some u) (key_apart (value w) v found)
found_by_key value kind v None found none fits = absurd (none v fits.0 fits.1 refl)

-- the weight with the numbers that stand there, as it is found by their key
pub weight_is : {W : Type 0} (value : W → Cost) (kind k : ArcType) (bytes : List ℕ) (at : ℕ) (key : Key) (r : Option W) → k ≡ kind → key_of (cost_of_numbers (integers_at (number_count k) bytes at)) ≡ key
    → IfSome r (λ w. key_of (value w) ≡ key) → IfSome r (λ w. value w ≡ cost_of_numbers (integers_at (number_count kind) bytes at))
weight_is value kind k bytes at key (Some w) same e found = key_apart (value w) (cost_of_numbers (integers_at (number_count kind) bytes at)) (found ∙ sym (rw (← same) e))
weight_is value kind k bytes at key None same e found = tt

pub weight_found : {W : Type 0} (value : W → Cost) (kind k : ArcType) (bytes : List ℕ) (at : ℕ) (key : Key) (r : Option W) → k ≡ kind → at + 8 * number_count kind ≤ length bytes → list_all is_small (integers_at (number_count k) bytes at) ≡ true
    → key_of (cost_of_numbers (integers_at (number_count k) bytes at)) ≡ key → IfSome r (λ w. key_of (value w) ≡ key) → IfSome r (λ w. numbers_at kind bytes at ≡ Ok (value w, at + 8 * number_count kind))
weight_found value kind k bytes at key (Some w) same whole small e found =
    let is = weight_is value kind k bytes at key (Some w) same e found in
    rw is (numbers_are_read kind bytes at whole (rw (← same) small))
weight_found value kind k bytes at key None same whole small e found = tt

pub weight_not_missing : {W : Type 0} (value : W → Cost) (kind k : ArcType) (bytes : List ℕ) (at : ℕ) (key : Key) (r : Option W) → k ≡ kind → list_all is_small (integers_at (number_count k) bytes at) ≡ true
    → key_of (cost_of_numbers (integers_at (number_count k) bytes at)) ≡ key → IfNone r ((v : Cost) → IsCost kind v → InRange v → key_of v ≡ key → ⊥) → IfNone r (numbers_at kind bytes at ≡ Err BadWeight)
weight_not_missing value kind k bytes at key (Some w) same small e none = tt
weight_not_missing value kind k bytes at key None same small e none =
    let fits = numbers_have_field kind bytes at (rw (← same) small) in
    absurd (none (cost_of_numbers (integers_at (number_count kind) bytes at)) fits.0 fits.1 (rw (← same) e))

pub weight_refused : (kind k : ArcType) (bytes : List ℕ) (at : ℕ) → k ≡ kind → at + 8 * number_count kind ≤ length bytes → list_all is_small (integers_at (number_count k) bytes at) ≡ false → numbers_at kind bytes at ≡ Err BadWeight
weight_refused kind k bytes at same whole large = numbers_are_refused kind bytes at whole (rw (← same) large)

-- where there is a tag for the best value, it has a field
pub best_has_field : (kind : ArcType) → has_best kind ≡ true → HasField kind best
best_has_field Boolean e = absurd cc
best_has_field Tropical e = absurd cc
best_has_field MinMax e = (tt, tt)
best_has_field Lexicographic e = absurd cc
