-- Digits, and one digit more.
use Rattle.std.proofs.Common.{◌≡◌, ◌∙◌, ◌<◌, ◌≤◌, ◌+◌, ◌-◌, ◌*◌, ℕ, Bool, cond, true, false, List, [], ◌∷◌, ◌++◌, length, take, drop, Option, Some, None, refl, sym, ap, arith, nat_le, option_map}
use Rattle.std.specs.Prelude.{option_and_then}
use Rattle.std.specs.Char.{is_ascii_digit}
use Rattle.std.proofs.lemmas.List.{length-drop, length-take-le, take-append-drop}
use Rattle.fst_fields.specs.Decimal.{digits_after, natural_of_text}

digits_more : (n : ℕ) (xs ys : List ℕ) → digits_after n (xs ++ ys) ≡ option_and_then (λ m. digits_after m ys) (digits_after n xs)
digits_more n [] ys = refl
digits_more n (x ∷ xs) ys = go (is_ascii_digit x) (digits_more (10 * n + (x - 48)) xs ys)
  where
    go : (b : Bool) → digits_after (10 * n + (x - 48)) (xs ++ ys) ≡ option_and_then (λ m. digits_after m ys) (digits_after (10 * n + (x - 48)) xs)
        → cond b (digits_after (10 * n + (x - 48)) (xs ++ ys)) None
        ≡ option_and_then (λ m. digits_after m ys) (cond b (digits_after (10 * n + (x - 48)) xs) None)
    go true e = e
    go false e = refl

last_digit : (n : ℕ) (ys : List ℕ) → length ys ≡ 1 → digits_after n ys ≡ option_map (λ d. 10 * n + d) (digits_after 0 ys)
last_digit n [] e = absurd (omega arith)
last_digit n (y ∷ z ∷ ys) e = absurd (omega arith)
last_digit n (y ∷ []) e = go (is_ascii_digit y)
  where
    go : (b : Bool) → cond b (Some (10 * n + (y - 48))) None ≡ option_map (λ d. 10 * n + d) (cond b (Some (10 * 0 + (y - 48))) None)
    go true = grind arith
    go false = refl

natural_is : (most : ℕ) (ds : List ℕ) → 0 < length ds → length ds ≤ most → natural_of_text most ds ≡ digits_after 0 ds
natural_is most [] some few = absurd (omega arith)
natural_is most (d ∷ ds) some few =
    let fits : nat_le (length (d ∷ ds)) most ≡ true = grind arith in
    rw fits refl

-- n digits and one more
pub one_digit_more : (n : ℕ) (ds : List ℕ) → 0 < n → length ds ≡ n + 1
    → natural_of_text (n + 1) ds
    ≡ option_and_then (λ m. option_map (λ d. 10 * m + d) (natural_of_text 1 (drop n ds))) (natural_of_text n (take n ds))
one_digit_more n ds some long =
    let front : length (take n ds) ≡ n = length-take-le n ds (omega arith) in
    let behind : length (drop n ds) ≡ 1 = omega (arith, length-drop n ds) in
    let whole : natural_of_text (n + 1) ds ≡ digits_after 0 ds = natural_is (n + 1) ds (omega arith) (omega arith) in
    let first : natural_of_text n (take n ds) ≡ digits_after 0 (take n ds) = natural_is n (take n ds) (omega arith) (omega arith) in
    let second : natural_of_text 1 (drop n ds) ≡ digits_after 0 (drop n ds) = natural_is 1 (drop n ds) (omega arith) (omega arith) in
    rw (whole, first, second)
    (ap (digits_after 0) (sym (take-append-drop n ds)) ∙ (digits_more 0 (take n ds) (drop n ds) ∙ go behind (digits_after 0 (take n ds))))
  where
    go : length (drop n ds) ≡ 1 → (o : Option ℕ) → option_and_then (λ m. digits_after m (drop n ds)) o
        ≡ option_and_then (λ m. option_map (λ d. 10 * m + d) (digits_after 0 (drop n ds))) o
    go behind None = refl
    go behind (Some m) = last_digit m (drop n ds) behind
