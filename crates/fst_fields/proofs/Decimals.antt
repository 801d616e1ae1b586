-- Printed numbers are read again.
use Rattle.std.proofs.Common.{◌≡◌, ℕ, ◌+◌, ◌-◌, ◌*◌, ◌/◌, ◌%◌, ◌^◌, ◌<◌, ◌≤◌, Bool, true, false, cond, List, [], ◌∷◌, ◌++◌, length, Some, None, refl, ap, ◌∙◌, arith, nat_le}
use Rattle.std.specs.Char.{is_ascii_digit}
use Rattle.std.specs.Fmt.{decimal}
use Rattle.std.specs.List.{AllByRecursion}
use Rattle.std.proofs.lemmas.Bool.Decides.{nat_tests}
use Rattle.std.proofs.lemmas.Fmt.{decimal_by_steps, length-decimal-le}
use Rattle.fst_fields.specs.Decimal.{digits_after, natural_of_text}

abbrev pub IsDigit : ℕ → Type 0
IsDigit c = (48 ≤ c) × (c ≤ 57)

is_digit : (c : ℕ) → IsDigit c → is_ascii_digit c ≡ true
is_digit c h = grind (arith, nat_tests)

-- one digit more
digits_after-push : (m k c : ℕ) (ds : List ℕ) → digits_after m ds ≡ Some k → IsDigit c → digits_after m (ds ++ c ∷ []) ≡ Some (10 * k + (c - 48))
digits_after-push m k c [] e h =
    let same : m ≡ k = cc in
    ap (λ b. cond b (Some (10 * m + (c - 48))) None) (is_digit c h) ∙ ap (λ (j : ℕ). Some (10 * j + (c - 48))) same
digits_after-push m k c (d ∷ ds) e h = go (is_ascii_digit d) e (λ f. digits_after-push (10 * m + (d - 48)) k c ds f h) where
  go : (test : Bool) → cond test (digits_after (10 * m + (d - 48)) ds) None ≡ Some k → (digits_after (10 * m + (d - 48)) ds ≡ Some k → digits_after (10 * m + (d - 48)) (ds ++ c ∷ []) ≡ Some (10 * k + (c - 48))) → cond test (digits_after (10 * m + (d - 48)) (ds ++ c ∷ [])) None ≡ Some (10 * k + (c - 48))
  go true f more = more f
  go false f more = absurd (cc)

pub decimal-value : (n : ℕ) → n < 2 ^ 64 → digits_after 0 (decimal n) ≡ Some n
decimal-value n small = decimal_by_steps (λ k ds. digits_after 0 ds ≡ Some k) one more n small where
  one : (k : ℕ) → k < 10 → digits_after 0 ((48 + k) ∷ []) ≡ Some k
  one k low =
      let same : 10 * 0 + (48 + k - 48) ≡ k = omega arith in
      digits_after-push 0 0 (48 + k) [] refl (omega arith, omega arith) ∙ ap (λ (j : ℕ). Some j) same

  more : (k : ℕ) (ds : List ℕ) → 10 ≤ k → digits_after 0 ds ≡ Some (k / 10) → digits_after 0 (ds ++ ((48 + k % 10) ∷ [])) ≡ Some k
  more k ds high e =
      let same : 10 * (k / 10) + (48 + k % 10 - 48) ≡ k = omega arith in
      digits_after-push 0 (k / 10) (48 + k % 10) ds e (omega arith, omega arith) ∙ ap (λ (j : ℕ). Some j) same

-- a digit, and digits behind it
abbrev pub AreDigits : List ℕ → Type 0
AreDigits [] = ⊥
AreDigits (c ∷ cs) = IsDigit c × AllByRecursion IsDigit cs

AreDigits-push : (ds : List ℕ) (c : ℕ) → AreDigits ds → IsDigit c → AreDigits (ds ++ c ∷ [])
AreDigits-push [] c h d = absurd h
AreDigits-push (e ∷ ds) c h d = (h.0, all ds h.1) where
  all : (ds : List ℕ) → AllByRecursion IsDigit ds → AllByRecursion IsDigit (ds ++ c ∷ [])
  all [] g = (d, tt)
  all (f ∷ ds) g = (g.0, all ds g.1)

pub decimal-digits : (n : ℕ) → n < 2 ^ 64 → AreDigits (decimal n)
decimal-digits n small = decimal_by_steps (λ k ds. AreDigits ds) one more n small where
  one : (k : ℕ) → k < 10 → AreDigits ((48 + k) ∷ [])
  one k low = ((omega arith, omega arith), tt)

  more : (k : ℕ) (ds : List ℕ) → 10 ≤ k → AreDigits ds → AreDigits (ds ++ ((48 + k % 10) ∷ []))
  more k ds high h = AreDigits-push ds (48 + k % 10) h (omega arith, omega arith)

natural-is : (most : ℕ) (ds : List ℕ) → AreDigits ds → length ds ≤ most → natural_of_text most ds ≡ digits_after 0 ds
natural-is most [] h short = absurd h
natural-is most (c ∷ cs) h short =
    let test : nat_le (length (c ∷ cs)) most ≡ true = grind (arith, nat_tests) in
    ap (λ b. cond b (digits_after 0 (c ∷ cs)) None) test

-- a printed number of so many digits at most is read again
pub decimal-read : (most n : ℕ) → 0 < most → n < 10 ^ most → n < 2 ^ 64 → natural_of_text most (decimal n) ≡ Some n
decimal-read most n some low small = natural-is most (decimal n) (decimal-digits n small) (length-decimal-le most n some low small) ∙ decimal-value n small
