-- Printed numbers of weights, which are read again.
use Rattle.std.proofs.Common.{◌≡◌, ℕ, ℤ, pos, negsuc, neg_ℤ, ◌<◌, ◌≤◌, ◌^◌, ◌==◌, suc, true, false, cond, List, [], ◌∷◌, Some, None, ap, ◌∙◌, arith, nat_le, lit<, option_and_then}
use Rattle.std.specs.Fmt.{decimal, signed_decimal}
use Rattle.std.specs.List.{AllByRecursion}
use Rattle.std.specs.Option.{option_map}
use Rattle.std.proofs.lemmas.Bool.Decides.{nat_tests}
use Rattle.std.proofs.lemmas.Int.{ints}
use Rattle.fst_fields.proofs.Decimals.{AreDigits, IsDigit, decimal-digits, decimal-read}
use Rattle.fst_semiring.specs.Semiring.{IsSmall}
use Rattle.fst_semiring.specs.WeightText.{magnitude_of_text, number_of_text, up_to_limit}

magnitude-read : (n : ℕ) → n ≤ 1000000000000000000 → magnitude_of_text (decimal n) ≡ Some n
magnitude-read n low =
    let within : n < 10 ^ 19 = omega arith in
    let small : n < 2 ^ 64 = omega arith in
    let test : nat_le n 1000000000000000000 ≡ true = grind (arith, nat_tests) in
    ap (option_and_then up_to_limit) (decimal-read 19 n (lit< tt) within small) ∙ ap (λ b. cond b (Some n) None) test

number-digits : (ds : List ℕ) → AreDigits ds → number_of_text ds ≡ option_map (λ n. pos n) (magnitude_of_text ds)
number-digits [] h = absurd h
number-digits (c ∷ cs) h =
    let test : (c == 45) ≡ false = grind (arith, nat_tests, h.0) in
    ap (λ b. cond b (option_map (λ n. neg_ℤ (pos n)) (magnitude_of_text cs)) (option_map (λ n. pos n) (magnitude_of_text (c ∷ cs)))) test

-- a printed number of a weight is read again
pub number-read : (a : ℤ) → IsSmall a → number_of_text (signed_decimal a) ≡ Some a
number-read (pos n) h =
    let low : n ≤ 1000000000000000000 = omega (arith, ints, h.1) in
    number-digits (decimal n) (decimal-digits n (omega arith)) ∙ ap (option_map (λ n. pos n)) (magnitude-read n low)
number-read (negsuc n) h =
    let low : suc n ≤ 1000000000000000000 = omega (arith, ints, h.0) in
    ap (option_map (λ n. neg_ℤ (pos n))) (magnitude-read (suc n) low)

-- the bytes of a number: a minus sign or a digit
abbrev pub IsSign : ℕ → Type 0
IsSign c = (45 ≤ c) × (c ≤ 57)

-- such bytes, and at least one
abbrev pub IsNumber : List ℕ → Type 0
IsNumber [] = ⊥
IsNumber (c ∷ cs) = IsSign c × AllByRecursion IsSign cs

signs : (cs : List ℕ) → AllByRecursion IsDigit cs → AllByRecursion IsSign cs
signs [] h = tt
signs (c ∷ cs) h = ((let d = h.0.0 in omega arith, h.0.1), signs cs h.1)

digits-number : (ds : List ℕ) → AreDigits ds → IsNumber ds
digits-number [] h = absurd h
digits-number (c ∷ cs) h = ((let d = h.0.0 in omega arith, h.0.1), signs cs h.1)

digits-signs : (ds : List ℕ) → AreDigits ds → AllByRecursion IsSign ds
digits-signs [] h = absurd h
digits-signs (c ∷ cs) h = ((let d = h.0.0 in omega arith, h.0.1), signs cs h.1)

-- a printed number has such bytes alone
pub number-text : (a : ℤ) → IsSmall a → IsNumber (signed_decimal a)
number-text (pos n) h = let low : n ≤ 1000000000000000000 = omega (arith, ints, h.1) in digits-number (decimal n) (decimal-digits n (omega arith))
number-text (negsuc n) h = let low : suc n ≤ 1000000000000000000 = omega (arith, ints, h.0) in ((omega arith, omega arith), digits-signs (decimal (suc n)) (decimal-digits (suc n) (omega arith)))

-- all of them are such bytes
pub all-signs : (t : List ℕ) → IsNumber t → AllByRecursion IsSign t
all-signs [] h = absurd h
all-signs (c ∷ cs) h = h
