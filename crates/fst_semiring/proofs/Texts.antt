-- Printed weights, which are read again.
use Rattle.std.proofs.Common.{◌≡◌, ℕ, ℤ, pos, negsuc, ◌+◌, ◌≤◌, ◌==◌, suc, false, cond, List, [], ◌∷◌, ◌++◌, length, take, drop, Option, Some, refl, sym, ap, ◌∙◌, arith, append_assoc, append-nil, option_and_then}
use Rattle.std.specs.Prelude.{codes, not, ◌&&◌}
use Rattle.std.specs.Fmt.{decimal, signed_decimal}
use Rattle.std.specs.List.{AllByRecursion, after_first, before_first, position_or_len}
use Rattle.std.specs.Option.{option_map}
use Rattle.std.specs.Str.{bytes_eq}
use Rattle.std.proofs.lemmas.Bool.Decides.{nat_tests}
use Rattle.std.proofs.lemmas.Int.{ints}
use Rattle.fst_fields.proofs.Decimals.{AreDigits, decimal-digits}
use Rattle.fst_semiring.specs.declared.arc_type.ArcType.{ArcType}
use Rattle.fst_semiring.specs.declared.arc_type.ArcType.TheVariants.{Boolean, Tropical, MinMax, Lexicographic}
use Rattle.fst_semiring.specs.Cost.{Cost, best, finite, infinite}
use Rattle.fst_semiring.specs.Semiring.{InRange, IsCost, IsSmall}
use Rattle.fst_semiring.specs.WeightText.{cost_of_number, cost_of_pair, cost_of_text, number_of_text, text_of_cost}
use Rattle.fst_semiring.proofs.Numbers.{IsNumber, IsSign, all-signs, number-read, number-text}

-- a text that begins as a number is not one that begins with an I
not-word : (t rest behind : List ℕ) → IsNumber t → bytes_eq (t ++ behind) (73 ∷ rest) ≡ false
not-word [] rest behind h = absurd h
not-word (c ∷ cs) rest behind h =
    let test : (c == 73) ≡ false = grind (arith, nat_tests, h.0) in
    ap (λ b. b && bytes_eq (cs ++ behind) rest) test

not-minus_word : (a : ℤ) (rest : List ℕ) → IsSmall a → bytes_eq (signed_decimal a) (45 ∷ 73 ∷ rest) ≡ false
not-minus_word (pos n) rest h = let low : n ≤ 1000000000000000000 = omega (arith, ints, h.1) in go (decimal n) (decimal-digits n (omega arith)) where
  go : (ds : List ℕ) → AreDigits ds → bytes_eq ds (45 ∷ 73 ∷ rest) ≡ false
  go [] d = absurd d
  go (c ∷ cs) d = let test : (c == 45) ≡ false = grind (arith, nat_tests, d.0) in ap (λ b. b && bytes_eq cs (73 ∷ rest)) test
not-minus_word (negsuc n) rest h = let low : suc n ≤ 1000000000000000000 = omega (arith, ints, h.0) in go (decimal (suc n)) (decimal-digits (suc n) (omega arith)) where
  go : (ds : List ℕ) → AreDigits ds → bytes_eq (45 ∷ ds) (45 ∷ 73 ∷ rest) ≡ false
  go [] d = absurd d
  go (c ∷ cs) d = let test : (c == 73) ≡ false = grind (arith, nat_tests, d.0) in ap (λ b. b && bytes_eq cs rest) test

-- a comma behind a number
comma-at : (x y : List ℕ) → AllByRecursion IsSign x → position_or_len (λ c. c == 44) (x ++ 44 ∷ y) ≡ length x
comma-at [] y h = refl
comma-at (c ∷ x) y h =
    let test : (c == 44) ≡ false = grind (arith, nat_tests, h.0) in
    let more = comma-at x y h.1 in
    let next : 1 + length x ≡ suc (length x) = omega arith in
    ap (λ b. cond (not b) (1 + position_or_len (λ c. c == 44) (x ++ 44 ∷ y)) 0) test ∙ ap (λ (k : ℕ). 1 + k) more ∙ next

take-front : (x y : List ℕ) → take (length x) (x ++ y) ≡ x
take-front [] y = refl
take-front (c ∷ x) y = ap (λ t. c ∷ t) (take-front x y)

drop-front : (x y : List ℕ) (c : ℕ) → drop (suc (length x)) (x ++ c ∷ y) ≡ y
drop-front [] y c = refl
drop-front (d ∷ x) y c = drop-front x y c

pair-read : (a b : ℤ) → IsSmall a → IsSmall b → cost_of_pair (signed_decimal a ++ 44 ∷ signed_decimal b) ≡ Some (finite a b)
pair-read a b ha hb =
    let x = signed_decimal a in
    let y = signed_decimal b in
    let at = comma-at x y (all-signs x (number-text a ha)) in
    let next : length x + 1 ≡ suc (length x) = omega arith in
    let before : before_first (λ c. c == 44) (x ++ 44 ∷ y) ≡ x = ap (λ (k : ℕ). take k (x ++ 44 ∷ y)) at ∙ take-front x (44 ∷ y) in
    let behind : after_first (λ c. c == 44) (x ++ 44 ∷ y) ≡ y = ap (λ (k : ℕ). drop (k + 1) (x ++ 44 ∷ y)) at ∙ ap (λ (k : ℕ). drop k (x ++ 44 ∷ y)) next ∙ drop-front x y 44 in
    ap (λ (t : List ℕ). option_and_then (λ n. option_map (λ m. finite n m) (number_of_text t)) (number_of_text (before_first (λ c. c == 44) (x ++ 44 ∷ y)))) behind
    ∙ ap (λ (t : List ℕ). option_and_then (λ n. option_map (λ m. finite n m) (number_of_text y)) (number_of_text t)) before
    ∙ ap (λ (o : Option ℤ). option_and_then (λ n. option_map (λ m. finite n m) (number_of_text y)) o) (number-read a ha)
    ∙ ap (option_map (λ m. finite a m)) (number-read b hb)

-- the printed text of a weight is read as the weight
pub weight-read : (kind : ArcType) (v : Cost) → IsCost kind v → InRange v → cost_of_text kind (text_of_cost kind v) ≡ Some v
weight-read Boolean infinite k r = refl
weight-read Boolean best k r = absurd k
weight-read Boolean (finite a b) k r = ap (λ (n : ℤ). Some (finite n (pos 0))) (sym k.0) ∙ ap (λ (n : ℤ). Some (finite a n)) (sym k.1)
weight-read Tropical infinite k r = refl
weight-read Tropical best k r = absurd k
weight-read Tropical (finite a b) k r =
    let t = signed_decimal a in
    let word : bytes_eq t (codes "Infinity") ≡ false = ap (λ (s : List ℕ). bytes_eq s (codes "Infinity")) (sym (append-nil t)) ∙ not-word t (codes "nfinity") [] (number-text a r.0) in
    ap (λ test. cond test (Some infinite) (cost_of_number (number_of_text t))) word ∙ ap cost_of_number (number-read a r.0) ∙ ap (λ (n : ℤ). Some (finite a n)) (sym k)
weight-read MinMax infinite k r = refl
weight-read MinMax best k r = refl
weight-read MinMax (finite a b) k r =
    let t = signed_decimal a in
    let word : bytes_eq t (codes "Infinity") ≡ false = ap (λ (s : List ℕ). bytes_eq s (codes "Infinity")) (sym (append-nil t)) ∙ not-word t (codes "nfinity") [] (number-text a r.0) in
    let minus : bytes_eq t (codes "-Infinity") ≡ false = not-minus_word a (codes "nfinity") r.0 in
    ap (λ test. cond test (Some infinite) (cond (bytes_eq t (codes "-Infinity")) (Some best) (cost_of_number (number_of_text t)))) word
    ∙ ap (λ test. cond test (Some best) (cost_of_number (number_of_text t))) minus ∙ ap cost_of_number (number-read a r.0) ∙ ap (λ (n : ℤ). Some (finite a n)) (sym k)
weight-read Lexicographic infinite k r = refl
weight-read Lexicographic best k r = absurd k
weight-read Lexicographic (finite a b) k r =
    let x = signed_decimal a in
    let y = signed_decimal b in
    ap (cost_of_text Lexicographic) (append_assoc x (44 ∷ []) y)
    ∙ ap (λ test. cond test (Some infinite) (cost_of_pair (x ++ 44 ∷ y))) (not-word x (codes "nfinity,Infinity") (44 ∷ y) (number-text a r.0))
    ∙ pair-read a b r.0 r.1
