-- How long the fields are.
use Rattle.std.proofs.Common.{◌≡◌, ℕ, ℤ, ◌+◌, ◌*◌, ◌≤◌, List, [], ◌∷◌, ◌++◌, length, Some, ◌⊎◌, inl, inr, refl, ap, ◌∙◌, arith}
use Rattle.std.proofs.lemmas.List.{length-append, append-nil}
use Rattle.std.proofs.lemmas.Option.{none-some, same_Some}
use Rattle.fst_semiring.specs.declared.arc_type.ArcType.{ArcType}
use Rattle.fst_semiring.specs.declared.arc_type.ArcType.TheVariants.{Boolean, Tropical, MinMax, Lexicographic}
use Rattle.fst_semiring.specs.Cost.{Cost, best, class_of, finite, infinite}
use Rattle.fst_semiring.specs.Semiring.{single_number}
use Rattle.fst_bytes.specs.Spelling.{long, signed, weight_field, word}
use Rattle.fst_bytes.specs.Reading.{number_count}

pub length-word : (n : ℕ) → length (word n) ≡ 4
unfolding word
length-word n = refl

pub length-long : (n : ℕ) → length (long n) ≡ 8
unfolding long
length-long n = refl

pub length-signed : (n : ℤ) → length (signed n) ≡ 8
unfolding signed
length-signed n = refl

-- a list that is longer by a number
pub longer : (xs ys zs : List ℕ) → xs ≡ ys ++ zs → length xs ≡ length ys + length zs
longer xs ys zs e = ap length e ∙ length-append ys zs

-- the field of a number or a pair
pub length-numbers : (kind : ArcType) (a b : ℤ) → length (weight_field kind (finite a b)) ≡ 1 + 8 * number_count kind
length-numbers Boolean a b = refl
length-numbers Tropical a b = let m = length-append (signed a) [] in let s = length-signed a in omega (arith, m, s)
length-numbers MinMax a b = let m = length-append (signed a) [] in let s = length-signed a in omega (arith, m, s)
length-numbers Lexicographic a b =
    let m = length-append (signed a) (signed b ++ []) in
    let n = length-append (signed b) [] in
    let s = length-signed a in
    let t = length-signed b in
    omega (arith, m, n, s, t)

-- a field is as long as its class says
pub length-weight_field : (kind : ArcType) (v : Cost) → length (weight_field kind v) ≤ 17
length-weight_field kind infinite = omega arith
length-weight_field kind best = omega arith
length-weight_field Boolean (finite a b) = let n = length-numbers Boolean a b in omega (arith, n)
length-weight_field Tropical (finite a b) = let n = length-numbers Tropical a b in omega (arith, n)
length-weight_field MinMax (finite a b) = let n = length-numbers MinMax a b in omega (arith, n)
length-weight_field Lexicographic (finite a b) = let n = length-numbers Lexicographic a b in omega (arith, n)

-- where the class is that of numbers, so is the length
pub length-by_class : (kind : ArcType) (v : Cost) → class_of v ≡ 1 → length (weight_field kind v) ≡ 1 + 8 * number_count kind
length-by_class kind infinite e = absurd (omega (arith, e))
length-by_class kind best e = absurd (omega (arith, e))
length-by_class kind (finite a b) e = length-numbers kind a b

-- tropical and min-max have one number
pub one_number : (kind : ArcType) → (kind ≡ Tropical) ⊎ (kind ≡ MinMax) → number_count kind ≡ 1
one_number kind (inl e) = ap number_count e
one_number kind (inr e) = ap number_count e

-- the field of a single number
pub field_of_number : (kind : ArcType) (v : Cost) (n : ℤ) → single_number kind v ≡ Some n → weight_field kind v ≡ 1 ∷ signed n
field_of_number kind infinite n e = absurd (none-some n e)
field_of_number kind best n e = absurd (none-some n e)
field_of_number Boolean (finite a b) n e = absurd (none-some n e)
field_of_number Tropical (finite a b) n e = ap (λ f. 1 ∷ f) (append-nil (signed a) ∙ ap signed (same_Some _ _ e))
field_of_number MinMax (finite a b) n e = ap (λ f. 1 ∷ f) (append-nil (signed a) ∙ ap signed (same_Some _ _ e))
field_of_number Lexicographic (finite a b) n e = absurd (none-some n e)

-- it has the tag and eight bytes
pub length-by_number : (kind : ArcType) (v : Cost) (n : ℤ) → single_number kind v ≡ Some n → length (weight_field kind v) ≡ 9
length-by_number kind v n e = let field = ap length (field_of_number kind v n e) in omega (arith, field, length-signed n)

-- a list that is longer by a number with a sign
pub longer_by_signed : (xs ys : List ℕ) (n : ℤ) → xs ≡ ys ++ signed n → length xs ≡ length ys + 8
longer_by_signed xs ys n e = let m = longer xs ys (signed n) e in omega (arith, m, length-signed n)

-- a list with one more item
pub length_push : {X : Type 0} (xs ys : List X) (x : X) → xs ≡ ys ++ x ∷ [] → length xs ≡ length ys + 1
length_push xs ys x e = ap length e ∙ length-append ys (x ∷ [])
