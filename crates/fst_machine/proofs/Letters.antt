-- Strings and products of lists put together, and of lists turned round.
use Rattle.std.proofs.Common.{◌≡◌, ℕ, zero, suc, ◌+◌, ◌*◌, List, [], ◌∷◌, ◌++◌, length, reverse, sym, refl, ap, ◌∙◌, append-nil, arith}
use Rattle.std.specs.List.{All}
use Rattle.std.proofs.lemmas.List.Elements.{All-head, All-tail}
use Rattle.std.proofs.lemmas.List.{map-append, reverse-append}
use Rattle.fst_semiring.specs.declared.arc_type.ArcType.{ArcType}
use Rattle.fst_semiring.specs.Semiring.{one_of, times, IsCost, Within}
use Rattle.fst_semiring.proofs.Laws.{times_assoc, times_comm, one_times, times_one}
use Rattle.fst_semiring.proofs.OfKind.{IsCost-one, IsCost-times}
use Rattle.fst_semiring.proofs.Ranges.{Within-one, Within-more, Within-times}
use Rattle.fst_machine.specs.Letters.{Letter, before, input, output, label_word, product}
use Rattle.fst_machine.specs.Paths.{Transition, letters}

-- a label before a string that goes on
pub before-append : (n : ℕ) (xs ys : List ℕ) → before n (xs ++ ys) ≡ before n xs ++ ys
before-append zero xs ys = refl
before-append (suc n) xs ys = refl

-- a label before a string is the string of that label, and then the string
pub before-is : (n : ℕ) (xs : List ℕ) → before n xs ≡ before n [] ++ xs
before-is n xs = before-append n [] xs

-- the input string of two lists together
pub input-append : (ls ms : List Letter) → input (ls ++ ms) ≡ input ls ++ input ms
input-append [] ms = refl
input-append (l ∷ ls) ms = ap (before l.ilabel) (input-append ls ms) ∙ before-append l.ilabel (input ls) (input ms)

-- the output string likewise
pub output-append : (ls ms : List Letter) → output (ls ++ ms) ≡ output ls ++ output ms
output-append [] ms = refl
output-append (l ∷ ls) ms = ap (before l.olabel) (output-append ls ms) ∙ before-append l.olabel (output ls) (output ms)

-- the label word likewise
pub label_word-append : (ls ms : List Letter) → label_word (ls ++ ms) ≡ label_word ls ++ label_word ms
label_word-append ls ms = map-append (λ (l : Letter). l.ilabel) ls ms

-- the product of two lists together
pub product-append : (kind : ArcType) (ls ms : List Letter) → product kind (ls ++ ms) ≡ times kind (product kind ls) (product kind ms)
product-append kind [] ms = sym (one_times kind (product kind ms))
product-append kind (l ∷ ls) ms = ap (times kind l.weight) (product-append kind ls ms) ∙ sym (times_assoc kind l.weight (product kind ls) (product kind ms))

-- the letters of two paths together
pub letters-append : {N : Type 0} (path rest : List (Transition N)) → letters (path ++ rest) ≡ letters path ++ letters rest
letters-append [] rest = refl
letters-append (t ∷ path) rest = ap (λ ls. record { ilabel = t.arc.ilabel; olabel = t.arc.olabel; weight = t.arc.weight } ∷ ls) (letters-append path rest)

-- a label before a string, turned round, is behind it
before-turned : (n : ℕ) (xs : List ℕ) → reverse (before n xs) ≡ reverse xs ++ before n []
before-turned zero xs = sym (append-nil (reverse xs))
before-turned (suc n) xs = reverse-append (suc n ∷ []) xs

-- the input string of a list turned round
pub input-turned : (ls : List Letter) → input (reverse ls) ≡ reverse (input ls)
input-turned [] = refl
input-turned (l ∷ ls) = ap input (reverse-append (l ∷ []) ls) ∙ (input-append (reverse ls) (l ∷ []) ∙ (ap (λ z. z ++ before l.ilabel []) (input-turned ls) ∙ sym (before-turned l.ilabel (input ls))))

-- the output string likewise
pub output-turned : (ls : List Letter) → output (reverse ls) ≡ reverse (output ls)
output-turned [] = refl
output-turned (l ∷ ls) = ap output (reverse-append (l ∷ []) ls) ∙ (output-append (reverse ls) (l ∷ []) ∙ (ap (λ z. z ++ before l.olabel []) (output-turned ls) ∙ sym (before-turned l.olabel (output ls))))

-- the product of a list turned round is the same
pub product-turned : (kind : ArcType) (ls : List Letter) → product kind (reverse ls) ≡ product kind ls
product-turned kind [] = refl
product-turned kind (l ∷ ls) = ap (product kind) (reverse-append (l ∷ []) ls) ∙ (product-append kind (reverse ls) (l ∷ []) ∙ (ap (λ z. times kind z (times kind l.weight (one_of kind))) (product-turned kind ls) ∙ (ap (λ z. times kind (product kind ls) z) (times_one kind l.weight) ∙ times_comm kind (product kind ls) l.weight)))

-- the product of values of the arc type is one
pub IsCost-product : (kind : ArcType) (ls : List Letter) → All (λ l. IsCost kind l.weight) ls → IsCost kind (product kind ls)
IsCost-product kind [] h = IsCost-one kind
IsCost-product kind (l ∷ ls) h = IsCost-times kind l.weight (product kind ls) (All-head (λ m. IsCost kind m.weight) l ls h) (IsCost-product kind ls (All-tail (λ m. IsCost kind m.weight) l ls h))

-- the numbers of a product are within as many times the bound of its factors as there are factors
pub Within-product : (kind : ArcType) (n : ℕ) (ls : List Letter) → All (λ l. Within n l.weight) ls → Within (length ls * n) (product kind ls)
Within-product kind n [] h = Within-one (length {A = Letter} [] * n) kind
Within-product kind n (l ∷ ls) h =
    Within-more (n + length ls * n) (length (l ∷ ls) * n) (times kind l.weight (product kind ls)) (omega arith)
    (Within-times kind n (length ls * n) l.weight (product kind ls) (All-head (λ m. Within n m.weight) l ls h) (Within-product kind n ls (All-tail (λ m. Within n m.weight) l ls h)))
