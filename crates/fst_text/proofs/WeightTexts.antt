-- Printed weights are fields.
use Rattle.std.proofs.Common.{◌≡◌, ℕ, Bool, true, false, List, [], ◌∷◌, ◌++◌, arith, lit≤, nat_lt}
use Rattle.std.specs.Prelude.{codes, ◌&&◌}
use Rattle.std.specs.Fmt.{signed_decimal}
use Rattle.std.specs.List.{AllByRecursion, list_all}
use Rattle.std.specs.Ordering.{is_eq}
use Rattle.std.proofs.Common.{Ordering, Less, Equal, Greater, refl}
use Rattle.std.proofs.lemmas.Bool.Decides.{nat_tests}
use Rattle.fst_semiring.specs.declared.arc_type.ArcType.{ArcType}
use Rattle.fst_semiring.specs.declared.arc_type.ArcType.TheVariants.{Boolean, Tropical, MinMax, Lexicographic}
use Rattle.fst_semiring.specs.Cost.{Cost, best, finite, infinite, cost_cmp}
use Rattle.fst_semiring.specs.Semiring.{InRange, IsCost, one_of}
use Rattle.fst_semiring.specs.WeightText.{text_of_cost}
use Rattle.fst_semiring.proofs.Numbers.{IsNumber, IsSign, number-text}
use Rattle.fst_semiring.proofs.Order.{cost_cmp_equal}
use Rattle.fst_text.specs.Printed.{is_one}
use Rattle.fst_text.proofs.TextLines.{IsDark, IsField}

dark : (cs : List ℕ) → AllByRecursion IsSign cs → AllByRecursion IsDark cs
dark [] h = tt
dark (c ∷ cs) h = (let d = h.0.0 in omega arith, dark cs h.1)

number-field : (t : List ℕ) → IsNumber t → IsField t
number-field [] h = absurd h
number-field (c ∷ cs) h = (let d = h.0.0 in omega arith, dark cs h.1)

field-append : (x y : List ℕ) → IsField x → AllByRecursion IsDark y → IsField (x ++ y)
field-append [] y h g = absurd h
field-append (c ∷ x) y h g = (h.0, all x h.1) where
  all : (x : List ℕ) → AllByRecursion IsDark x → AllByRecursion IsDark (x ++ y)
  all [] h = g
  all (d ∷ x) h = (h.0, all x h.1)

dark-field : (x : List ℕ) → IsField x → AllByRecursion IsDark x
dark-field [] h = absurd h
dark-field (c ∷ x) h = h

-- such bytes by a test
dark-all : (cs : List ℕ) → list_all (λ c. nat_lt 32 c) cs ≡ true → AllByRecursion IsDark cs
dark-all [] h = tt
dark-all (c ∷ cs) h = go (nat_lt 32 c) refl h (dark-all cs) where
  go : (test : Bool) → nat_lt 32 c ≡ test → (test && list_all (λ c. nat_lt 32 c) cs) ≡ true → (list_all (λ c. nat_lt 32 c) cs ≡ true → AllByRecursion IsDark cs) → IsDark c × AllByRecursion IsDark cs
  go true e f more = (grind (arith, nat_tests), more f)
  go false e f more = absurd (cc)

-- it is one field
pub weight-field : (kind : ArcType) (v : Cost) → IsCost kind v → InRange v → IsField (text_of_cost kind v)
weight-field Boolean infinite k r = (lit≤ tt, tt)
weight-field Boolean best k r = absurd k
weight-field Boolean (finite a b) k r = (lit≤ tt, tt)
weight-field Tropical infinite k r = (lit≤ tt, dark-all (codes "nfinity") refl)
weight-field Tropical best k r = absurd k
weight-field Tropical (finite a b) k r = number-field (signed_decimal a) (number-text a r.0)
weight-field MinMax infinite k r = (lit≤ tt, dark-all (codes "nfinity") refl)
weight-field MinMax best k r = (lit≤ tt, dark-all (codes "Infinity") refl)
weight-field MinMax (finite a b) k r = number-field (signed_decimal a) (number-text a r.0)
weight-field Lexicographic infinite k r = (lit≤ tt, dark-all (codes "nfinity,Infinity") refl)
weight-field Lexicographic best k r = absurd k
weight-field Lexicographic (finite a b) k r =
    let x = signed_decimal a in
    let y = signed_decimal b in
    let first : IsField (x ++ 44 ∷ []) = field-append x (44 ∷ []) (number-field x (number-text a r.0)) (lit≤ tt, tt) in
    field-append (x ++ 44 ∷ []) y first (dark-field y (number-field y (number-text b r.1)))

tie : (o : Ordering) → is_eq o ≡ true → o ≡ Equal
tie Less e = absurd (cc)
tie Equal e = refl
tie Greater e = absurd (cc)

-- a weight that is left out is One
pub one-is : (kind : ArcType) (v : Cost) → is_one kind v ≡ true → v ≡ one_of kind
one-is kind v e = cost_cmp_equal v (one_of kind) (tie (cost_cmp v (one_of kind)) e)
