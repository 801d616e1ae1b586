-- What the operations relate. (Mohri 2009, section 3.1: the rational operations on weighted relations,
-- inversion, projection and reversal. A relation is the set of its triples: two strings and a weight.)
use Rattle.std.specs.Prelude.{◌≡◌, ◌⊎◌, ◌↔◌, ℕ, Bool, true, false, List, [], ◌∷◌, ◌++◌, reverse}
use Rattle.fst_semiring.specs.Cost.{Cost}
use Rattle.fst_semiring.specs.declared.arc_type.ArcType.{ArcType}
use Rattle.fst_semiring.specs.Semiring.{one_of, times}
use Rattle.fst_machine.specs.Machine.{Machine}
use Rattle.fst_machine.specs.Graph.{graph_of}
use Rattle.fst_machine.specs.Relation.{Rel}
use Rattle.fst_rational.specs.Labels.{Pair, replaced}

-- the triples of a machine
abbrev pub Triple : ArcType → Machine Cost → List ℕ → List ℕ → Cost → Type 0
Triple kind m x y w = Rel kind (graph_of m) x y w

-- inversion: the strings are swapped
abbrev pub Inverts : ArcType → Machine Cost → Machine Cost → Type 0
Inverts kind a m = (x y : List ℕ) (w : Cost) → Triple kind m x y w ↔ Triple kind a y x w

-- projection: one string of a triple stands on both sides
abbrev pub Projects : ArcType → Bool → Machine Cost → Machine Cost → Type 0
Projects kind false a m = (x y : List ℕ) (w : Cost) → Triple kind m x y w ↔ ((z : List ℕ) × Triple kind a x z w × (y ≡ x))
Projects kind true a m = (x y : List ℕ) (w : Cost) → Triple kind m x y w ↔ ((z : List ℕ) × Triple kind a z x w × (y ≡ x))

-- relabelling: the old labels of each string are replaced, and what became epsilon is dropped
abbrev pub Relabels : ArcType → List Pair → List Pair → Machine Cost → Machine Cost → Type 0
Relabels kind reads writes a m = (x y : List ℕ) (w : Cost)
    → Triple kind m x y w ↔ ((u v : List ℕ) × Triple kind a u v w × (x ≡ replaced reads u) × (y ≡ replaced writes v))

-- union: the triples of both
abbrev pub Unites : ArcType → Machine Cost → Machine Cost → Machine Cost → Type 0
Unites kind a b m = (x y : List ℕ) (w : Cost) → Triple kind m x y w ↔ (Triple kind a x y w ⊎ Triple kind b x y w)

-- A triple is the product of a triple of a and a triple of b: the strings one after the other, and the product
-- of the weights.
pub record IsProduct (kind : ArcType) (a b : List ℕ → List ℕ → Cost → Type 0) (x y : List ℕ) (w : Cost) : Type 0 where
  pub input_front : List ℕ
  pub input_back : List ℕ
  pub output_front : List ℕ
  pub output_back : List ℕ
  pub weight_front : Cost
  pub weight_back : Cost
  pub front : a input_front output_front weight_front
  pub back : b input_back output_back weight_back
  pub reads : x ≡ input_front ++ input_back
  pub writes : y ≡ output_front ++ output_back
  pub weight : w ≡ times kind weight_front weight_back

-- concatenation: the products of the triples of both
abbrev pub Concatenates : ArcType → Machine Cost → Machine Cost → Machine Cost → Type 0
Concatenates kind a b m = (x y : List ℕ) (w : Cost) → Triple kind m x y w ↔ IsProduct kind (Triple kind a) (Triple kind b) x y w

-- two strings and a weight
pub record Said : Type 0 where
  pub input : List ℕ
  pub output : List ℕ
  pub weight : Cost

-- A triple is the product of these, each a triple of a; of none it is the empty strings and One.
abbrev pub IsProductOf : ArcType → Machine Cost → List Said → List ℕ → List ℕ → Cost → Type 0
IsProductOf kind a [] x y w = (x ≡ []) × (y ≡ []) × (w ≡ one_of kind)
IsProductOf kind a (t ∷ triples) x y w = IsProduct kind
    (λ u v k. (t ≡ record { input = u; output = v; weight = k }) × Triple kind a u v k) (IsProductOf kind a triples) x y w

-- the list has an element
abbrev pub IsFilled : List Said → Type 0
IsFilled [] = ⊥
IsFilled (t ∷ triples) = Unit {0}

-- star: the products of all finite lists of triples; plus: of those that are not empty
abbrev pub Closes : ArcType → Bool → Machine Cost → Machine Cost → Type 0
Closes kind false a m = (x y : List ℕ) (w : Cost) → Triple kind m x y w ↔ ((triples : List Said) × IsProductOf kind a triples x y w)
Closes kind true a m = (x y : List ℕ) (w : Cost) → Triple kind m x y w ↔ ((triples : List Said) × IsFilled triples × IsProductOf kind a triples x y w)

-- reversal: both strings are turned round
abbrev pub Reverses : ArcType → Machine Cost → Machine Cost → Type 0
Reverses kind a m = (x y : List ℕ) (w : Cost) → Triple kind m x y w ↔ Triple kind a (reverse x) (reverse y) w
