-- The weighted relation of a graph, and the weight of a pair of strings. (Mohri 2009, section 3.1: the
-- weight that a transducer associates to a pair of strings is the sum of the weights of its successful
-- paths; by the path property of the semiring it is the weight of a best one.)
use Rattle.std.specs.Prelude.{◌≡◌, ℕ, List, Some}
use Rattle.fst_semiring.specs.Cost.{Cost, infinite, plus}
use Rattle.fst_semiring.specs.declared.arc_type.ArcType.{ArcType}
use Rattle.fst_semiring.specs.Semiring.{times}
use Rattle.fst_machine.specs.Graph.{Graph}
use Rattle.fst_machine.specs.Letters.{input, output, product}
use Rattle.fst_machine.specs.Paths.{Transition, IsPath, letters}

module _ {N : Type 0} (kind : ArcType) (g : Graph N) where
  -- A successful path with weight w: it leads from the start to a final name, and its weight is its product
  -- Times the final weight.
  pub record IsSuccessful (path : List (Transition N)) (w : Cost) : Type 0 where
    pub first : N
    pub last : N
    pub starts : g.start ≡ Some first
    pub leads : IsPath g first path last
    pub final : g.final last ≡ infinite → ⊥
    pub weight : w ≡ times kind (product kind (letters path)) (g.final last)

  -- Some path from p to a final name has these strings and, with the final weight, this weight.
  pub record RelFrom (p : N) (x y : List ℕ) (w : Cost) : Type 0 where
    pub path : List (Transition N)
    pub last : N
    pub leads : IsPath g p path last
    pub final : g.final last ≡ infinite → ⊥
    pub reads : x ≡ input (letters path)
    pub writes : y ≡ output (letters path)
    pub weight : w ≡ times kind (product kind (letters path)) (g.final last)

  -- The relation of the graph: some successful path has these strings and this weight.
  pub record Rel (x y : List ℕ) (w : Cost) : Type 0 where
    pub first : N
    pub starts : g.start ≡ Some first
    pub says : RelFrom first x y w

  -- The pair has weight w: it is reached, and no successful path of the pair is better.
  pub record IsWeight (x y : List ℕ) (w : Cost) : Type 0 where
    pub reached : Rel x y w
    pub least : (v : Cost) → Rel x y v → plus w v ≡ w
