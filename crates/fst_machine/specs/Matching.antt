-- Matching pairs of paths. (Mohri 2009, section 4.1, composition: a path of the one and a path of the other,
-- where the one writes what the other reads.)
use Rattle.std.specs.Prelude.{◌≡◌, ℕ, List}
use Rattle.fst_semiring.specs.Cost.{Cost}
use Rattle.fst_semiring.specs.declared.arc_type.ArcType.{ArcType}
use Rattle.fst_semiring.specs.Semiring.{times}
use Rattle.fst_machine.specs.Graph.{Graph}
use Rattle.fst_machine.specs.Letters.{input, output}
use Rattle.fst_machine.specs.Paths.{Transition, letters}
use Rattle.fst_machine.specs.Relation.{IsSuccessful}

-- Two successful paths, of which the first writes what the second reads, with their triple: what the first
-- reads, what the second writes, and the product of their weights.
pub record IsMatchingPair {N M : Type 0} (kind : ArcType) (a : Graph N) (b : Graph M) (one : List (Transition N)) (two : List (Transition M))
    (x z : List ℕ) (w : Cost) : Type 0 where
  pub first_weight : Cost
  pub second_weight : Cost
  pub first : IsSuccessful kind a one first_weight
  pub second : IsSuccessful kind b two second_weight
  pub matches : output (letters one) ≡ input (letters two)
  pub reads : x ≡ input (letters one)
  pub writes : z ≡ output (letters two)
  pub weight : w ≡ times kind first_weight second_weight
