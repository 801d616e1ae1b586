-- Good paths: the successful ones whose weight is no worse than a bound, which is the best weight Times a threshold.
-- (OpenFst manual, "Prune".)
use Rattle.std.specs.Prelude.{◌≡◌, List, ◌∷◌, ◌++◌, Some}
use Rattle.fst_semiring.specs.Cost.{Cost}
use Rattle.fst_semiring.specs.declared.arc_type.ArcType.{ArcType}
use Rattle.fst_semiring.specs.Semiring.{times}
use Rattle.fst_machine.specs.Graph.{Graph}
use Rattle.fst_machine.specs.Paths.{Transition, IsPath}
use Rattle.fst_machine.specs.Relation.{IsSuccessful}
use Rattle.fst_machine.specs.Distance.{IsLeast}
use Rattle.fst_search.specs.Hops.{NoWorse}

module _ {N : Type 0} (kind : ArcType) (g : Graph N) where
  -- some successful path has this weight
  pub record IsPathWeight (w : Cost) : Type 0 where
    pub path : List (Transition N)
    pub successful : IsSuccessful kind g path w

  -- the best weight of a successful path, Zero where there is none, Times the threshold
  pub record IsBound (threshold bound : Cost) : Type 0 where
    pub best : Cost
    pub least : IsLeast IsPathWeight best
    pub same : bound ≡ times kind best threshold

  module _ (bound : Cost) where
    -- a successful path that is no worse than the bound
    abbrev pub IsGood : List (Transition N) → Cost → Type 0
    IsGood path w = IsSuccessful kind g path w × NoWorse w bound

    -- some good path meets this name
    pub record Meets (q : N) : Type 0 where
      pub first : N
      pub front : List (Transition N)
      pub back : List (Transition N)
      pub weight : Cost
      pub starts : g.start ≡ Some first
      pub arrives : IsPath g first front q
      pub good : IsGood (front ++ back) weight

    -- some good path goes by this arc
    pub record Takes (t : Transition N) : Type 0 where
      pub front : List (Transition N)
      pub back : List (Transition N)
      pub weight : Cost
      pub good : IsGood (front ++ t ∷ back) weight

    -- some good path ends at this name
    pub record Ends (q : N) : Type 0 where
      pub first : N
      pub path : List (Transition N)
      pub weight : Cost
      pub starts : g.start ≡ Some first
      pub arrives : IsPath g first path q
      pub good : IsGood path weight
