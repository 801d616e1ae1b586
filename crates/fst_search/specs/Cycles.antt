-- The cycle that a search lists.
use Rattle.std.specs.Prelude.{◌≡◌, ℕ, List, [], ◌∷◌, Option, None, Some, map, reverse}
use Rattle.fst_semiring.specs.Cost.{Cost}
use Rattle.fst_semiring.specs.declared.arc_type.ArcType.{ArcType}
use Rattle.fst_semiring.specs.Semiring.{one_of}
use Rattle.fst_machine.specs.declared.path.Step.{Step}
use Rattle.fst_search.specs.declared.direction.Direction.{Direction}
use Rattle.fst_search.specs.declared.direction.Direction.TheVariants.{FromStart, ToFinals}
use Rattle.fst_search.specs.Hops.{Hop, Arrives, Better, IsBack, hops_product}
use Rattle.fst_search.specs.Searching.{Ended, Node}

-- The step of a machine that a hop is: along the arc from its beginning, or back along the arc from its end.
abbrev pub hop_step : Direction → Hop → Step
hop_step FromStart h = record { state = h.from; place = h.place }
hop_step ToFinals h = record { state = h.to; place = h.place }

-- the same of what is kept at a state
abbrev pub link_step : Direction → ℕ → Step → Step
link_step FromStart q s = s
link_step ToFinals q s = record { state = q; place = s.place }

-- the steps of a trail from q
abbrev pub told : Direction → ℕ → List Step → List Step
told direction q [] = []
told direction q (s ∷ trail) = link_step direction q s ∷ told direction s.state trail

-- hops are told from their end: from the start their steps are turned round
abbrev pub in_order : Direction → List Step → List Step
in_order FromStart steps = reverse steps
in_order ToFinals steps = steps

-- These steps are those of hops from a state with a value back to that state, which are better than One.
pub record IsFound (kind : ArcType) (Goes : Hop → Type 0) (source : ℕ → Cost) (direction : Direction) (steps : List Step) : Type 0 where
  pub state : ℕ
  pub first : Hop
  pub rest : List Hop
  pub distance : Cost
  pub leads : IsBack Goes state (first ∷ rest) state
  pub arrives : Arrives kind Goes source state distance
  pub better : Better (hops_product kind (first ∷ rest)) (one_of kind)
  pub same : steps ≡ in_order direction (map (hop_step direction) (first ∷ rest))

-- what a search answers, with the cycle told
abbrev pub Solves : ArcType → (Hop → Type 0) → (ℕ → Cost) → Direction → ℕ → ℕ → List (Node Cost) → List ℕ → List ℕ → Option (List Step) → Type 0
Solves kind Goes source direction n bound nodes members met None = (members ≡ []) × Ended kind Goes source n bound nodes met
Solves kind Goes source direction n bound nodes members met (Some steps) = IsFound kind Goes source direction steps
