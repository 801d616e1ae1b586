-- Shortest distances. (Mohri 2009, section 3.3, shortest distance: the sum of the weights of all paths from
-- one state to another, here the product of a best one.)
use Rattle.std.specs.Prelude.{◌≡◌, ◌⊎◌, List, [], ◌∷◌}
use Rattle.fst_semiring.specs.Cost.{Cost, infinite, plus}
use Rattle.fst_semiring.specs.declared.arc_type.ArcType.{ArcType}
use Rattle.fst_semiring.specs.Semiring.{times}
use Rattle.fst_machine.specs.Machine.{Arc}
use Rattle.fst_machine.specs.Graph.{Graph}
use Rattle.fst_machine.specs.Letters.{product}
use Rattle.fst_machine.specs.Paths.{Transition, IsPath, letters}

-- each arc of the path is of this class
abbrev pub AllArcs : {N : Type 0} → (Arc Cost N → Type 0) → List (Transition N) → Type 0
AllArcs Class [] = Unit {0}
AllArcs Class (t ∷ path) = Class t.arc × AllArcs Class path

-- the least of the values that a property allows: Zero where it allows none, else one that it allows and
-- that none of them betters
abbrev pub IsLeast : (Cost → Type 0) → Cost → Type 0
IsLeast Reached d = (((v : Cost) → Reached v → ⊥) × (d ≡ infinite)) ⊎ (Reached d × ((v : Cost) → Reached v → plus d v ≡ d))

module _ {N : Type 0} (kind : ArcType) (g : Graph N) (Class : Arc Cost N → Type 0) where
  -- Some path of arcs of the class from p to q has this product.
  pub record Reaches (p q : N) (w : Cost) : Type 0 where
    pub path : List (Transition N)
    pub leads : IsPath g p path q
    pub class : AllArcs Class path
    pub weight : w ≡ product kind (letters path)

  -- the distance from p to q over the arcs of the class
  abbrev pub IsDistance : N → N → Cost → Type 0
  IsDistance p q d = IsLeast (Reaches p q) d

-- every arc
abbrev pub AnyArc : {N : Type 0} → Arc Cost N → Type 0
AnyArc a = Unit {0}

-- an arc that reads and writes nothing
abbrev pub EpsilonArc : {N : Type 0} → Arc Cost N → Type 0
EpsilonArc a = (a.ilabel ≡ 0) × (a.olabel ≡ 0)

-- Some path from p to a final name has this product Times the final weight.
pub record Finishes {N : Type 0} (kind : ArcType) (g : Graph N) (p : N) (w : Cost) : Type 0 where
  pub last : N
  pub path : List (Transition N)
  pub leads : IsPath g p path last
  pub final : g.final last ≡ infinite → ⊥
  pub weight : w ≡ times kind (product kind (letters path)) (g.final last)

-- the distance from p to the final names
abbrev pub IsFinalDistance : {N : Type 0} → ArcType → Graph N → N → Cost → Type 0
IsFinalDistance kind g p d = IsLeast (Finishes kind g p) d
