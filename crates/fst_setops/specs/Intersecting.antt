-- What an intersection gives. (Mohri 2009, section 4.1: the intersection of acceptors is their composition.)
use Rattle.std.specs.Prelude.{◌≡◌, ℕ, List, Some, slice_get}
use Rattle.fst_semiring.specs.Cost.{Cost}
use Rattle.fst_semiring.specs.Semiring.{times}
use Rattle.fst_semiring.specs.declared.arc_type.ArcType.{ArcType}
use Rattle.fst_machine.specs.Graph.{Graph}
use Rattle.fst_machine.specs.Machine.{Arc}
use Rattle.fst_machine.specs.Relation.{Rel}

-- both labels of each arc are the same
abbrev pub Accepts : {N : Type 0} → Graph N → Type 0
Accepts {N} g = (p : N) (k : ℕ) (a : Arc Cost N) → slice_get (g.arcs p) k ≡ Some a → a.ilabel ≡ a.olabel

-- Both have the string, and the weight is the product of their weights.
pub record Intersects {N M : Type 0} (kind : ArcType) (a : Graph N) (b : Graph M) (x z : List ℕ) (w : Cost) : Type 0 where
  pub same : x ≡ z
  pub first_weight : Cost
  pub second_weight : Cost
  pub first : Rel kind a x x first_weight
  pub second : Rel kind b x x second_weight
  pub weight : w ≡ times kind first_weight second_weight
