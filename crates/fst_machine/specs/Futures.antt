-- What a name says, one arc at a time: its relation is its final weight and its arcs, each before what its
-- end says. (Mohri 2009, section 3.1.)
use Rattle.std.specs.Prelude.{◌≡◌, ℕ, List, [], Some, slice_get}
use Rattle.fst_semiring.specs.Cost.{Cost, infinite}
use Rattle.fst_semiring.specs.declared.arc_type.ArcType.{ArcType}
use Rattle.fst_semiring.specs.Semiring.{times}
use Rattle.fst_machine.specs.Machine.{Arc}
use Rattle.fst_machine.specs.Graph.{Graph}
use Rattle.fst_machine.specs.Letters.{before}
use Rattle.fst_machine.specs.Relation.{RelFrom}

module _ {N : Type 0} (kind : ArcType) (g : Graph N) where
  -- p is final, and says the empty strings with its final weight.
  pub record SaysEnd (p : N) (x y : List ℕ) (w : Cost) : Type 0 where
    pub final : g.final p ≡ infinite → ⊥
    pub reads : x ≡ []
    pub writes : y ≡ []
    pub weight : w ≡ g.final p

  -- An arc of p leads to a name that says the rest.
  pub record SaysArc (p : N) (x y : List ℕ) (w : Cost) : Type 0 where
    pub place : ℕ
    pub arc : Arc Cost N
    pub has : slice_get (g.arcs p) place ≡ Some arc
    pub input_rest : List ℕ
    pub output_rest : List ℕ
    pub weight_rest : Cost
    pub says : RelFrom kind g arc.next input_rest output_rest weight_rest
    pub reads : x ≡ before arc.ilabel input_rest
    pub writes : y ≡ before arc.olabel output_rest
    pub weight : w ≡ times kind arc.weight weight_rest
