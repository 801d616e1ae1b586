-- The total weights of paths where the product is the worse of two weights, and the first paths of one total weight after
-- the other.
use Rattle.std.specs.Prelude.{◌≡◌, ◌≢◌, ◌⊎◌, ℕ, ◌≤◌, List, length, Option, Some, slice_get}
use Rattle.std.specs.declared.cmp.Ordering.{Ordering}
use Rattle.std.specs.declared.cmp.Ordering.TheVariants.{Less}
use Rattle.std.specs.Cmp.{IsTotalOrder}
use Rattle.std.proofs.lemmas.Cmp.{on_total}
use Rattle.fst_semiring.specs.Cost.{Cost, infinite, cost_cmp, cost_total, plus}
use Rattle.fst_semiring.specs.declared.arc_type.ArcType.{ArcType}
use Rattle.fst_machine.specs.BreadthFirst.{Has}
use Rattle.fst_machine.specs.Machine.{Arc}
use Rattle.fst_machine.specs.Graph.{Graph}
use Rattle.fst_machine.specs.PathOrder.{WeightedPath, Ascends, path_cmp}
use Rattle.fst_machine.specs.Relation.{IsSuccessful}

-- weights by their values
abbrev pub wide_cmp : {D : Type 0} → (D → Cost) → D → D → Ordering
wide_cmp wide a b = cost_cmp (wide a) (wide b)

pub wide_total : {D : Type 0} (wide : D → Cost) → IsTotalOrder {K = D} (wide_cmp wide)
wide_total wide = on_total wide cost_total

-- this weight may be a total, of which none is less than `least`, where this is the best ahead
abbrev pub MayTotal : Cost → Cost → Cost → Type 0
MayTotal least ahead w = (plus ahead w ≡ ahead) × (plus least w ≡ least)

-- The totals by the arcs of a name, and by stopping there, are among these.
pub record HasTotals {N : Type 0} (g : Graph N) (dist : N → Cost) (least : Cost) (p : N) (totals : List Cost) : Type 0 where
  pub final : (dist p ≡ infinite → ⊥) → (g.final p ≡ infinite → ⊥) → plus least (g.final p) ≡ least → Has totals (g.final p)
  pub arcs : (k : ℕ) (a : Arc Cost N) → slice_get (g.arcs p) k ≡ Some a → (dist p ≡ infinite → ⊥) → MayTotal least (dist a.next) a.weight → Has totals a.weight

-- one list has what the other has
abbrev pub Keeps : List Cost → List Cost → Type 0
Keeps old new = (v : Cost) → Has old v → Has new v

module _ {N : Type 0} (kind : ArcType) (g : Graph N) where
  -- The first paths of one total weight.
  pub record AreFirstOf (total : Cost) (n : ℕ) (paths : List (WeightedPath N)) : Type 0 where
    pub few : length paths ≤ n
    pub ascends : Ascends paths
    pub successful : (a : WeightedPath N) → Has paths a → IsSuccessful kind g a.path a.weight × (a.weight ≡ total)
    pub others : (b : WeightedPath N) → IsSuccessful kind g b.path b.weight → b.weight ≡ total
        → Has paths b ⊎ ((length paths ≡ n) × ((a : WeightedPath N) → Has paths a → path_cmp a b ≡ Less))

  -- The first paths as far as this total, which is the last that was looked at; all others are of later totals.
  pub record AreFirstSoFar (n : ℕ) (last : Option Cost) (totals : List Cost) (paths : List (WeightedPath N)) : Type 0 where
    pub few : length paths ≤ n
    pub ascends : Ascends paths
    pub successful : (a : WeightedPath N) → Has paths a → IsSuccessful kind g a.path a.weight
    pub before : (a : WeightedPath N) → Has paths a → (t : Cost) × (last ≡ Some t) × (plus a.weight t ≡ a.weight)
    pub later : (t w : Cost) → last ≡ Some t → Has totals w → plus t w ≡ t
    pub others : (b : WeightedPath N) → IsSuccessful kind g b.path b.weight
        → Has paths b ⊎ (((length paths ≡ n) × ((a : WeightedPath N) → Has paths a → path_cmp a b ≡ Less)) ⊎ (Has totals b.weight × (last ≢ Some b.weight)))
