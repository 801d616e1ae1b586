-- Graphs from which epsilon arcs are removed. (Mohri 2002, "Generic epsilon-removal": each name gets the arcs that stand
-- behind paths of epsilon arcs, with the best product of such a path before them.)
use Rattle.std.specs.Prelude.{◌≡◌, ◌⊎◌, ℕ, Some, slice_get}
use Rattle.fst_semiring.specs.Cost.{Cost, infinite}
use Rattle.fst_semiring.specs.declared.arc_type.ArcType.{ArcType}
use Rattle.fst_semiring.specs.Semiring.{times}
use Rattle.fst_machine.specs.Machine.{Arc}
use Rattle.fst_machine.specs.Graph.{Graph}
use Rattle.fst_machine.specs.Distance.{EpsilonArc, Reaches}
use Rattle.fst_search.specs.Hops.{NoWorse}

-- both have the same labels and lead to the same name
pub record StandsFor {N : Type 0} (a b : Arc Cost N) : Type 0 where
  pub ilabel : b.ilabel ≡ a.ilabel
  pub olabel : b.olabel ≡ a.olabel
  pub next : b.next ≡ a.next

-- An arc that stands behind a path of epsilon arcs from n, with the product of that path before its weight.
pub record IsBehind {N : Type 0} (kind : ArcType) (g : Graph N) (n : N) (b : Arc Cost N) : Type 0 where
  pub state : N
  pub cost : Cost
  pub place : ℕ
  pub arc : Arc Cost N
  pub silent : Reaches kind g EpsilonArc n state cost
  pub there : slice_get (g.arcs state) place ≡ Some arc
  pub stands : StandsFor arc b
  pub weight : b.weight ≡ times kind cost arc.weight
  pub speaks : EpsilonArc b → ⊥

-- Names of the domain, which has the start and which arcs do not leave, have in h such arcs alone, and for each arc of g
-- that is not epsilon behind a path of epsilon arcs one that is no worse; final weights likewise.
pub record Removes {N : Type 0} (kind : ArcType) (g h : Graph N) (Domain : N → Type 0) : Type 0 where
  pub start : h.start ≡ g.start
  pub begins : (n : N) → g.start ≡ Some n → Domain n
  pub within : (n : N) (k : ℕ) (a : Arc Cost N) → Domain n → slice_get (g.arcs n) k ≡ Some a → Domain a.next
  pub solid : (n : N) (k : ℕ) (a : Arc Cost N) → slice_get (g.arcs n) k ≡ Some a → a.weight ≡ infinite → ⊥
  pub from : (n : N) (k : ℕ) (b : Arc Cost N) → Domain n → slice_get (h.arcs n) k ≡ Some b → IsBehind kind g n b
  pub each : (n p : N) (c : Cost) (j : ℕ) (a : Arc Cost N) → Domain n → Reaches kind g EpsilonArc n p c → slice_get (g.arcs p) j ≡ Some a
      → (EpsilonArc a → ⊥) → (k : ℕ) × (b : Arc Cost N) × (slice_get (h.arcs n) k ≡ Some b) × StandsFor a b × NoWorse b.weight (times kind c a.weight)
  pub ends : (n : N) → Domain n → (h.final n ≡ infinite) ⊎ ((p : N) × (c : Cost) × Reaches kind g EpsilonArc n p c × (h.final n ≡ times kind c (g.final p)))
  pub finals : (n p : N) (c : Cost) → Domain n → Reaches kind g EpsilonArc n p c → NoWorse (h.final n) (times kind c (g.final p))
