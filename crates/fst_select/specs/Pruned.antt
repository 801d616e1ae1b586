-- The pruned machine: what good paths meet.
use Rattle.std.specs.Prelude.{◌≡◌, ◌⊎◌, ◌↔◌, ℕ, ◌+◌, ◌<◌, List, [], ◌∷◌, Some, length, slice_get}
use Rattle.fst_semiring.specs.Cost.{Cost, infinite}
use Rattle.fst_semiring.specs.declared.arc_type.ArcType.{ArcType}
use Rattle.fst_machine.specs.BreadthFirst.{Has}
use Rattle.fst_machine.specs.Machine.{Arc, Machine}
use Rattle.fst_machine.specs.Graph.{Graph, graph_of}
use Rattle.fst_machine.specs.Letters.{letter_of}
use Rattle.fst_machine.specs.Paths.{Transition, letters}
use Rattle.fst_machine.specs.Relation.{IsSuccessful}
use Rattle.fst_select.specs.Good.{Ends, IsBound, IsGood, Meets, Takes}

-- The new arcs are those that pass, in order, of which the first has place k, with the places of their ends in the list of
-- the kept.
abbrev pub KeptArcs : List ℕ → (ℕ → Arc Cost ℕ → Type 0) → ℕ → List (Arc Cost ℕ) → List (Arc Cost ℕ) → Type 0
KeptArcs kept Passes k [] [] = Unit {0}
KeptArcs kept Passes k [] (b ∷ new) = ⊥
KeptArcs kept Passes k (a ∷ arcs) [] = (Passes k a → ⊥) × KeptArcs kept Passes (k + 1) arcs []
KeptArcs kept Passes k (a ∷ arcs) (b ∷ new) = ((Passes k a → ⊥) × KeptArcs kept Passes (k + 1) arcs (b ∷ new))
    ⊎ (Passes k a × (slice_get kept b.next ≡ Some a.next) × (letter_of b ≡ letter_of a) × KeptArcs kept Passes (k + 1) arcs new)

abbrev pub GoodArc : ArcType → Graph ℕ → Cost → ℕ → ℕ → Arc Cost ℕ → Type 0
GoodArc kind g bound p k a = Takes kind g bound (record { state = p; place = k; arc = a })

-- c has the states that good paths of m meet, in ascending order, with the arcs on good paths; it is final where one ends.
pub record IsPruned (kind : ArcType) (threshold : Cost) (m c : Machine Cost) : Type 0 where
  pub bound : Cost
  pub is_bound : IsBound kind (graph_of m) threshold bound
  pub kept : List ℕ
  pub ascending : (i j p q : ℕ) → i < j → slice_get kept i ≡ Some p → slice_get kept j ≡ Some q → p < q
  pub meets : (p : ℕ) → Has kept p ↔ Meets kind (graph_of m) bound p
  pub states : length c.states ≡ length kept
  pub start : (i : ℕ) → (c.start ≡ Some i) ↔ ((p : ℕ) × (m.start ≡ Some p) × (slice_get kept i ≡ Some p))
  pub ends : (i p : ℕ) → slice_get kept i ≡ Some p → Ends kind (graph_of m) bound p → (graph_of c).final i ≡ (graph_of m).final p
  pub others : (i p : ℕ) → slice_get kept i ≡ Some p → (Ends kind (graph_of m) bound p → ⊥) → (graph_of c).final i ≡ infinite
  pub arcs : (i p : ℕ) → slice_get kept i ≡ Some p → KeptArcs kept (GoodArc kind (graph_of m) bound p) 0 ((graph_of m).arcs p) ((graph_of c).arcs i)

-- an arc of the pruned machine is one on a good path
pub record IsOnGood (kind : ArcType) (m : Machine Cost) (bound : Cost) (p : ℕ) (b : Arc Cost ℕ) : Type 0 where
  pub place : ℕ
  pub arc : Arc Cost ℕ
  pub there : slice_get ((graph_of m).arcs p) place ≡ Some arc
  pub good : GoodArc kind (graph_of m) bound p place arc
  pub same : letter_of b ≡ letter_of arc

pub record PrunedLaws (kind : ArcType) (threshold : Cost) (m c : Machine Cost) (is : IsPruned kind threshold m c) : Type 0 where
  pub stays : (path : List (Transition ℕ)) (w : Cost) → IsGood kind (graph_of m) is.bound path w
      → (other : List (Transition ℕ)) × IsSuccessful kind (graph_of c) other w × (letters other ≡ letters path)
  pub good : (i p k : ℕ) (b : Arc Cost ℕ) → slice_get is.kept i ≡ Some p → slice_get ((graph_of c).arcs i) k ≡ Some b → IsOnGood kind m is.bound p b
