-- The laws of behaviour, of classes and of the fewest states.
use Rattle.std.specs.Prelude.{◌≡◌, ◌≢◌, ◌↔◌, ℕ, ◌<◌, true, List, Some, IfSome, length, map, slice_get}
use Rattle.fst_semiring.specs.Cost.{Cost, infinite}
use Rattle.fst_semiring.specs.declared.arc_type.ArcType.{ArcType}
use Rattle.fst_semiring.specs.Semiring.{cancels, one_of, times, IsCost}
use Rattle.fst_machine.specs.Machine.{Arc, State, Machine}
use Rattle.fst_machine.specs.Graph.{Graph, graph_of}
use Rattle.fst_machine.specs.Relation.{RelFrom, Rel}
use Rattle.fst_machine.specs.Connected.{IsTrim}
use Rattle.fst_machine.specs.Distance.{IsFinalDistance}
use Rattle.fst_trim.specs.Weighed.{IsWeighted}
use Rattle.fst_trim.specs.WordWeights.{IsSingle}
use Rattle.fst_minimize.specs.Behaviour.{Alike, GoesOn, IsStable}
use Rattle.fst_minimize.specs.Classes.{HasClasses}
use Rattle.fst_minimize.specs.Fewest.{IsMinimal}

-- Names tied by a stable tie have the same behaviour.
abbrev pub StableLaw : {N M : Type 0} → Graph N → Graph M → (N → M → Type 0) → Type 0
StableLaw {N} {M} g h R = IsStable g h R → (p : N) (q : M) → R p q → Alike g h p q

-- Where arcs of a name have different labels and lead to names that go on, equal behaviour is itself a stable tie;
-- and names with equal behaviour relate the same.
pub record BehaviourLaws {N M : Type 0} (kind : ArcType) (g : Graph N) (h : Graph M) : Type 0 where
  pub stable : IsSingle g → IsSingle h → GoesOn g → GoesOn h → IsStable g h (Alike g h)
  pub says : (p : N) (q : M) → Alike g h p q → (x y : List ℕ) (w : Cost) → RelFrom kind g p x y w ↔ RelFrom kind h q x y w

-- The start and each arc lead to a state.
pub record IsClosed (m : Machine Cost) : Type 0 where
  pub start : IfSome m.start (λ s. s < length m.states)
  pub next : (p k : ℕ) (a : Arc Cost ℕ) → slice_get ((graph_of m).arcs p) k ≡ Some a → a.next < length m.states

-- A state has the behaviour of its class, and the machine of the classes relates what the machine relates.
pub record ClassLaws (kind : ArcType) (m c : Machine Cost) (classes : HasClasses m c) : Type 0 where
  pub alike : IsClosed m → IsSingle (graph_of m) → GoesOn (graph_of m) → (p i : ℕ) → slice_get classes.class p ≡ Some i
      → Alike (graph_of m) (graph_of c) p i
  pub says : IsClosed m → IsSingle (graph_of m) → GoesOn (graph_of m) → (x y : List ℕ) (w : Cost)
      → Rel kind (graph_of m) x y w ↔ Rel kind (graph_of c) x y w

-- A trim deterministic acceptor in which the distance from each state to the final states is One.
pub record IsNormal (kind : ArcType) (m : Machine Cost) : Type 0 where
  pub closed : IsClosed m
  pub trim : IsTrim m
  pub single : IsSingle (graph_of m)
  pub acceptor : (p k : ℕ) (a : Arc Cost ℕ) → slice_get ((graph_of m).arcs p) k ≡ Some a → a.olabel ≡ a.ilabel
  pub values : IsWeighted kind (graph_of m)
  pub one : (p : ℕ) → p < length m.states → IsFinalDistance kind (graph_of m) p (one_of kind)

-- the machine with each final weight multiplied by a total
abbrev pub totalled_state : ArcType → Cost → State Cost → State Cost
totalled_state kind total s = record { final = times kind total s.final; arcs = s.arcs }

abbrev pub totalled : ArcType → Cost → Machine Cost → Machine Cost
totalled kind total m = record { start = m.start; states = map (totalled_state kind total) m.states }

-- The machine of the classes of a normal one has, under any total, the fewest states of all deterministic acceptors
-- that give each word the same weight.
abbrev pub MinimalLaw : ArcType → Cost → Machine Cost → Machine Cost → Type 0
MinimalLaw kind total m c = cancels kind ≡ true → IsCost kind total → total ≢ infinite → IsNormal kind m
    → HasClasses m c → IsMinimal kind (totalled kind total c)
