-- The n best paths as they are written down, and why there are none.
use Rattle.std.specs.Prelude.{◌≡◌, ℕ, ◌<◌, List, [], ◌∷◌, length, map}
use Rattle.fst_semiring.specs.declared.arc_type.ArcType.{ArcType}
use Rattle.fst_machine.specs.Graph.{Graph}
use Rattle.fst_machine.specs.Paths.{places}
use Rattle.fst_machine.specs.PathOrder.{WeightedPath, IsFirst}
use Rattle.fst_machine.specs.declared.path.Step.{Step}
use Rattle.fst_nbest.specs.Chains.{arc_at}
use Rattle.fst_nbest.specs.declared.fault.NbestFault.{NbestFault}
use Rattle.fst_nbest.specs.declared.fault.NbestFault.TheVariants.{ImprovingCycle, Memory}

-- These are the first n successful paths, in order, each as the states and places of its arcs.
pub record AreFirstPaths {N : Type 0} (kind : ArcType) (g : Graph N) (n : ℕ) (walks : List (List (N × ℕ))) : Type 0 where
  pub listed : List (WeightedPath N)
  pub first : IsFirst kind g n listed
  pub written : map (λ a. places a.path) listed ≡ walks

-- what is asked of the cycle that a fault lists
abbrev pub IfImproving : NbestFault → (List Step → Type 0) → Type 0
IfImproving (ImprovingCycle cycle) P = P cycle
IfImproving Memory P = Unit {0}

-- the steps of a path from a name whose arcs have these places
abbrev pub traced : {N : Type 0} → Graph N → N → List ℕ → List (N × ℕ)
traced g q [] = []
traced g q (k ∷ word) = (q, k) ∷ traced g (arc_at g (q, k)).next word

-- each of these places is that of an arc of the name where those before it lead
abbrev pub IsTraceable : {N : Type 0} → Graph N → N → List ℕ → Type 0
IsTraceable g q [] = Unit {0}
IsTraceable g q (k ∷ word) = (k < length (g.arcs q)) × IsTraceable g (arc_at g (q, k)).next word
