-- `prune`: what good paths meet. (OpenFst manual, "Prune".)
use Rattle.std.specs.Prelude.{◌≡◌, ℕ, List, Option, Some, None, codes}
use Rattle.fst_semiring.specs.declared.arc_type.ArcType.{ArcType}
use Rattle.fst_semiring.specs.Cost.{Cost, infinite}
use Rattle.fst_semiring.specs.WeightText.{cost_of_text}
use Rattle.fst_machine.specs.Cycles.{IsImprovingCycle, IsUseful}
use Rattle.fst_machine.specs.Graph.{graph_of}
use Rattle.fst_machine.specs.Machine.{Machine}
use Rattle.fst_machine.specs.Paths.{Transition}
use Rattle.fst_select.specs.Pruned.{IsPruned, PrunedLaws}
use Rattle.fst_words.specs.declared.options.Options.{Options}
use Rattle.fst_verbs.specs.Causes.{unmade}
use Rattle.fst_verbs.specs.Meaning.{IsMachine, Meaning, for_one}
use Rattle.fst_verbs.specs.declared.commands.pruning.Unpruned.{Unpruned}
use Rattle.fst_verbs.specs.declared.commands.pruning.Unpruned.TheVariants.{BadThreshold, ImprovingCycle}

-- the threshold: Zero, or what the text of the option stands for in the arc type of the machine
abbrev pub threshold_of : ArcType → Option (List ℕ) → Option Cost
threshold_of kind None = Some infinite
threshold_of kind (Some text) = cost_of_text kind text

-- r is m pruned by this threshold: each good path stays, and each arc is on one
pub record Prunes (threshold : Option Cost) (kind : ArcType) (m r : Machine Cost) : Type 0 where
  pub factor : Cost
  pub stands : threshold ≡ Some factor
  pub pruned : IsPruned kind factor m r
  pub laws : PrunedLaws kind factor m r pruned

-- a cycle on states of successful paths is better than One, so that there is no best path
abbrev pub HasNoBest : ArcType → Machine Cost → Type 0
HasNoBest kind m = (p : ℕ) × (cycle : List (Transition ℕ)) × IsUseful (graph_of m) p × IsImprovingCycle (graph_of m) kind p cycle

-- what stands against it; the threshold is asked first
abbrev pub IsUnpruned : Option Cost → ArcType → Machine Cost → Unpruned → Type 0
IsUnpruned threshold kind m BadThreshold = threshold ≡ None
IsUnpruned threshold kind m ImprovingCycle = (threshold ≡ None → ⊥) × HasNoBest kind m

abbrev pub prune_text : Unpruned → List ℕ
prune_text BadThreshold = codes "bad threshold"
prune_text ImprovingCycle = codes "improving cycle"

-- the queue that an option names changes the time alone
abbrev pub prune_meaning : Options → Meaning
prune_meaning o = record {
  stops = λ given fault. for_one given.machines (λ m.
      (why : Unpruned) × IsUnpruned (threshold_of given.kind o.weight) given.kind m why × (fault ≡ unmade (prune_text why)));
  makes = λ given made. for_one given.machines (λ m. IsMachine given.kind (λ r. Prunes (threshold_of given.kind o.weight) given.kind m r) made);
}
