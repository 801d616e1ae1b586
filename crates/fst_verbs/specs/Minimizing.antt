-- `minimize`: the minimal machine of a deterministic acceptor, by the classes of states that behave the same. (OpenFst
-- manual, "Minimize"; Mohri 2009, section 3.4.)
use Rattle.std.specs.Prelude.{◌≡◌, ◌≢◌, true}
use Rattle.fst_semiring.specs.declared.arc_type.ArcType.{ArcType}
use Rattle.fst_semiring.specs.Cost.{Cost}
use Rattle.fst_semiring.specs.Semiring.{cancels}
use Rattle.fst_machine.specs.Graph.{graph_of}
use Rattle.fst_machine.specs.Machine.{Machine}
use Rattle.fst_minimize.specs.Faults.{minimize_text}
use Rattle.fst_minimize.specs.Minimized.{IsMinimizeFault, IsMinimized}
use Rattle.fst_trim.specs.WordWeights.{SameWords}
use Rattle.fst_minimize.specs.Fewest.{IsMinimal}
use Rattle.fst_minimize.specs.declared.fault.MinimizeFault.{MinimizeFault}
use Rattle.fst_minimize.specs.declared.fault.MinimizeFault.TheVariants.{Memory}
use Rattle.fst_verbs.specs.Causes.{unmade}
use Rattle.fst_verbs.specs.Meaning.{IsMachine, Meaning, for_one}

-- The states of r are the classes of the pushed machine. Each word has the weight that it had, and where factors cancel
-- no deterministic machine that gives each word its weight has fewer states.
pub record Minimizes (kind : ArcType) (m r : Machine Cost) : Type 0 where
  pub minimized : IsMinimized kind m r
  pub words : SameWords kind (graph_of m) (graph_of r)
  pub minimal : cancels kind ≡ true → IsMinimal kind r

-- what stands against it
abbrev pub IsUnminimized : ArcType → Machine Cost → MinimizeFault → Type 0
IsUnminimized kind m why = (why ≢ Memory) × IsMinimizeFault kind m m why

-- the queue that an option names changes the time alone
abbrev pub minimize_meaning : Meaning
minimize_meaning = record {
  stops = λ given fault. for_one given.machines (λ m. (why : MinimizeFault) × IsUnminimized given.kind m why × (fault ≡ unmade (minimize_text why)));
  makes = λ given made. for_one given.machines (λ m. IsMachine given.kind (λ r. Minimizes given.kind m r) made);
}
