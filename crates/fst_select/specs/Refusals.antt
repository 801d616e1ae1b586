-- Why a machine is not pruned.
use Rattle.std.specs.Prelude.{List}
use Rattle.fst_machine.specs.declared.path.Step.{Step}
use Rattle.fst_select.specs.declared.fault.PruneFault.{PruneFault}
use Rattle.fst_select.specs.declared.fault.PruneFault.TheVariants.{ImprovingCycle, Memory}

-- what is asked of the cycle that a fault lists
abbrev pub IfImproves : PruneFault → (List Step → Type 0) → Type 0
IfImproves (ImprovingCycle cycle) P = P cycle
IfImproves Memory P = Unit {0}
