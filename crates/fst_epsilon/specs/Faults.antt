-- What is said of a machine whose epsilon arcs are not removed: why.
use Rattle.std.specs.Prelude.{ℕ, List, [], ◌∷◌, codes}
use Rattle.std.specs.Fmt.{decimal}
use Rattle.std.specs.List.{concat}
use Rattle.fst_epsilon.specs.declared.fault.EpsilonFault.{EpsilonFault}
use Rattle.fst_epsilon.specs.declared.fault.EpsilonFault.TheVariants.{ImprovingCycle, TooManyArcs, Overflow, Memory}

abbrev pub epsilon_text : EpsilonFault → List ℕ
epsilon_text (ImprovingCycle cycle) = codes "improving cycle"
epsilon_text TooManyArcs = codes "too many arcs"
epsilon_text (Overflow state) = concat (codes "number too large at state " ∷ decimal state ∷ [])
epsilon_text Memory = codes "out of memory"
