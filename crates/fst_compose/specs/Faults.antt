-- What is said of machines that have no composition: why.
use Rattle.std.specs.Prelude.{ℕ, List, [], ◌∷◌, codes}
use Rattle.std.specs.Fmt.{decimal}
use Rattle.std.specs.List.{concat}
use Rattle.fst_compose.specs.declared.fault.ComposeFault.{ComposeFault}
use Rattle.fst_compose.specs.declared.fault.ComposeFault.TheVariants.{NotSorted, StateLimit, TooManyArcs, Overflow, Memory}

abbrev pub compose_text : ComposeFault → List ℕ
compose_text NotSorted = codes "neither machine is sorted for composition"
compose_text (StateLimit limit) = concat (codes "state limit " ∷ decimal limit ∷ codes " passed" ∷ [])
compose_text TooManyArcs = codes "too many arcs"
compose_text (Overflow state) = concat (codes "number too large at state " ∷ decimal state ∷ [])
compose_text Memory = codes "out of memory"
