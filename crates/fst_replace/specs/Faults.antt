-- What is said of a replacement that is not made: why.
use Rattle.std.specs.Prelude.{ℕ, List, [], ◌∷◌, codes}
use Rattle.std.specs.Fmt.{decimal}
use Rattle.std.specs.List.{concat}
use Rattle.fst_replace.specs.declared.fault.ReplaceFault.{ReplaceFault}
use Rattle.fst_replace.specs.declared.fault.ReplaceFault.TheVariants.{Recursive, TooManyStates, TooManyArcs, Memory}

abbrev pub replace_text : ReplaceFault → List ℕ
replace_text (Recursive label) = concat (codes "label " ∷ decimal label ∷ codes " is recursive" ∷ [])
replace_text TooManyStates = codes "too many states"
replace_text TooManyArcs = codes "too many arcs"
replace_text Memory = codes "out of memory"
