-- What is said of machines that have no intersection or no difference: why. Where the second machine alone is meant, the
-- text says so.
use Rattle.std.specs.Prelude.{ℕ, Bool, true, false, List, [], ◌∷◌, codes}
use Rattle.std.specs.Fmt.{decimal}
use Rattle.std.specs.List.{concat}
use Rattle.fst_setops.specs.declared.fault.DifferenceFault.{DifferenceFault}
use Rattle.fst_setops.specs.declared.fault.DifferenceFault.TheVariants as differences
use Rattle.fst_setops.specs.declared.fault.IntersectFault.{IntersectFault}
use Rattle.fst_setops.specs.declared.fault.IntersectFault.TheVariants as intersections

-- the words before an arc of the first machine or of the second with two labels
abbrev pub acceptor_text : Bool → List ℕ
acceptor_text false = codes "not an acceptor at state "
acceptor_text true = codes "second machine: not an acceptor at state "

abbrev pub intersect_text : IntersectFault → List ℕ
intersect_text intersections.NotSorted = codes "neither machine is sorted for composition"
intersect_text (intersections.NotAcceptor second state place) = concat (acceptor_text second ∷ decimal state ∷ codes " arc " ∷ decimal place ∷ [])
intersect_text (intersections.StateLimit limit) = concat (codes "state limit " ∷ decimal limit ∷ codes " passed" ∷ [])
intersect_text intersections.TooManyArcs = codes "too many arcs"
intersect_text (intersections.Overflow state) = concat (codes "number too large at state " ∷ decimal state ∷ [])
intersect_text intersections.Memory = codes "out of memory"

abbrev pub difference_text : DifferenceFault → List ℕ
difference_text (differences.NotAcceptor second state place) = concat (acceptor_text second ∷ decimal state ∷ codes " arc " ∷ decimal place ∷ [])
difference_text (differences.NotDeterministic state place) = concat (codes "not deterministic at state " ∷ decimal state ∷ codes " arc " ∷ decimal place ∷ [])
difference_text (differences.HasEpsilon state place) = concat (codes "epsilon at state " ∷ decimal state ∷ codes " arc " ∷ decimal place ∷ [])
difference_text (differences.NotUnweighted state) = concat (codes "not unweighted at state " ∷ decimal state ∷ [])
difference_text (differences.StateLimit limit) = concat (codes "state limit " ∷ decimal limit ∷ codes " passed" ∷ [])
difference_text differences.TooManyArcs = codes "too many arcs"
difference_text differences.Memory = codes "out of memory"
