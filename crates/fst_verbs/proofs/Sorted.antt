-- A machine whose arcs are sorted, seen by the values of its weights.
use Rattle.std.proofs.Common.{◌≡◌, ℕ, List, Option, subst}
use Rattle.fst_semiring.specs.declared.arc_type.ArcType.{ArcType}
use Rattle.fst_semiring.specs.Cost.{Cost}
use Rattle.fst_machine.specs.Machine.{Machine, valued}
use Rattle.fst_trim.specs.Sorting.{IsArcSorted, SortsPaths}
use Rattle.fst_trim.specs.declared.side.Side.{Side}
use Rattle.fst_trim.proofs.Valued.{IsArcSorted-valued}
use Rattle.fst_verbs.specs.Trimming.{HaveSameTriples, Sorts, side_of}

pub sorts : {V : Type 0} (value : V → Cost) (kind : ArcType) (side : Side) (word : Option (List ℕ)) (m made : Machine V) → side ≡ side_of word → IsArcSorted side m made → SortsPaths kind side (valued value m) (valued value made)
    → HaveSameTriples kind (valued value m) (valued value made) → Sorts kind (side_of word) (valued value m) (valued value made)
sorts value kind side word m made is sorted paths same = subst (λ (s : Side). Sorts kind s (valued value m) (valued value made)) is (IsArcSorted-valued value side m made sorted, paths, same)
