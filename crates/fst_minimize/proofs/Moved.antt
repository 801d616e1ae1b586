-- Elements of a list that is put in another order.
use Rattle.std.proofs.Common.{◌≡◌, ℕ, List, Some, slice_get, ap, ◌∙◌}
use Rattle.std.specs.List.Sorted.{IsPermutation}
use Rattle.std.proofs.lemmas.List.Sorted.{Contains-permutation}
use Rattle.std.proofs.lemmas.Option.{slice_get-get_or, slice_get_within, get_or_from_slice_get}

-- an element of a list that is put in another order
pub moved_to : {X : Type 0} (xs ys : List X) (k : ℕ) (x : X) → IsPermutation xs ys → slice_get xs k ≡ Some x → (j : ℕ) × (slice_get ys j ≡ Some x)
moved_to xs ys k x same there =
    let at = Contains-permutation xs ys x same (k, slice_get_within xs k x there, get_or_from_slice_get xs k x x there) in
    (at.0, slice_get-get_or ys at.0 x at.1 ∙ ap Some at.2)
