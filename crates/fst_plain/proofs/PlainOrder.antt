-- The order of paths over what is held of them.
use Rattle.std.proofs.Common.{◌≡◌, List, [], ◌∷◌, length, map, sym, refl, ap, ◌∙◌, Equal}
use Rattle.std.specs.Ordering.{nat_cmp, ordering_then}
use Rattle.std.specs.Cmp.Lexicographic.{slice_cmp}
use Rattle.std.proofs.lemmas.List.{length-map}
use Rattle.fst_semiring.specs.Cost.{cost_cmp}
use Rattle.fst_machine.specs.PathOrder.{arc_places, path_cmp}
use Rattle.fst_plain.specs.declared.path.PlainTransition.{PlainTransition}
use Rattle.fst_plain.specs.declared.path.PlainPath.{PlainPath}
use Rattle.fst_plain.specs.Plain.{cost_of}
use Rattle.fst_plain.specs.PlainPaths.{path_of, transition_of}

-- the places that are held
places_held : (ts : List PlainTransition) → arc_places (map transition_of ts) ≡ map (λ (t : PlainTransition). t.place) ts
places_held [] = refl
places_held (t ∷ ts) = ap (λ ks. t.place ∷ ks) (places_held ts)

-- where weights and lengths tie, the places decide
pub tied_cmp : (a b : PlainPath) → cost_cmp (cost_of a.weight) (cost_of b.weight) ≡ Equal → nat_cmp (length a.transitions.items) (length b.transitions.items) ≡ Equal → slice_cmp nat_cmp (map (λ (t : PlainTransition). t.place) a.transitions.items) (map (λ (t : PlainTransition). t.place) b.transitions.items) ≡ path_cmp (path_of a) (path_of b)
tied_cmp a b e f =
    let one = length-map a.transitions.items transition_of in
    let two = length-map b.transitions.items transition_of in
    let lengths : nat_cmp (length (path_of a).path) (length (path_of b).path) ≡ Equal = (λ i. nat_cmp (one i) (two i)) ∙ f in
    (λ i. slice_cmp nat_cmp (sym (places_held a.transitions.items) i) (sym (places_held b.transitions.items) i)) ∙ (λ i. ordering_then (sym e i) (ordering_then (sym lengths i) (slice_cmp nat_cmp (arc_places (path_of a).path) (arc_places (path_of b).path))))
