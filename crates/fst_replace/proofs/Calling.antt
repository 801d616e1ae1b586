-- The calls of states, one state after the other.
use Rattle.std.proofs.Common.{◌≡◌, ℕ, ◌+◌, List, [], ◌∷◌, ◌++◌, Some, take, get_or, slice_get, ap, ◌∙◌, append-nil}
use Rattle.std.specs.Option.{option_map}
use Rattle.std.proofs.lemmas.List.{map-append, take_more}
use Rattle.std.proofs.lemmas.Grind.{flat_map-append}
use Rattle.std.proofs.lemmas.Option.{get_or_from_slice_get, slice_get_within}
use Rattle.fst_machine.specs.Machine.{Arc, State}
use Rattle.fst_machine.proofs.Arcs.{mapped_some}
use Rattle.fst_replace.specs.Calls.{Calling, arcs_of, call_of, calls_in, rules_in}

-- the arcs of the first states and of one more
pub arcs_of-more : {V : Type 0} (states : List (State V)) (i : ℕ) (arcs : List (Arc V ℕ)) → option_map (λ s. s.arcs) (slice_get states i) ≡ Some arcs → arcs_of (take (i + 1) states) ≡ arcs_of (take i states) ++ arcs
arcs_of-more {V} states i arcs e =
    let s = mapped_some (λ (s : State V). s.arcs) (slice_get states i) arcs e in
    let last : get_or states i s.0 ≡ s.0 = get_or_from_slice_get states i s.0 s.0 s.1 in
    ap arcs_of (take_more states i s.0 (slice_get_within states i s.0 s.1) ∙ ap (λ z. take i states ++ z ∷ []) last)
    ∙ (flat_map-append (λ (s : State V). s.arcs) (take i states) (s.0 ∷ [])
    ∙ ap (λ zs. arcs_of (take i states) ++ zs) (append-nil s.0.arcs ∙ s.2))

-- and the calls that they make
pub calls_in-append : {V : Type 0} (labels : List ℕ) (xs ys : List (Arc V ℕ)) → calls_in labels (xs ++ ys) ≡ calls_in labels xs ++ calls_in labels ys
calls_in-append labels xs ys = flat_map-append (call_of labels) xs ys

pub called-more : {V : Type 0} (labels : List ℕ) (states : List (State V)) (i : ℕ) (arcs : List (Arc V ℕ)) → option_map (λ s. s.arcs) (slice_get states i) ≡ Some arcs → rules_in (calls_in labels (arcs_of (take (i + 1) states))) ≡ rules_in (calls_in labels (arcs_of (take i states))) ++ rules_in (calls_in labels arcs)
called-more labels states i arcs e =
    ap (λ zs. rules_in (calls_in labels zs)) (arcs_of-more states i arcs e)
    ∙ (ap rules_in (calls_in-append labels (arcs_of (take i states)) arcs)
    ∙ map-append (λ (c : Calling). c.rule) (calls_in labels (arcs_of (take i states))) (calls_in labels arcs))
