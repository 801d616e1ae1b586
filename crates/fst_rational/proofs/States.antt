-- The states of a machine, one after the other.
use Rattle.std.proofs.Common.{◌≡◌, ℕ, ◌+◌, ◌≤◌, zero, suc, List, [], ◌∷◌, ◌++◌, Option, Some, length, take, map, get_or, slice_get, sym, ap, subst, ◌∙◌, append_assoc, arith}
use Rattle.std.specs.Option.{option_map}
use Rattle.std.proofs.lemmas.List.{map_more, take-map}
use Rattle.std.proofs.lemmas.List.Sums.{sum_by-cons, sum_by-append, sum_by-take-le, sum_by_push}
use Rattle.std.proofs.lemmas.Option.{get_or_from_slice_get, same_Some, slice_get_within}
use Rattle.fst_machine.proofs.Arcs.{mapped_some}
use Rattle.fst_machine.proofs.Valued.{arc_total-valued, stands}
use Rattle.fst_rational.specs.Changing.{goings, onward}
use Rattle.fst_semiring.specs.Cost.{Cost}
use Rattle.fst_machine.specs.Machine.{Arc, State, arc_total, most_arcs, valued_arc, valued_state}

-- one more of the items, mapped twice
one_more : {X Y Z : Type 0} (g : X → Y) (f : Y → Z) (xs : List X) (i : ℕ) (x : X) → slice_get xs i ≡ Some x → map f (map g (take (suc i) xs)) ≡ map f (map g (take i xs)) ++ f (g x) ∷ []
one_more g f [] i x e = absurd cc
one_more g f (y ∷ xs) zero x e = ap (λ z. f (g z) ∷ []) (same_Some y x e)
one_more g f (y ∷ xs) (suc i) x e = ap (λ zs. f (g y) ∷ zs) (one_more g f xs i x e)

pub taken_more : {X Y Z : Type 0} (g : X → Y) (f : Y → Z) (xs : List X) (i : ℕ) (x : X) → slice_get xs i ≡ Some x → map f (map g (take (i + 1) xs)) ≡ map f (map g (take i xs)) ++ f (g x) ∷ []
taken_more g f xs i x e =
    let next : suc i ≡ i + 1 = omega arith in
    subst (λ (j : ℕ). map f (map g (take j xs)) ≡ map f (map g (take i xs)) ++ f (g x) ∷ []) next (one_more g f xs i x e)

module _ {V : Type 0} (value : V → Cost) (change : State Cost → State Cost) (states : List (State V)) (i : ℕ) (last : V) (arcs : List (Arc V ℕ)) (f : option_map (λ s. s.final) (slice_get states i) ≡ Some last) (a : option_map (λ s. s.arcs) (slice_get states i) ≡ Some arcs) where
  -- one more state is put
  pub state_put : (front : List (State Cost)) (old new : List (State V)) → map (valued_state value) old ≡ front ++ map change (map (valued_state value) (take i states)) → map (valued_state value) new ≡ map (valued_state value) old ++ change (record { final = value last; arcs = map (valued_arc value) arcs }) ∷ [] → map (valued_state value) new ≡ front ++ map change (map (valued_state value) (take (i + 1) states))
  state_put front old new so_far put =
      put ∙ (ap (λ ss. ss ++ change (record { final = value last; arcs = map (valued_arc value) arcs }) ∷ []) so_far
      ∙ (append_assoc front (map change (map (valued_state value) (take i states))) (change (record { final = value last; arcs = map (valued_arc value) arcs }) ∷ [])
      ∙ ap (λ ss. front ++ ss) (sym (taken_more (valued_state value) change states i (record { final = last; arcs = arcs }) (stands states i last arcs f a)))))

  -- there is room for it where there is room for all
  pub state_fits : (front old : List (State V)) → map (valued_state value) old ≡ map (valued_state value) front ++ map change (map (valued_state value) (take i states)) → arc_total front + arc_total (map change (map (valued_state value) states)) ≤ most_arcs → arc_total old + length (change (record { final = value last; arcs = map (valued_arc value) arcs })).arcs ≤ most_arcs
  state_fits front old so_far room =
      let s : State Cost = change (record { final = value last; arcs = map (valued_arc value) arcs }) in
      let part = map change (map (valued_state value) (take i states)) in
      let now : arc_total old ≡ arc_total front + arc_total part = sym (arc_total-valued value old) ∙ (ap arc_total so_far ∙ (sum_by-append (λ (t : State Cost). length t.arcs) (map (valued_state value) front) part ∙ ap (λ n. n + arc_total part) (arc_total-valued value front))) in
      let more : arc_total (map change (map (valued_state value) (take (i + 1) states))) ≡ arc_total part + arc_total (s ∷ []) = ap arc_total (taken_more (valued_state value) change states i (record { final = last; arcs = arcs }) (stands states i last arcs f a)) ∙ sum_by-append (λ (t : State Cost). length t.arcs) part (s ∷ []) in
      let alone : arc_total (s ∷ []) ≡ length s.arcs + arc_total {V = Cost} [] = sum_by-cons (λ (t : State Cost). length t.arcs) s [] in
      let same : take (i + 1) (map change (map (valued_state value) states)) ≡ map change (map (valued_state value) (take (i + 1) states)) = take-map change (i + 1) (map (valued_state value) states) ∙ ap (map change) (take-map (valued_state value) (i + 1) states) in
      let below : arc_total (take (i + 1) (map change (map (valued_state value) states))) ≤ arc_total (map change (map (valued_state value) states)) = sum_by-take-le (λ (t : State Cost). length t.arcs) (map change (map (valued_state value) states)) (i + 1) in
      let counted = ap arc_total same in
      omega (arith, now, more, alone, counted, below, room)

-- one more state goes on, or does not
pub goings_more : {V : Type 0} (value : V → Cost) (target : Option ℕ) (states : List (State V)) (i : ℕ) (last : V) → option_map (λ s. s.final) (slice_get states i) ≡ Some last → goings target (map (valued_state value) (take (i + 1) states)) ≡ goings target (map (valued_state value) (take i states)) + length (onward (value last) target)
goings_more {V} value target states i last e =
    let s = mapped_some (λ (t : State V). t.final) (slice_get states i) last e in
    let more = map_more (valued_state value) states i s.0 (slice_get_within states i s.0 s.1) in
    let here : get_or states i s.0 ≡ s.0 = get_or_from_slice_get states i s.0 s.0 s.1 in
    let count = sum_by_push (λ (t : State Cost). length (onward t.final target)) (map (valued_state value) (take i states)) (valued_state value (get_or states i s.0)) in
    ap (goings target) more ∙ (count ∙ ap (λ (v : V). goings target (map (valued_state value) (take i states)) + length (onward (value v) target)) (ap (λ (t : State V). t.final) here ∙ s.2))
