-- Going over a list and writing each item: what is left, and how long it is.
use Rattle.std.proofs.Common.{◌≡◌, ℕ, zero, suc, ◌+◌, ◌<◌, ◌≤◌, List, [], ◌∷◌, ◌++◌, map, length, get_or, drop, take, All, Some, refl, sym, ap, subst, ◌∙◌, append-nil, arith}
use Rattle.std.specs.Prelude.{slice_get}
use Rattle.std.specs.List.{flat_map}
use Rattle.std.specs.Option.{option_map}
use Rattle.std.proofs.lemmas.List.{drop_all, length-map}
use Rattle.std.proofs.lemmas.List.Elements.{All-get_or, All-more}
use Rattle.std.proofs.lemmas.List.Sums.{sum_by-cons}
use Rattle.fst_semiring.specs.Cost.{Cost}
use Rattle.fst_machine.specs.Machine.{Arc, State, arc_total, valued_arc, valued_state}

some_is : {X : Type 0} (x y : X) → Some x ≡ Some y → x ≡ y
some_is x y e = cc

-- the same of a state that is known by its two parts
state_and_rest : {V : Type 0} (value : V → Cost) (states : List (State V)) (i : ℕ) (last : V) (arcs : List (Arc V ℕ)) → option_map (λ s. s.final) (slice_get states i) ≡ Some last → option_map (λ s. s.arcs) (slice_get states i) ≡ Some arcs
    → drop i (map (valued_state value) states) ≡ record { final = value last; arcs = map (valued_arc value) arcs } ∷ drop (suc i) (map (valued_state value) states)
state_and_rest value [] i last arcs f a = absurd cc
state_and_rest value (s ∷ states) zero last arcs f a = rw (← some_is _ _ f, ← some_is _ _ a) refl
state_and_rest value (s ∷ states) (suc i) last arcs f a = state_and_rest value states i last arcs f a

pub state_left : {V : Type 0} (value : V → Cost) (states : List (State V)) (i : ℕ) (last : V) (arcs : List (Arc V ℕ)) → option_map (λ s. s.final) (slice_get states i) ≡ Some last → option_map (λ s. s.arcs) (slice_get states i) ≡ Some arcs
    → drop i (map (valued_state value) states) ≡ record { final = value last; arcs = map (valued_arc value) arcs } ∷ drop (i + 1) (map (valued_state value) states)
state_left value states i last arcs f a =
    let next : suc i ≡ i + 1 = omega arith in
    subst (λ (j : ℕ). drop i (map (valued_state value) states) ≡ record { final = value last; arcs = map (valued_arc value) arcs } ∷ drop j (map (valued_state value) states)) next (state_and_rest value states i last arcs f a)

-- the arcs of a state and of the rest
arcs_left : (s : State Cost) (rest states : List (State Cost)) → states ≡ s ∷ rest → arc_total states ≡ length s.arcs + arc_total rest
arcs_left s rest states e = ap arc_total e ∙ sum_by-cons (λ (t : State Cost). length t.arcs) s rest

-- the arcs that are left are those of the state in turn and those behind it
pub arcs_from : {V : Type 0} (value : V → Cost) (states : List (State V)) (i : ℕ) (last : V) (arcs : List (Arc V ℕ))
    → option_map (λ s. s.final) (slice_get states i) ≡ Some last → option_map (λ s. s.arcs) (slice_get states i) ≡ Some arcs
    → arc_total (drop i (map (valued_state value) states)) ≡ length arcs + arc_total (drop (i + 1) (map (valued_state value) states))
arcs_from value states i last arcs f a =
    let all = arcs_left _ _ _ (state_left value states i last arcs f a) in
    omega (arith, all, length-map arcs (valued_arc value))

-- a state that is known by its two parts stands in its place
state_stands : {V : Type 0} (states : List (State V)) (i : ℕ) (last : V) (arcs : List (Arc V ℕ)) → option_map (λ s. s.final) (slice_get states i) ≡ Some last → option_map (λ s. s.arcs) (slice_get states i) ≡ Some arcs → (d : State V) → (i < length states) × (get_or states i d ≡ record { final = last; arcs = arcs })
state_stands [] i last arcs f a d = absurd cc
state_stands (s ∷ states) zero last arcs f a d = (omega arith, rw (← some_is _ _ f, ← some_is _ _ a) refl)
state_stands (s ∷ states) (suc i) last arcs f a d = let rest = state_stands states i last arcs f a d in (omega (arith, rest.0), rest.1)

-- what holds of the states so far, and of one more
pub state_more : {V : Type 0} (P : State V → Type 0) (states : List (State V)) (i : ℕ) (last : V) (arcs : List (Arc V ℕ)) → option_map (λ s. s.final) (slice_get states i) ≡ Some last → option_map (λ s. s.arcs) (slice_get states i) ≡ Some arcs → All P (take i states) → P (record { final = last; arcs = arcs }) → All P (take (i + 1) states)
state_more {V} P states i last arcs f a so_far own =
    let s : State V = record { final = last; arcs = arcs } in
    let stands = state_stands states i last arcs f a s in
    All-more P states i s stands.0 so_far (subst P (sym stands.1) own)

-- what holds of all states holds of the one in a place
pub state_has : {V : Type 0} (P : State V → Type 0) (states : List (State V)) (i : ℕ) (last : V) (arcs : List (Arc V ℕ)) → option_map (λ s. s.final) (slice_get states i) ≡ Some last → option_map (λ s. s.arcs) (slice_get states i) ≡ Some arcs → All P states → P (record { final = last; arcs = arcs })
state_has {V} P states i last arcs f a all =
    let s : State V = record { final = last; arcs = arcs } in
    let stands = state_stands states i last arcs f a s in
    subst P stands.1 (All-get_or P states i s stands.0 all)

-- where no item is left, all are written
pub all_written : {X Y : Type 0} (f : Y → List ℕ) (g : X → Y) (xs : List X) (n : ℕ) (new old : List ℕ) → length xs ≤ n → new ++ flat_map f (map g (drop n xs)) ≡ old ++ flat_map f (map g xs) → new ≡ old ++ flat_map f (map g xs)
all_written f g xs n new old done h = sym (append-nil new) ∙ (ap (λ rest. new ++ flat_map f (map g rest)) (sym (drop_all n xs done)) ∙ h)

-- and all are counted
pub nothing_left : {X Y : Type 0} (f : Y → List ℕ) (g : X → Y) (n i : ℕ) (xs : List X) → length xs ≤ i → n + length (flat_map f (drop i (map g xs))) ≡ length (flat_map f (map g xs)) → n ≡ length (flat_map f (map g xs))
nothing_left f g n i xs done h =
    let none : length (flat_map f (drop i (map g xs))) ≡ 0 = ap (λ rest. length (flat_map f rest)) (drop_all i (map g xs) (omega (arith, done, length-map xs g))) in
    omega (arith, none, h)
