-- The transitions that leave a name, in order.
use Rattle.std.proofs.Common.{◌≡◌, ◌⊎◌, inl, inr, ℕ, ◌+◌, zero, suc, List, [], ◌∷◌, ◌++◌, Some, map, slice_get, sym, refl, ap, subst, arith}
use Rattle.std.specs.List.{flat_map}
use Rattle.fst_semiring.specs.Cost.{Cost}
use Rattle.fst_machine.specs.Machine.{Arc}
use Rattle.fst_machine.specs.Graph.{Graph}
use Rattle.fst_machine.specs.Paths.{Transition, Leaves}
use Rattle.fst_machine.specs.BreadthFirst.{Has, Apart}
use Rattle.fst_machine.proofs.Elements.{Has-append_left, Has-append_right, Has-append_cases}
use Rattle.fst_compose.specs.Moves.{transitions_from, transitions}

-- their arcs are the arcs of the name
pub transitions_from-arcs : {N : Type 0} (p : N) (k : ℕ) (arcs : List (Arc Cost N)) → map (λ (t : Transition N). t.arc) (transitions_from p k arcs) ≡ arcs
transitions_from-arcs p k [] = refl
transitions_from-arcs p k (a ∷ arcs) = ap (λ more. a ∷ more) (transitions_from-arcs p (suc k) arcs)

-- each stands for an arc in its place
transitions_from_at : {N : Type 0} (p : N) (k : ℕ) (arcs : List (Arc Cost N)) (t : Transition N) → Has (transitions_from p k arcs) t → (j : ℕ) × (t.state ≡ p) × (t.place ≡ k + j) × (slice_get arcs j ≡ Some t.arc)
transitions_from_at p k [] t h = absurd h
transitions_from_at {N} p k (a ∷ arcs) t (inl e) =
    (0, ap (λ (s : Transition N). s.state) (sym e), (let here : t.place ≡ k = ap (λ (s : Transition N). s.place) (sym e) in omega (arith, here)), ap (λ (s : Transition N). Some s.arc) e)
transitions_from_at p k (a ∷ arcs) t (inr h) =
    let rest = transitions_from_at p (suc k) arcs t h in
    (suc rest.0, rest.1, omega (arith, rest.2), rest.3)

-- each arc stands for one
transitions_from_has : {N : Type 0} (p : N) (k : ℕ) (arcs : List (Arc Cost N)) (j : ℕ) (t : Transition N) → t.state ≡ p → t.place ≡ k + j → slice_get arcs j ≡ Some t.arc → Has (transitions_from p k arcs) t
transitions_from_has p k [] j t here place has = absurd (cc)
transitions_from_has {N} p k (a ∷ arcs) zero t here place has =
    let arc : a ≡ t.arc = cc in
    let places : k ≡ t.place = omega (arith, place) in
    let same : ◌≡◌ {A = Transition N} (record { state = p; place = k; arc = a }) t = λ i. record { state = sym here i; place = places i; arc = arc i } in
    inl same
transitions_from_has p k (a ∷ arcs) (suc j) t here place has = inr (transitions_from_has p (suc k) arcs j t here (omega (arith, place)) has)

-- none stands twice
transitions_from-Apart : {N : Type 0} (p : N) (k : ℕ) (arcs : List (Arc Cost N)) → Apart (transitions_from p k arcs)
transitions_from-Apart p k [] = tt
transitions_from-Apart {N} p k (a ∷ arcs) = (new, transitions_from-Apart p (suc k) arcs)
  where
    new : Has (transitions_from p (suc k) arcs) (record { state = p; place = k; arc = a }) → ⊥
    new h =
        let at = transitions_from_at p (suc k) arcs (record { state = p; place = k; arc = a }) h in
        omega (arith, at.2)

module _ {N : Type 0} (g : Graph N) (p : N) where
  -- what is listed leaves the name
  pub transitions_leave : (t : Transition N) → Has (transitions g p) t → Leaves g p t
  transitions_leave t h =
      let at = transitions_from_at p 0 (g.arcs p) t h in
      let place : at.0 ≡ t.place = omega (arith, at.2) in
      (at.1, subst (λ (j : ℕ). slice_get (g.arcs p) j ≡ Some t.arc) place at.3)

  -- what leaves the name is listed
  pub leaves_transitions : (t : Transition N) → Leaves g p t → Has (transitions g p) t
  leaves_transitions t leaves = transitions_from_has p 0 (g.arcs p) t.place t leaves.0 (omega arith) leaves.1

  -- none is listed twice
  pub transitions-Apart : Apart (transitions g p)
  transitions-Apart = transitions_from-Apart p 0 (g.arcs p)

-- what stands in pieces put together stands in one of them
pub flat_map_Has : {X Y : Type 0} (f : X → List Y) (xs : List X) (y : Y) → Has (flat_map f xs) y → (x : X) × Has xs x × Has (f x) y
flat_map_Has f [] y h = absurd h
flat_map_Has {X} {Y} f (x ∷ xs) y h = by_part (Has-append_cases (f x) (flat_map f xs) y h) (λ more. flat_map_Has f xs y more)
  where
    by_part : Has (f x) y ⊎ Has (flat_map f xs) y → (Has (flat_map f xs) y → (z : X) × Has xs z × Has (f z) y) → (z : X) × Has (x ∷ xs) z × Has (f z) y
    by_part (inl here) more = (x, inl refl, here)
    by_part (inr later) more = let rest = more later in (rest.0, inr rest.1, rest.2)

-- and what stands in one of them stands in all
pub Has-flat_map : {X Y : Type 0} (f : X → List Y) (xs : List X) (x : X) (y : Y) → Has xs x → Has (f x) y → Has (flat_map f xs) y
Has-flat_map f [] x y h here = absurd h
Has-flat_map f (z ∷ xs) x y (inl e) here = Has-append_left (f z) (flat_map f xs) y (subst (λ w. Has (f w) y) (sym e) here)
Has-flat_map f (z ∷ xs) x y (inr h) here = Has-append_right (f z) (flat_map f xs) y (Has-flat_map f xs x y h here)

-- two lists without repeats that share nothing have no repeats together
pub Apart-append : {X : Type 0} (xs ys : List X) → Apart xs → Apart ys → ((x : X) → Has xs x → Has ys x → ⊥) → Apart (xs ++ ys)
Apart-append [] ys one two other = two
Apart-append {X} (x ∷ xs) ys one two other = ((λ h. by_part (Has-append_cases xs ys x h)), Apart-append xs ys one.1 two (λ y h k. other y (inr h) k))
  where
    by_part : Has xs x ⊎ Has ys x → ⊥
    by_part (inl h) = one.0 h
    by_part (inr h) = other x (inl refl) h

-- pieces without repeats that share nothing have no repeats together
pub Apart-flat_map : {X Y : Type 0} (f : X → List Y) (xs : List X) → Apart xs → ((x : X) → Apart (f x)) → ((x z : X) (y : Y) → Has (f x) y → Has (f z) y → x ≡ z) → Apart (flat_map f xs)
Apart-flat_map f [] apart each other = tt
Apart-flat_map {X} {Y} f (x ∷ xs) apart each other = Apart-append (f x) (flat_map f xs) (each x) (Apart-flat_map f xs apart.1 each other) new
  where
    new : (y : Y) → Has (f x) y → Has (flat_map f xs) y → ⊥
    new y here later =
        let from = flat_map_Has f xs y later in
        apart.0 (subst (λ z. Has xs z) (sym (other x from.0 y here from.2)) from.1)
