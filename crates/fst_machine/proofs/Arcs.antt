-- Where the arcs of a list that was renamed or continued come from.
use Rattle.std.proofs.Common.{◌≡◌, ◌⊎◌, inl, inr, ℕ, ◌+◌, ◌<◌, zero, suc, List, [], ◌∷◌, ◌++◌, Option, None, Some, length, map, slice_get, sym, refl, ap, ◌∙◌, arith}
use Rattle.std.proofs.lemmas.Option.{slice_get-map}
use Rattle.std.specs.Option.{option_map}

-- where a mapped option has a value, the option has one
pub mapped_some : {X Y : Type 0} (f : X → Y) (o : Option X) (y : Y) → option_map f o ≡ Some y → (x : X) × (o ≡ Some x) × (f x ≡ y)
mapped_some f None y e = absurd (cc)
mapped_some f (Some x) y e = (x, refl, cc)

-- an element of a mapped list comes from the element in its place
pub mapped_at : {X Y : Type 0} (f : X → Y) (xs : List X) (k : ℕ) (y : Y) → slice_get (map f xs) k ≡ Some y → (x : X) × (slice_get xs k ≡ Some x) × (f x ≡ y)
mapped_at f xs k y e = mapped_some f (slice_get xs k) y (sym (slice_get-map f xs k) ∙ e)

-- and an element gives one in its place
pub at_mapped : {X Y : Type 0} (f : X → Y) (xs : List X) (k : ℕ) (x : X) → slice_get xs k ≡ Some x → slice_get (map f xs) k ≡ Some (f x)
at_mapped f xs k x e = slice_get-map f xs k ∙ ap (option_map f) e

-- an element of the first of two lists is in the same place of both together
pub at_append_left : {X : Type 0} (xs ys : List X) (k : ℕ) (x : X) → slice_get xs k ≡ Some x → slice_get (xs ++ ys) k ≡ Some x
at_append_left [] ys k x e = absurd (cc)
at_append_left (z ∷ xs) ys zero x e = e
at_append_left (z ∷ xs) ys (suc k) x e = at_append_left xs ys k x e

-- an element of the second stands behind the first
pub at_append_right : {X : Type 0} (xs ys : List X) (k : ℕ) (x : X) → slice_get ys k ≡ Some x → slice_get (xs ++ ys) (length xs + k) ≡ Some x
at_append_right {X} [] ys k x e = let here : 0 + k ≡ k = omega arith in ap (slice_get ys) here ∙ e
at_append_right {X} (z ∷ xs) ys k x e =
    let more : suc (length xs) + k ≡ suc (length xs + k) = omega arith in
    ap (slice_get (z ∷ (xs ++ ys))) more ∙ at_append_right xs ys k x e

-- an element of two lists together is one of the first, in its place, or one of the second
pub append_at : {X : Type 0} (xs ys : List X) (k : ℕ) (x : X) → slice_get (xs ++ ys) k ≡ Some x → (slice_get xs k ≡ Some x) ⊎ ((j : ℕ) × (slice_get ys j ≡ Some x) × (k ≡ length xs + j))
append_at [] ys k x e = inr (k, e, omega arith)
append_at (z ∷ xs) ys zero x e = inl e
append_at (z ∷ xs) ys (suc k) x e = by_rest (append_at xs ys k x e)
  where
    by_rest : (slice_get xs k ≡ Some x) ⊎ ((j : ℕ) × (slice_get ys j ≡ Some x) × (k ≡ length xs + j)) → (slice_get xs k ≡ Some x) ⊎ ((j : ℕ) × (slice_get ys j ≡ Some x) × (suc k ≡ suc (length xs) + j))
    by_rest (inl h) = inl h
    by_rest (inr h) = inr (h.0, h.1, omega (arith, h.2))

-- an element within the first of two lists together is in the same place of the first
pub at_append_front : {X : Type 0} (xs ys : List X) (k : ℕ) (x : X) → k < length xs → slice_get (xs ++ ys) k ≡ Some x → slice_get xs k ≡ Some x
at_append_front [] ys k x within e = absurd (omega arith)
at_append_front (z ∷ xs) ys zero x within e = e
at_append_front (z ∷ xs) ys (suc k) x within e = at_append_front xs ys k x (omega arith) e
