-- Lists that are made element by element from others.
use Rattle.std.proofs.Common.{◌≡◌, ◌⊎◌, inl, inr, ℕ, ◌+◌, ◌<◌, zero, suc, List, [], ◌∷◌, ◌++◌, Some, length, map, get_or, slice_get, take, sym, refl, ap, ap₂, ◌∙◌, subst, arith}
use Rattle.std.proofs.lemmas.List.{map-append, take_more}
use Rattle.std.proofs.lemmas.Option.{slice_get-get_or, same_Some}
use Rattle.fst_machine.specs.Machine.{changed}
use Rattle.fst_machine.proofs.Arcs.{append_at, at_append_right}
use Rattle.fst_machine.proofs.Changes.{read_as}
use Rattle.fst_semiring.specs.Cost.{Cost}
use Rattle.fst_distance.specs.Values.{value_in, value_or_zero}

-- one element more on both sides
pub map_step : {X Y Z : Type 0} (v : X → Z) (f : Y → Z) (xs new : List X) (x : X) (ys : List Y) (i : ℕ) (y : Y) → i < length ys → y ≡ get_or ys i y → new ≡ xs ++ x ∷ [] → v x ≡ f y → map v xs ≡ map f (take i ys) → map v new ≡ map f (take (i + 1) ys)
map_step v f xs new x ys i y low read put same before =
    ap (map v) put ∙ (map-append v xs (x ∷ []) ∙ (ap₂ (λ a b. a ++ b ∷ []) before (same ∙ ap f read)
    ∙ (sym (map-append f (take i ys) (get_or ys i y ∷ [])) ∙ ap (map f) (sym (take_more ys i y low)))))

-- the same where the element is read
pub map_read : {X Y Z : Type 0} (v : X → Z) (f : Y → Z) (xs new : List X) (x : X) (ys : List Y) (i : ℕ) (y item : Y) → i < length ys → y ≡ item → item ≡ get_or ys i item → new ≡ xs ++ x ∷ [] → v x ≡ f y
    → map v xs ≡ map f (take i ys) → map v new ≡ map f (take (i + 1) ys)
map_read v f xs new x ys i y item low same is put alike before = map_step v f xs new x ys i y low (read_as ys i y item same is) put alike before

-- the value of what is read
pub value_read : {V : Type 0} (value : V → Cost) (ds : List V) (i : ℕ) (d : V) → i < length ds → d ≡ get_or ds i d → value_in value ds i ≡ value d
value_read value ds i d low read = ap (value_or_zero value) (slice_get-get_or ds i d low) ∙ ap value (sym read)

-- what is in a place of a list with one element more
pub push_at : {X : Type 0} (xs : List X) (x y : X) (k : ℕ) → slice_get (xs ++ x ∷ []) k ≡ Some y → (slice_get xs k ≡ Some y) ⊎ ((k ≡ length xs) × (x ≡ y))
push_at {X} xs x y k e = by (append_at xs (x ∷ []) k y e)
  where
    at_one : (j : ℕ) → slice_get (x ∷ []) j ≡ Some y → (j ≡ 0) × (x ≡ y)
    at_one zero h = (refl, same_Some x y h)
    at_one (suc j) h = absurd (cc)

    by : (slice_get xs k ≡ Some y) ⊎ ((j : ℕ) × (slice_get (x ∷ []) j ≡ Some y) × (k ≡ length xs + j)) → (slice_get xs k ≡ Some y) ⊎ ((k ≡ length xs) × (x ≡ y))
    by (inl h) = inl h
    by (inr h) = let o = at_one h.0 h.1 in inr ((let a = o.0 in let b = h.2 in omega arith), o.1)

-- the last place
pub push_last : {X : Type 0} (xs : List X) (x : X) → slice_get (xs ++ x ∷ []) (length xs) ≡ Some x
push_last xs x = let none : length xs + 0 ≡ length xs = omega arith in subst (λ (k : ℕ). slice_get (xs ++ x ∷ []) k ≡ Some x) none (at_append_right xs (x ∷ []) 0 x refl)

-- ---- one element changed

pub length_changed : {X : Type 0} (f : X → X) (xs : List X) (i : ℕ) → length (changed f xs i) ≡ length xs
length_changed f [] i = refl
length_changed f (x ∷ xs) zero = refl
length_changed f (x ∷ xs) (suc i) = ap suc (length_changed f xs i)

pub changed_here : {X : Type 0} (f : X → X) (xs : List X) (i : ℕ) (d : X) → i < length xs → get_or (changed f xs i) i d ≡ f (get_or xs i d)
changed_here f [] i d low = absurd (omega (arith, low))
changed_here f (x ∷ xs) zero d low = refl
changed_here f (x ∷ xs) (suc i) d low = changed_here f xs i d (omega (arith, low))

pub changed_other : {X : Type 0} (f : X → X) (xs : List X) (i j : ℕ) (d : X) → (i ≡ j → ⊥) → get_or (changed f xs i) j d ≡ get_or xs j d
changed_other f [] i j d apart = refl
changed_other f (x ∷ xs) zero zero d apart = absurd (apart refl)
changed_other f (x ∷ xs) zero (suc j) d apart = refl
changed_other f (x ∷ xs) (suc i) zero d apart = refl
changed_other f (x ∷ xs) (suc i) (suc j) d apart = changed_other f xs i j d (λ e. apart (ap suc e))

-- a change seen by values
pub changed_map : {X Y : Type 0} (v : X → Y) (f : X → X) (g : Y → Y) (xs : List X) (i : ℕ) → ((x : X) → v (f x) ≡ g (v x)) → map v (changed f xs i) ≡ changed g (map v xs) i
changed_map v f g [] i same = refl
changed_map v f g (x ∷ xs) zero same = ap (λ y. y ∷ map v xs) (same x)
changed_map v f g (x ∷ xs) (suc i) same = ap (λ ys. v x ∷ ys) (changed_map v f g xs i same)

-- two changes in one place
pub changed_twice : {X : Type 0} (f g h : X → X) (xs : List X) (i : ℕ) → ((x : X) → f (g x) ≡ h x) → changed f (changed g xs i) i ≡ changed h xs i
changed_twice f g h [] i same = refl
changed_twice f g h (x ∷ xs) zero same = ap (λ y. y ∷ xs) (same x)
changed_twice f g h (x ∷ xs) (suc i) same = ap (λ ys. x ∷ ys) (changed_twice f g h xs i same)

-- no change
pub changed_same : {X : Type 0} (f : X → X) (xs : List X) (i : ℕ) → ((x : X) → f x ≡ x) → changed f xs i ≡ xs
changed_same f [] i same = refl
changed_same f (x ∷ xs) zero same = ap (λ y. y ∷ xs) (same x)
changed_same f (x ∷ xs) (suc i) same = ap (λ ys. x ∷ ys) (changed_same f xs i same)

-- a change behind a front
pub changed_behind : {X : Type 0} (f : X → X) (xs : List X) (y : X) (ys : List X) → changed f (xs ++ y ∷ ys) (length xs) ≡ xs ++ f y ∷ ys
changed_behind f [] y ys = refl
changed_behind f (x ∷ xs) y ys = ap (λ zs. x ∷ zs) (changed_behind f xs y ys)

-- two maps, one after the other
pub map_fuse : {X Y Z : Type 0} (f : X → Y) (g : Y → Z) (xs : List X) → map (λ x. g (f x)) xs ≡ map g (map f xs)
map_fuse f g [] = refl
map_fuse f g (x ∷ xs) = ap (λ ys. g (f x) ∷ ys) (map_fuse f g xs)

-- a list made from another, each through a view
pub map_through : {X Y : Type 0} (v : X → Y) (f : Y → Y) (out made read list : List X) (target : List Y) → out ≡ made → map v made ≡ map (λ x. f (v x)) read → read ≡ list → map v list ≡ target → map v out ≡ map f target
map_through v f out made read list target is by from seen = ap (map v) is ∙ (by ∙ (ap (map (λ x. f (v x))) from ∙ (map_fuse v f list ∙ ap (map f) seen)))
