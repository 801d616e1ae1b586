-- What stands in a list that was mapped, and lists with the same elements.
use Rattle.std.proofs.Common.{◌≡◌, ◌⊎◌, inl, inr, List, [], ◌∷◌, map, refl, sym, ap, ap₂, subst}
use Rattle.std.specs.List.{flat_map}
use Rattle.fst_machine.specs.BreadthFirst.{Has}
use Rattle.fst_machine.proofs.Elements.{Has-append_cases, Has-append_left, Has-append_right}

-- the same stands in both lists
pub record Alike {X : Type 0} (xs ys : List X) : Type 0 where
  pub there : (x : X) → Has xs x → Has ys x
  pub back : (x : X) → Has ys x → Has xs x

pub turned : {X : Type 0} (xs ys : List X) → Alike xs ys → Alike ys xs
turned xs ys h = record { there = h.back; back = h.there }

module _ {X Y : Type 0} (f : X → Y) where
  pub Has_map : (xs : List X) (x : X) → Has xs x → Has (map f xs) (f x)
  Has_map [] x h = absurd h
  Has_map (z ∷ xs) x (inl e) = inl (ap f e)
  Has_map (z ∷ xs) x (inr h) = inr (Has_map xs x h)

  pub map_Has : (xs : List X) (y : Y) → Has (map f xs) y → (x : X) × Has xs x × (f x ≡ y)
  map_Has [] y h = absurd h
  map_Has (z ∷ xs) y (inl e) = (z, inl refl, e)
  map_Has (z ∷ xs) y (inr h) = let rest = map_Has xs y h in (rest.0, inr rest.1, rest.2)

  pub map_alike : (xs ys : List X) → Alike xs ys → Alike (map f xs) (map f ys)
  map_alike xs ys h = record { there = λ y k. one xs ys h.there y k; back = λ y k. one ys xs h.back y k }
    where
      one : (us vs : List X) → ((x : X) → Has us x → Has vs x) → (y : Y) → Has (map f us) y → Has (map f vs) y
      one us vs there y k = let from = map_Has us y k in subst (λ z. Has (map f vs) z) from.2 (Has_map vs from.0 (there from.0 from.1))

-- functions that agree on the elements of a list make one list of it
pub map_agree : {X Y : Type 0} (f g : X → Y) (xs : List X) → ((x : X) → Has xs x → f x ≡ g x) → map f xs ≡ map g xs
map_agree f g [] same = refl
map_agree f g (x ∷ xs) same = ap₂ (◌∷◌) (same x (inl refl)) (map_agree f g xs (λ z h. same z (inr h)))

-- what stands in a list of lists put together
module _ {X Y : Type 0} (f : X → List Y) where
  pub flat_map_Has : (xs : List X) (y : Y) → Has (flat_map f xs) y → (x : X) × Has xs x × Has (f x) y
  flat_map_Has [] y h = absurd h
  flat_map_Has (z ∷ xs) y h = by_part (Has-append_cases (f z) (flat_map f xs) y h) (flat_map_Has xs y)
    where
      by_part : Has (f z) y ⊎ Has (flat_map f xs) y → (Has (flat_map f xs) y → (x : X) × Has xs x × Has (f x) y) → (x : X) × Has (z ∷ xs) x × Has (f x) y
      by_part (inl here) rest = (z, inl refl, here)
      by_part (inr more) rest = let r = rest more in (r.0, inr r.1, r.2)

  pub Has_flat_map : (xs : List X) (x : X) (y : Y) → Has xs x → Has (f x) y → Has (flat_map f xs) y
  Has_flat_map [] x y h k = absurd h
  Has_flat_map (z ∷ xs) x y (inl e) k = Has-append_left (f z) (flat_map f xs) y (subst (λ u. Has (f u) y) (sym e) k)
  Has_flat_map (z ∷ xs) x y (inr h) k = Has-append_right (f z) (flat_map f xs) y (Has_flat_map xs x y h k)
