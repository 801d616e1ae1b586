-- What a filter keeps of a list.
use Rattle.std.proofs.Common.{◌≡◌, inl, inr, Bool, true, false, true≢false, cond, filter, List, [], ◌∷◌, map, refl, sym, ap, ◌∙◌}
use Rattle.fst_machine.specs.BreadthFirst.{Apart, Has}

module _ {X : Type 0} (test : X → Bool) where
  pub filter_Has : (xs : List X) (x : X) → Has (filter test xs) x → Has xs x × (test x ≡ true)
  filter_Has [] x h = absurd h
  filter_Has (z ∷ xs) x h = by (test z) refl h (filter_Has xs x)
    where
      by : (b : Bool) → test z ≡ b → Has (cond b (z ∷ filter test xs) (filter test xs)) x → (Has (filter test xs) x → Has xs x × (test x ≡ true)) → Has (z ∷ xs) x × (test x ≡ true)
      by true is (inl e) more = (inl e, ap test (sym e) ∙ is)
      by true is (inr rest) more = let m = more rest in (inr m.0, m.1)
      by false is rest more = let m = more rest in (inr m.0, m.1)

  pub Has-filter : (xs : List X) (x : X) → Has xs x → test x ≡ true → Has (filter test xs) x
  Has-filter [] x h passes = absurd h
  Has-filter (z ∷ xs) x h passes = by (test z) refl h (λ rest. Has-filter xs x rest passes)
    where
      by : (b : Bool) → test z ≡ b → Has (z ∷ xs) x → (Has xs x → Has (filter test xs) x) → Has (cond b (z ∷ filter test xs) (filter test xs)) x
      by true is (inl e) more = inl e
      by true is (inr rest) more = inr (more rest)
      by false is (inl e) more = absurd (true≢false (sym passes ∙ (ap test (sym e) ∙ is)))
      by false is (inr rest) more = more rest

  pub filter_Apart : (xs : List X) → Apart xs → Apart (filter test xs)
  filter_Apart [] apart = tt
  filter_Apart (z ∷ xs) apart = by (test z) (filter_Apart xs apart.1)
    where
      by : (b : Bool) → Apart (filter test xs) → Apart (cond b (z ∷ filter test xs) (filter test xs))
      by true rest = ((λ h. apart.0 (filter_Has xs z h).0), rest)
      by false rest = rest

-- a filter of a mapped list
pub filter_map-of : {X Y : Type 0} (f : X → Y) (test : Y → Bool) (xs : List X) → filter test (map f xs) ≡ map f (filter (λ x. test (f x)) xs)
filter_map-of f test [] = refl
filter_map-of {X} f test (x ∷ xs) = by (test (f x)) (filter_map-of f test xs)
  where
    by : (b : Bool) → filter test (map f xs) ≡ map f (filter (λ y. test (f y)) xs)
        → cond b (f x ∷ filter test (map f xs)) (filter test (map f xs)) ≡ map f (cond b (x ∷ filter (λ y. test (f y)) xs) (filter (λ y. test (f y)) xs))
    by true rest = ap (λ ys. f x ∷ ys) rest
    by false rest = rest

pub map-map : {X Y Z : Type 0} (f : Y → Z) (h : X → Y) (xs : List X) → map f (map h xs) ≡ map (λ x. f (h x)) xs
map-map f h [] = refl
map-map f h (x ∷ xs) = ap (λ ys. f (h x) ∷ ys) (map-map f h xs)
