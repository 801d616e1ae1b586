-- A long list, each of whose ends has one of few keys, has two ends with one key.
use Rattle.std.proofs.Common.{◌≡◌, ◌⊎◌, inl, inr, ℕ, ◌<◌, List, [], ◌∷◌, ◌++◌, suc, length, sym, refl, ap, ◌∙◌, arith}
use Rattle.fst_machine.specs.BreadthFirst.{Has, Apart}
use Rattle.fst_machine.proofs.Elements.{Apart_below, find_number}

module _ {X : Type 0} (key : List X → ℕ) where
  -- the keys of the ends of a list, itself among them, without the empty one
  abbrev pub keys : List X → List ℕ
  keys [] = []
  keys (x ∷ xs) = key (x ∷ xs) ∷ keys xs

  -- Two ends of the list, of which the one begins before the other, have one key.
  pub record Repeats (xs : List X) : Type 0 where
    pub front : List X
    pub first : X
    pub between : List X
    pub second : X
    pub back : List X
    pub same : xs ≡ front ++ ((first ∷ between) ++ (second ∷ back))
    pub alike : key ((first ∷ between) ++ (second ∷ back)) ≡ key (second ∷ back)

  keys-length : (xs : List X) → length (keys xs) ≡ length xs
  keys-length [] = refl
  keys-length (x ∷ xs) = ap suc (keys-length xs)

  -- a key that occurs is that of an end
  end_of : (xs : List X) (k : ℕ) → Has (keys xs) k → (front : List X) × (x : X) × (back : List X) × (xs ≡ front ++ (x ∷ back)) × (key (x ∷ back) ≡ k)
  end_of [] k h = absurd h
  end_of (x ∷ xs) k (inl e) = ([], x, xs, refl, e)
  end_of (x ∷ xs) k (inr h) = let rest = end_of xs k h in (x ∷ rest.0, rest.1, rest.2, ap (λ ys. x ∷ ys) rest.3, rest.4)

  apart_or_repeats : (xs : List X) → Apart (keys xs) ⊎ Repeats xs
  apart_or_repeats [] = inl tt
  apart_or_repeats (x ∷ xs) = by_head (find_number (keys xs) (key (x ∷ xs))) (apart_or_repeats xs)
    where
      by_head : Has (keys xs) (key (x ∷ xs)) ⊎ (Has (keys xs) (key (x ∷ xs)) → ⊥) → Apart (keys xs) ⊎ Repeats xs → Apart (keys (x ∷ xs)) ⊎ Repeats (x ∷ xs)
      by_head (inl h) rest =
          let end = end_of xs (key (x ∷ xs)) h in
          let whole : x ∷ xs ≡ (x ∷ end.0) ++ (end.1 ∷ end.2) = ap (λ ys. x ∷ ys) end.3 in
          inr (record { front = []; first = x; between = end.0; second = end.1; back = end.2; same = whole; alike = ap key (sym whole) ∙ sym end.4 })
      by_head (inr none) (inl apart) = inl (none, apart)
      by_head (inr none) (inr r) = inr (record { front = x ∷ r.front; first = r.first; between = r.between; second = r.second; back = r.back; same = ap (λ ys. x ∷ ys) r.same; alike = r.alike })

  -- a list longer than the number of keys has two ends with one key
  pub long_repeats : (n : ℕ) (xs : List X) → ((k : ℕ) → Has (keys xs) k → k < n) → n < length xs → Repeats xs
  long_repeats n xs low long = by_case (apart_or_repeats xs)
    where
      by_case : Apart (keys xs) ⊎ Repeats xs → Repeats xs
      by_case (inl apart) = absurd (let few = Apart_below n (keys xs) apart low in let same = keys-length xs in omega arith)
      by_case (inr r) = r
