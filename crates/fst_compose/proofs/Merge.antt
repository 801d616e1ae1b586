-- Two lists with one string between them go side by side in just one way.
use Rattle.std.proofs.Common.{◌≡◌, ℕ, zero, suc, List, [], ◌∷◌, sym, refl, ap, ap₂, ◌∙◌}
use Rattle.fst_machine.specs.Letters.{before}
use Rattle.fst_compose.specs.Composition.{by_label}
use Rattle.fst_compose.specs.Moves.{Move, both, first_only, second_only, firsts, seconds, IsMerge}

-- the string of the labels, without epsilon
abbrev pub word : {X : Type 0} → (X → ℕ) → List X → List ℕ
word label [] = []
word label (x ∷ xs) = before (label x) (word label xs)

-- where the label is epsilon, and where it is not
pub by_label_zero : {X : Type 0} (k : ℕ) (x y : X) → k ≡ 0 → by_label k x y ≡ x
by_label_zero zero x y e = refl
by_label_zero (suc k) x y e = absurd (cc)

pub by_label_other : {X : Type 0} (k : ℕ) (x y : X) → (k ≡ 0 → ⊥) → by_label k x y ≡ y
by_label_other zero x y other = absurd (other refl)
by_label_other (suc k) x y other = refl

module _ {X Y : Type 0} (writes : X → ℕ) (reads : Y → ℕ) where
  -- the second goes on alone
  abbrev pub alone : List Y → List (Move X Y)
  alone [] = []
  alone (y ∷ ys) = second_only y ∷ alone ys

  -- the second goes alone up to the element that x goes with
  abbrev pub meet : (List Y → List (Move X Y)) → X → List Y → List (Move X Y)
  meet rest x [] = []
  meet rest x (y ∷ ys) = by_label (reads y) (second_only y ∷ meet rest x ys) (both x y ∷ rest ys)

  -- two lists side by side
  abbrev pub merge : List X → List Y → List (Move X Y)
  merge [] ys = alone ys
  merge (x ∷ xs) ys = by_label (writes x) (first_only x ∷ merge xs ys) (meet (λ zs. merge xs zs) x ys)

  -- these moves are a way of the two lists
  abbrev Merges : ℕ → List X → List Y → List (Move X Y) → Type 0
  Merges f xs ys ms = IsMerge writes reads f ms × (firsts ms ≡ xs) × (seconds ms ≡ ys)

  alone_is : (f : ℕ) (ys : List Y) → word reads ys ≡ [] → Merges f [] ys (alone ys)
  alone_is f [] e = (tt, refl, refl)
  alone_is f (y ∷ ys) e = by_first (reads y) refl e (λ rest. alone_is 1 ys rest)
    where
      by_first : (k : ℕ) → reads y ≡ k → before k (word reads ys) ≡ [] → (word reads ys ≡ [] → Merges 1 [] ys (alone ys)) → Merges f [] (y ∷ ys) (second_only y ∷ alone ys)
      by_first zero here e more = let r = more e in ((here, r.0), r.1, ap (λ zs. y ∷ zs) r.2)
      by_first (suc k) here e more = absurd (cc)

  meet_is : (rest : List Y → List (Move X Y)) (x : X) (xs : List X) (n : ℕ) → writes x ≡ suc n → ((zs : List Y) → word writes xs ≡ word reads zs → Merges 0 xs zs (rest zs)) → (f : ℕ) (ys : List Y) → suc n ∷ word writes xs ≡ word reads ys → Merges f (x ∷ xs) ys (meet rest x ys)
  meet_is rest x xs n loud more f [] e = absurd (cc)
  meet_is rest x xs n loud more f (y ∷ ys) e = by_first (reads y) refl e (λ later. meet_is rest x xs n loud more 1 ys later)
    where
      by_first : (k : ℕ) → reads y ≡ k → suc n ∷ word writes xs ≡ before k (word reads ys) → (suc n ∷ word writes xs ≡ word reads ys → Merges 1 (x ∷ xs) ys (meet rest x ys)) → Merges f (x ∷ xs) (y ∷ ys) (by_label k (second_only y ∷ meet rest x ys) (both x y ∷ rest ys))
      by_first zero here e later = let r = later e in ((here, r.0), r.1, ap (λ zs. y ∷ zs) r.2)
      by_first (suc k) here e later =
          let labels : suc n ≡ suc k = cc in
          let words : word writes xs ≡ word reads ys = cc in
          let r = more ys words in
          (((loud ∙ (labels ∙ sym here), (λ none. absurd (let wrong : suc n ≡ 0 = sym loud ∙ none in cc))), r.0), ap (λ zs. x ∷ zs) r.1, ap (λ zs. y ∷ zs) r.2)

  -- lists with one string between them go side by side
  pub merge_is : (xs : List X) (ys : List Y) → word writes xs ≡ word reads ys → IsMerge writes reads 0 (merge xs ys) × (firsts (merge xs ys) ≡ xs) × (seconds (merge xs ys) ≡ ys)
  merge_is [] ys e = alone_is 0 ys (sym e)
  merge_is (x ∷ xs) ys e = by_first (writes x) refl e (λ zs more. merge_is xs zs more)
    where
      by_first : (k : ℕ) → writes x ≡ k → before k (word writes xs) ≡ word reads ys → ((zs : List Y) → word writes xs ≡ word reads zs → Merges 0 xs zs (merge xs zs)) → Merges 0 (x ∷ xs) ys (by_label k (first_only x ∷ merge xs ys) (meet (λ zs. merge xs zs) x ys))
      by_first zero here e more = let r = more ys e in (((here, refl), r.0), ap (λ zs. x ∷ zs) r.1, r.2)
      by_first (suc n) here e more = meet_is (λ zs. merge xs zs) x xs n here more 0 ys e

  -- moves that the filter lets through have one string on both sides
  pub merge_matches : (f : ℕ) (ms : List (Move X Y)) → IsMerge writes reads f ms → word writes (firsts ms) ≡ word reads (seconds ms)
  merge_matches f [] h = refl
  merge_matches f (both x y ∷ ms) h = ap₂ before h.0.0 (merge_matches 0 ms h.1)
  merge_matches f (first_only x ∷ ms) h = ap (λ k. before k (word writes (firsts ms))) h.0.0 ∙ merge_matches 0 ms h.1
  merge_matches f (second_only y ∷ ms) h = merge_matches 1 ms h.1 ∙ ap (λ k. before k (word reads (seconds ms))) (sym h.0)

  -- the list begins with a label that is not epsilon
  abbrev BeginsLoud : List X → Type 0
  BeginsLoud [] = Unit {0}
  BeginsLoud (x ∷ xs) = writes x ≡ 0 → ⊥

  -- when the filter is not at 0, what is left of the first does
  begins_loud : (f : ℕ) (ms : List (Move X Y)) → (f ≡ 0 → ⊥) → IsMerge writes reads f ms → BeginsLoud (firsts ms)
  begins_loud f [] shut h = tt
  begins_loud f (both x y ∷ ms) shut h = h.0.1
  begins_loud f (first_only x ∷ ms) shut h = absurd (shut h.0.1)
  begins_loud f (second_only y ∷ ms) shut h = begins_loud 1 ms (λ none. absurd (cc)) h.1

  -- then the second alone goes before it
  merge_second : (xs : List X) (y : Y) (ys : List Y) → BeginsLoud xs → reads y ≡ 0 → merge xs (y ∷ ys) ≡ second_only y ∷ merge xs ys
  merge_second [] y ys loud silent = refl
  merge_second (x ∷ xs) y ys loud silent =
      by_label_other (writes x) (first_only x ∷ merge xs (y ∷ ys)) (meet (λ zs. merge xs zs) x (y ∷ ys)) loud
      ∙ (by_label_zero (reads y) (second_only y ∷ meet (λ zs. merge xs zs) x ys) (both x y ∷ merge xs ys) silent
      ∙ ap (λ zs. second_only y ∷ zs) (sym (by_label_other (writes x) (first_only x ∷ merge xs ys) (meet (λ zs. merge xs zs) x ys) loud)))

  -- and in no other way
  pub merge_only : (f : ℕ) (ms : List (Move X Y)) → IsMerge writes reads f ms → ms ≡ merge (firsts ms) (seconds ms)
  merge_only f [] h = refl
  merge_only f (both x y ∷ ms) h =
      let loud : writes x ≡ 0 → ⊥ = h.0.1 in
      ap (λ zs. both x y ∷ zs) (merge_only 0 ms h.1)
      ∙ sym (by_label_other (writes x) (first_only x ∷ merge (firsts ms) (y ∷ seconds ms)) (meet (λ zs. merge (firsts ms) zs) x (y ∷ seconds ms)) loud
      ∙ by_label_other (reads y) (second_only y ∷ meet (λ zs. merge (firsts ms) zs) x (seconds ms)) (both x y ∷ merge (firsts ms) (seconds ms)) (λ none. loud (h.0.0 ∙ none)))
  merge_only f (first_only x ∷ ms) h =
      ap (λ zs. first_only x ∷ zs) (merge_only 0 ms h.1)
      ∙ sym (by_label_zero (writes x) (first_only x ∷ merge (firsts ms) (seconds ms)) (meet (λ zs. merge (firsts ms) zs) x (seconds ms)) h.0.0)
  merge_only f (second_only y ∷ ms) h =
      ap (λ zs. second_only y ∷ zs) (merge_only 1 ms h.1)
      ∙ sym (merge_second (firsts ms) y (seconds ms) (begins_loud 1 ms (λ none. absurd (cc)) h.1) h.0)
