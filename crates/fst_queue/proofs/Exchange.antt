-- Two states of a heap change places.
use Rattle.std.proofs.Common.{◌≡◌, ◌≢◌, ◌⊎◌, ◌↔◌, inl, inr, ℕ, ◌+◌, ◌<◌, List, length, set, get_or, sym, ap, ◌∙◌, subst, arith}
use Rattle.std.proofs.lemmas.Bool.{cases_eq}
use Rattle.std.proofs.lemmas.List.{get_or-set_same, get_or-set_other, length-set}
use Rattle.fst_queue.specs.Heap.{Linked, SamePresent}

module _ (heap places : List ℕ) (size a b first second : ℕ) (linked : Linked heap places size) (la : a < length heap) (lb : b < length heap) (is_first : get_or heap a 0 ≡ first) (is_second : get_or heap b 0 ≡ second) where
  abbrev exchanged : List ℕ
  exchanged = set (set heap a second) b first

  abbrev replaced : List ℕ
  replaced = set (set places second (a + 1)) first (b + 1)

  first_low : (first < length places) × (first < size)
  first_low = subst (λ (n : ℕ). (n < length places) × (n < size)) is_first (linked.low a la)

  second_low : (second < length places) × (second < size)
  second_low = subst (λ (n : ℕ). (n < length places) × (n < size)) is_second (linked.low b lb)

  first_was : get_or places first 0 ≡ a + 1
  first_was = subst (λ (n : ℕ). get_or places n 0 ≡ a + 1) is_first (linked.placed a la)

  second_was : get_or places second 0 ≡ b + 1
  second_was = subst (λ (n : ℕ). get_or places n 0 ≡ b + 1) is_second (linked.placed b lb)

  at_b : get_or exchanged b 0 ≡ first
  at_b = get_or-set_same (set heap a second) b first 0 (omega (arith, length-set heap a second))

  at_a : a ≢ b → get_or exchanged a 0 ≡ second
  at_a other = get_or-set_other (set heap a second) b a first 0 other ∙ get_or-set_same heap a second 0 la

  at_other : (i : ℕ) → i ≢ a → i ≢ b → get_or exchanged i 0 ≡ get_or heap i 0
  at_other i na nb = get_or-set_other (set heap a second) b i first 0 nb ∙ get_or-set_other heap a i second 0 na

  of_first : get_or replaced first 0 ≡ b + 1
  of_first = get_or-set_same (set places second (a + 1)) first (b + 1) 0 (omega (arith, length-set places second (a + 1), first_low.0))

  of_second : second ≢ first → get_or replaced second 0 ≡ a + 1
  of_second other = get_or-set_other (set places second (a + 1)) first second (b + 1) 0 other ∙ get_or-set_same places second (a + 1) 0 second_low.0

  of_other : (q : ℕ) → q ≢ first → q ≢ second → get_or replaced q 0 ≡ get_or places q 0
  of_other q nf ns = get_or-set_other (set places second (a + 1)) first q (b + 1) 0 nf ∙ get_or-set_other places second q (a + 1) 0 ns

  apart : a ≢ b → second ≢ first
  apart other e = other (let same : b + 1 ≡ a + 1 = sym second_was ∙ ap (λ (n : ℕ). get_or places n 0) e ∙ first_was in omega arith)

  sizes : length replaced ≡ length places
  sizes = length-set (set places second (a + 1)) first (b + 1) ∙ length-set places second (a + 1)

  lengths : length exchanged ≡ length heap
  lengths = length-set (set heap a second) b first ∙ length-set heap a second

  -- what is in a place after the exchange, with its place in the table
  here : (i : ℕ) → i < length heap → ((get_or exchanged i 0 < length places) × (get_or exchanged i 0 < size)) × (get_or replaced (get_or exchanged i 0) 0 ≡ i + 1)
  here i li = by_b (cases_eq i b) (cases_eq i a)
    where
      by_b : (i ≡ b) ⊎ (i ≡ b → ⊥) → (i ≡ a) ⊎ (i ≡ a → ⊥) → ((get_or exchanged i 0 < length places) × (get_or exchanged i 0 < size)) × (get_or replaced (get_or exchanged i 0) 0 ≡ i + 1)
      by_b (inl e) other =
          let is : get_or exchanged i 0 ≡ first = ap (λ (j : ℕ). get_or exchanged j 0) e ∙ at_b in
          subst (λ (n : ℕ). ((n < length places) × (n < size)) × (get_or replaced n 0 ≡ i + 1)) (sym is) (first_low, of_first ∙ ap (λ (j : ℕ). j + 1) (sym e))
      by_b (inr nb) (inl e) =
          let differ : a ≢ b = λ h. nb (e ∙ h) in
          let is : get_or exchanged i 0 ≡ second = ap (λ (j : ℕ). get_or exchanged j 0) e ∙ at_a differ in
          subst (λ (n : ℕ). ((n < length places) × (n < size)) × (get_or replaced n 0 ≡ i + 1)) (sym is) (second_low, of_second (apart differ) ∙ ap (λ (j : ℕ). j + 1) (sym e))
      by_b (inr nb) (inr na) =
          let is : get_or exchanged i 0 ≡ get_or heap i 0 = at_other i na nb in
          let not_first : get_or heap i 0 ≢ first = λ h. na (let same : i + 1 ≡ a + 1 = sym (linked.placed i li) ∙ ap (λ (n : ℕ). get_or places n 0) h ∙ first_was in omega arith) in
          let not_second : get_or heap i 0 ≢ second = λ h. nb (let same : i + 1 ≡ b + 1 = sym (linked.placed i li) ∙ ap (λ (n : ℕ). get_or places n 0) h ∙ second_was in omega arith) in
          subst (λ (n : ℕ). ((n < length places) × (n < size)) × (get_or replaced n 0 ≡ i + 1)) (sym is) (linked.low i li, of_other (get_or heap i 0) not_first not_second ∙ linked.placed i li)

  back : (q i : ℕ) → get_or replaced q 0 ≡ i + 1 → (i < length heap) × (get_or exchanged i 0 ≡ q)
  back q i e = by_first (cases_eq q first) (cases_eq q second)
    where
      by_first : (q ≡ first) ⊎ (q ≡ first → ⊥) → (q ≡ second) ⊎ (q ≡ second → ⊥) → (i < length heap) × (get_or exchanged i 0 ≡ q)
      by_first (inl f) other =
          let same : i + 1 ≡ b + 1 = sym e ∙ ap (λ (n : ℕ). get_or replaced n 0) f ∙ of_first in
          let is : i ≡ b = omega arith in
          (omega arith, ap (λ (j : ℕ). get_or exchanged j 0) is ∙ at_b ∙ sym f)
      by_first (inr nf) (inl s) =
          let other : second ≢ first = λ h. nf (s ∙ h) in
          let same : i + 1 ≡ a + 1 = sym e ∙ ap (λ (n : ℕ). get_or replaced n 0) s ∙ of_second other in
          let is : i ≡ a = omega arith in
          let differ : a ≢ b = λ h. other (sym is_second ∙ ap (λ (j : ℕ). get_or heap j 0) (sym h) ∙ is_first) in
          (omega arith, ap (λ (j : ℕ). get_or exchanged j 0) is ∙ at_a differ ∙ sym s)
      by_first (inr nf) (inr ns) =
          let was = linked.back q i (sym (of_other q nf ns) ∙ e) in
          let na : i ≢ a = λ h. nf (sym was.1 ∙ ap (λ (j : ℕ). get_or heap j 0) h ∙ is_first) in
          let nb : i ≢ b = λ h. ns (sym was.1 ∙ ap (λ (j : ℕ). get_or heap j 0) h ∙ is_second) in
          (was.0, at_other i na nb ∙ was.1)

  pub exchange_linked : Linked (set (set heap a second) b first) (set (set places second (a + 1)) first (b + 1)) size
  exchange_linked = record {
    low = λ i low. let right = here i (omega (arith, lengths, low)) in (omega (arith, sizes, right.0.0), right.0.1);
    placed = λ i low. (here i (omega (arith, lengths, low))).1;
    back = λ q i e. let was = back q i e in (omega (arith, lengths, was.0), was.1);
  }

  pub exchange_same : SamePresent places (set (set places second (a + 1)) first (b + 1))
  exchange_same q = by_first (cases_eq q first) (cases_eq q second)
    where
      by_first : (q ≡ first) ⊎ (q ≡ first → ⊥) → (q ≡ second) ⊎ (q ≡ second → ⊥) → (get_or replaced q 0 ≡ 0) ↔ (get_or places q 0 ≡ 0)
      by_first (inl f) other =
          let new : get_or replaced q 0 ≡ b + 1 = ap (λ (n : ℕ). get_or replaced n 0) f ∙ of_first in
          let old : get_or places q 0 ≡ a + 1 = ap (λ (n : ℕ). get_or places n 0) f ∙ first_was in
          ((λ h. absurd (omega arith)), λ h. absurd (omega arith))
      by_first (inr nf) (inl s) =
          let new : get_or replaced q 0 ≡ a + 1 = ap (λ (n : ℕ). get_or replaced n 0) s ∙ of_second (λ h. nf (s ∙ h)) in
          let old : get_or places q 0 ≡ b + 1 = ap (λ (n : ℕ). get_or places n 0) s ∙ second_was in
          ((λ h. absurd (omega arith)), λ h. absurd (omega arith))
      by_first (inr nf) (inr ns) = let kept = of_other q nf ns in ((λ h. sym kept ∙ h), λ h. kept ∙ h)

pub SamePresent-trans : (old mid new : List ℕ) → SamePresent old mid → SamePresent mid new → SamePresent old new
SamePresent-trans old mid new first second q = ((λ h. (first q).0 ((second q).0 h)), λ h. (second q).1 ((first q).1 h))
