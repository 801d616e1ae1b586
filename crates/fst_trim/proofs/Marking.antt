-- The places of marks, and their numbers.
use Rattle.std.proofs.Common.{◌≡◌, ◌⊎◌, ◌↔◌, inl, inr, ℕ, ◌+◌, ◌<◌, ◌≤◌, zero, suc, Bool, true, false, cond, List, [], ◌∷◌, ◌++◌, Some, length, get_or, take, slice_get, refl, sym, ap, ◌∙◌, subst, arith}
use Rattle.std.proofs.lemmas.List.{length-append, length-take-le, get_or_past}
use Rattle.std.specs.Bool.{Decides}
use Rattle.std.specs.Int.{from_bool}
use Rattle.std.proofs.lemmas.Bool.{cases_lt}
use Rattle.fst_machine.specs.BreadthFirst.{Apart, Has}
use Rattle.fst_machine.proofs.Elements.{at_Has}
use Rattle.fst_machine.specs.Renumbered.{IsNumbering, marked}
use Rattle.fst_trim.specs.Counted.{IsCount}

-- one place more
pub marked-more : (at : ℕ) (marks : List Bool) (p : ℕ) → p < length marks → marked at (take (p + 1) marks) ≡ marked at (take p marks) ++ cond (get_or marks p false) ((at + p) ∷ []) []
marked-more at [] p low = absurd (omega arith)
marked-more at (true ∷ marks) zero low = let here : at ≡ at + 0 = omega arith in ap (λ (k : ℕ). k ∷ []) here
marked-more at (false ∷ marks) zero low = refl
marked-more at (m ∷ marks) (suc p) low =
    let rest = marked-more (at + 1) marks p (omega arith) in
    let next : suc p + 1 ≡ suc (p + 1) = omega arith in
    let place : at + 1 + p ≡ at + suc p = omega arith in
    ap (λ (k : ℕ). marked at (take k (m ∷ marks))) next ∙ by_mark m (rest ∙ ap (λ (k : ℕ). marked (at + 1) (take p marks) ++ cond (get_or marks p false) (k ∷ []) []) place)
  where
    by_mark : (b : Bool) → marked (at + 1) (take (p + 1) marks) ≡ marked (at + 1) (take p marks) ++ cond (get_or marks p false) ((at + suc p) ∷ []) [] → marked at (b ∷ take (p + 1) marks) ≡ marked at (b ∷ take p marks) ++ cond (get_or marks p false) ((at + suc p) ∷ []) []
    by_mark true rest = ap (λ ns. at ∷ ns) rest
    by_mark false rest = rest

pub marked-few : (at : ℕ) (marks : List Bool) → length (marked at marks) ≤ length marks
marked-few at [] = omega arith
marked-few at (true ∷ marks) = let rest = marked-few (at + 1) marks in omega arith
marked-few at (false ∷ marks) = let rest = marked-few (at + 1) marks in omega arith

-- a marked place stands where its number says
pub marked_at : (at : ℕ) (marks : List Bool) (p : ℕ) → get_or marks p false ≡ true → slice_get (marked at marks) (length (marked at (take p marks))) ≡ Some (at + p)
marked_at at [] p is = absurd (let wrong : false ≡ true = is in cc)
marked_at at (true ∷ marks) zero is = let here : at ≡ at + 0 = omega arith in ap Some here
marked_at at (false ∷ marks) zero is = absurd (let wrong : false ≡ true = is in cc)
marked_at at (true ∷ marks) (suc p) is = let place : at + 1 + p ≡ at + suc p = omega arith in marked_at (at + 1) marks p is ∙ ap Some place
marked_at at (false ∷ marks) (suc p) is = let place : at + 1 + p ≡ at + suc p = omega arith in marked_at (at + 1) marks p is ∙ ap Some place

-- what stands there is a marked place
pub marked_from : (at : ℕ) (marks : List Bool) (q : ℕ) → Has (marked at marks) q → (j : ℕ) × (q ≡ at + j) × (get_or marks j false ≡ true)
marked_from at [] q has = absurd has
marked_from at (true ∷ marks) q (inl same) = (0, omega arith, refl)
marked_from at (true ∷ marks) q (inr has) = let rest = marked_from (at + 1) marks q has in (suc rest.0, omega (arith, rest.1), rest.2)
marked_from at (false ∷ marks) q has = let rest = marked_from (at + 1) marks q has in (suc rest.0, omega (arith, rest.1), rest.2)

-- the marks decide what stands in the list
pub marked_is : (marks : List Bool) (p : ℕ) → Has (marked 0 marks) p ↔ (get_or marks p false ≡ true)
marked_is marks p = (there, back)
  where
    there : Has (marked 0 marks) p → get_or marks p false ≡ true
    there has = let from = marked_from 0 marks p has in let same : from.0 ≡ p = omega (arith, from.1) in subst (λ (k : ℕ). get_or marks k false ≡ true) same from.2

    back : get_or marks p false ≡ true → Has (marked 0 marks) p
    back is = let here : 0 + p ≡ p = omega arith in at_Has (marked 0 marks) (length (marked 0 (take p marks))) p (marked_at 0 marks p is ∙ ap Some here)

-- they stand in ascending order
pub marked-ascends : (at : ℕ) (marks : List Bool) (i j p q : ℕ) → i < j → slice_get (marked at marks) i ≡ Some p → slice_get (marked at marks) j ≡ Some q → p < q
marked-ascends at [] i j p q low there behind = absurd (cc)
marked-ascends at (true ∷ marks) i zero p q low there behind = absurd (omega arith)
marked-ascends at (true ∷ marks) zero (suc j) p q low there behind =
    let same : at ≡ p = cc in
    let from = marked_from (at + 1) marks q (at_Has (marked (at + 1) marks) j q behind) in
    omega (arith, from.1)
marked-ascends at (true ∷ marks) (suc i) (suc j) p q low there behind = marked-ascends (at + 1) marks i j p q (omega arith) there behind
marked-ascends at (false ∷ marks) i j p q low there behind = marked-ascends (at + 1) marks i j p q low there behind

-- each in one place
pub marked-once : (marks : List Bool) (i j p : ℕ) → slice_get (marked 0 marks) i ≡ Some p → slice_get (marked 0 marks) j ≡ Some p → i ≡ j
marked-once marks i j p one two = by_order (cases_lt i j) (cases_lt j i)
  where
    by_order : (i < j) ⊎ (j ≤ i) → (j < i) ⊎ (i ≤ j) → i ≡ j
    by_order (inl before) other = absurd (let wrong = marked-ascends 0 marks i j p p before one two in omega arith)
    by_order (inr high) (inl before) = absurd (let wrong = marked-ascends 0 marks j i p p before two one in omega arith)
    by_order (inr high) (inr low) = omega arith

-- the number of a marked place
pub number_at : (marks : List Bool) (numbers : List ℕ) (p : ℕ) → IsNumbering marks numbers → get_or marks p false ≡ true → slice_get (marked 0 marks) (get_or numbers p 0) ≡ Some p
number_at marks numbers p n is = by_place (cases_lt p (length marks))
  where
    by_place : (p < length marks) ⊎ (length marks ≤ p) → slice_get (marked 0 marks) (get_or numbers p 0) ≡ Some p
    by_place (inl low) = let here : 0 + p ≡ p = omega arith in ap (slice_get (marked 0 marks)) (n.counts p low) ∙ (marked_at 0 marks p is ∙ ap Some here)
    by_place (inr past) = absurd (let wrong : false ≡ true = sym (get_or_past marks p false past) ∙ is in cc)

-- how many are marked up to the next place
pub count_more : (marks : List Bool) (i : ℕ) → i < length marks → length (marked 0 (take (i + 1) marks)) ≡ length (marked 0 (take i marks)) + cond (get_or marks i false) 1 0
count_more marks i low = ap length (marked-more 0 marks i low) ∙ (length-append (marked 0 (take i marks)) (cond (get_or marks i false) ((0 + i) ∷ []) []) ∙ ap (λ (n : ℕ). length (marked 0 (take i marks)) + n) (one (get_or marks i false)))
  where
    one : (b : Bool) → length (cond b ((0 + i) ∷ []) []) ≡ cond b 1 0
    one true = refl
    one false = refl

-- a mark as a number
pub as_number : (b : Bool) → from_bool b ≡ cond b 1 0
as_number true = refl
as_number false = refl

-- they are no more than the places
pub count_fits : (marks : List Bool) (i : ℕ) → i < length marks → length (marked 0 (take i marks)) + cond (get_or marks i false) 1 0 ≤ length marks
count_fits marks i low =
    let few = marked-few 0 (take i marks) in
    let cut = length-take-le i marks (omega arith) in
    let more = one_or_none (get_or marks i false) in
    omega arith
  where
    one_or_none : (b : Bool) → cond b 1 0 ≤ 1
    one_or_none true = omega arith
    one_or_none false = omega arith

-- no place stands twice
pub marked-apart : (at : ℕ) (marks : List Bool) → Apart (marked at marks)
marked-apart at [] = tt
marked-apart at (true ∷ marks) = ((λ has. let from = marked_from (at + 1) marks at has in omega (arith, from.1)), marked-apart (at + 1) marks)
marked-apart at (false ∷ marks) = marked-apart (at + 1) marks

-- so the marks count what they decide
pub marks_count : (P : ℕ → Type 0) (items marks : List Bool) (count : ℕ) → marks ≡ items → ((p : ℕ) → Decides (get_or items p false) (P p)) → count ≡ length (marked 0 marks) → IsCount P count
marks_count P items marks count same decides counted = record {
  names = marked 0 items;
  apart = marked-apart 0 items;
  are = λ p. ((λ has. (decides p).0 ((marked_is items p).0 has)), (λ h. (marked_is items p).1 ((decides p).1 h)));
  many = counted ∙ ap (λ (ms : List Bool). length (marked 0 ms)) same;
}
