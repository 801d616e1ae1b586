-- Numbers of lines, and answers of the lines with these numbers.
use Rattle.std.proofs.Common.{◌≡◌, ◌⊎◌, inl, inr, ℕ, zero, suc, ◌+◌, ◌-◌, ◌*◌, ◌<◌, ◌≤◌, List, [], ◌∷◌, ◌++◌, Some, length, take, set, get_or, slice_get, refl, sym, ap, ◌∙◌, subst, append_assoc, append-nil, min, arith}
use Rattle.std.specs.List.{AllZip}
use Rattle.std.proofs.lemmas.Bool.{cases_eq, cases_lt}
use Rattle.std.proofs.lemmas.Grind.{flat_map-append}
use Rattle.std.proofs.lemmas.List.{length-append, take_more, take_more_set}
use Rattle.fst_machine.specs.BreadthFirst.{Has}
use Rattle.fst_machine.proofs.Arcs.{at_append_right}
use Rattle.fst_lattice.specs.Phases.{Laborer}
use Rattle.fst_lattice.specs.Runs.{IsAnswerAt, all_lines, job_lines, run}

-- so many numbers, and so many more
pub run_more : (from n m : ℕ) → run from (n + m) ≡ run from n ++ run (from + n) m
run_more from zero m =
    let none : 0 + m ≡ m = omega arith in
    let same : from ≡ from + 0 = omega arith in
    ap (run from) none ∙ ap (λ (f : ℕ). run f m) same
run_more from (suc n) m =
    let sum : suc n + m ≡ suc (n + m) = omega arith in
    let same : (from + 1) + n ≡ from + suc n = omega arith in
    ap (run from) sum ∙ ap (λ xs. from ∷ xs) (run_more (from + 1) n m ∙ ap (λ (f : ℕ). run (from + 1) n ++ run f m) same)

pub run_last : (from n : ℕ) → run from (n + 1) ≡ run from n ++ (from + n) ∷ []
run_last from n = run_more from n 1

-- the numbers from one to another, and from that to a third
pub run_joined : (from mid to : ℕ) → from ≤ mid → mid ≤ to → run from (to - from) ≡ run from (mid - from) ++ run mid (to - mid)
run_joined from mid to low high =
    let sum : to - from ≡ (mid - from) + (to - mid) = omega (arith, low, high) in
    let at : from + (mid - from) ≡ mid = omega (arith, low) in
    ap (run from) sum ∙ (run_more from (mid - from) (to - mid) ∙ ap (λ (f : ℕ). run from (mid - from) ++ run f (to - mid)) at)

pub run_Has : (from n k : ℕ) → from ≤ k → k < from + n → Has (run from n) k
run_Has from zero k low high = absurd (omega (arith, low, high))
run_Has from (suc n) k low high = by (cases_eq from k) (λ low' high'. run_Has (from + 1) n k low' high')
  where
    by : (from ≡ k) ⊎ (from ≡ k → ⊥) → (from + 1 ≤ k → k < (from + 1) + n → Has (run (from + 1) n) k) → Has (from ∷ run (from + 1) n) k
    by (inl e) rest = inl e
    by (inr other) rest = inr (rest (omega (arith, low, other)) (omega (arith, high)))

module _ {A B : Type 0} (R : A → B → Type 0) where
  pub zip_append : (xs : List A) (ys : List B) (xs' : List A) (ys' : List B) → AllZip R xs ys → AllZip R xs' ys' → AllZip R (xs ++ xs') (ys ++ ys')
  zip_append [] [] xs' ys' h k = k
  zip_append [] (y ∷ ys) xs' ys' h k = absurd h
  zip_append (x ∷ xs) [] xs' ys' h k = absurd h
  zip_append (x ∷ xs) (y ∷ ys) xs' ys' h k = (h.0, zip_append xs ys xs' ys' h.1 k)

-- answers of the lines with these numbers are answers of these lines
zip_rest : {A : Type 0} (P : List ℕ → A → Type 0) (front rest : List (List ℕ)) (answers : List A) → AllZip (IsAnswerAt P (front ++ rest)) (run (length front) (length rest)) answers → AllZip P rest answers
zip_rest P front [] [] h = tt
zip_rest P front [] (a ∷ answers) h = absurd h
zip_rest P front (line ∷ rest) [] h = absurd h
zip_rest {A} P front (line ∷ rest) (a ∷ answers) h = (subst (λ (l : List ℕ). P l a) (sym here) h.0.is, zip_rest P (front ++ line ∷ []) rest answers later)
  where
    first : (x y : List ℕ) → Some x ≡ Some y → x ≡ y
    first x y e = cc

    here : line ≡ h.0.line
    here = let at : length front + 0 ≡ length front = omega arith in first line h.0.line (sym (at_append_right front (line ∷ rest) 0 line refl) ∙ (ap (slice_get (front ++ line ∷ rest)) at ∙ h.0.there))

    later : AllZip (IsAnswerAt P ((front ++ line ∷ []) ++ rest)) (run (length (front ++ line ∷ [])) (length rest)) answers
    later =
        let whole : (front ++ line ∷ []) ++ rest ≡ front ++ line ∷ rest = append_assoc front (line ∷ []) rest in
        let long : length (front ++ line ∷ []) ≡ length front + 1 = length-append front (line ∷ []) in
        subst (λ (ls : List (List ℕ)). AllZip (IsAnswerAt P ls) (run (length (front ++ line ∷ [])) (length rest)) answers) (sym whole)
        (subst (λ (n : ℕ). AllZip (IsAnswerAt P (front ++ line ∷ rest)) (run n (length rest)) answers) (sym long) h.1)

pub zip_lines : {A : Type 0} (P : List ℕ → A → Type 0) (lines : List (List ℕ)) (answers : List A) → AllZip (IsAnswerAt P lines) (run 0 (length lines)) answers → AllZip P lines answers
zip_lines P lines answers h = zip_rest P [] lines answers h

module _ {V M : Type 0} where
  -- the lines of one worker more
  pub lines_more : (ws : List (Laborer V M)) (i : ℕ) (w : Laborer V M) → i < length ws → slice_get ws i ≡ Some w → all_lines (take (i + 1) ws) ≡ all_lines (take i ws) ++ job_lines w.jobs
  lines_more ws i w low at =
      ap all_lines (take_more ws i w low ∙ ap (λ (x : Laborer V M). take i ws ++ x ∷ []) (here ws i w at)) ∙ (flat_map-append (λ (x : Laborer V M). job_lines x.jobs) (take i ws) (w ∷ []) ∙ ap (λ xs. all_lines (take i ws) ++ xs) (append-nil (job_lines w.jobs)))
    where
      here : (xs : List (Laborer V M)) (i : ℕ) (x : Laborer V M) → slice_get xs i ≡ Some x → get_or xs i x ≡ x
      here [] i x e = absurd (cc)
      here (y ∷ xs) zero x e = cc
      here (y ∷ xs) (suc i) x e = here xs i x e

  -- the lines of those before one that is changed, and of that
  pub lines_changed : (ws : List (Laborer V M)) (i : ℕ) (w : Laborer V M) → i < length ws → all_lines (take (i + 1) (set ws i w)) ≡ all_lines (take i ws) ++ job_lines w.jobs
  lines_changed ws i w low =
      ap all_lines (take_more_set ws i w low) ∙ (flat_map-append (λ (x : Laborer V M). job_lines x.jobs) (take i ws) (w ∷ []) ∙ ap (λ xs. all_lines (take i ws) ++ xs) (append-nil (job_lines w.jobs)))

-- how far lines are dealt to so many workers: all of them, or a share to each worker
abbrev pub IsFar : ℕ → ℕ → ℕ → ℕ → ℕ → Type 0
IsFar from to share i next = (next ≡ to) ⊎ (next ≡ from + share * i)

times_one : (a b : ℕ) → a * (b + 1) ≡ a * b + a
times_one zero b = omega arith
times_one (suc a) b = let rest = times_one a b in omega (arith, rest)

pub goes_far : (from to share i next : ℕ) → next ≤ to → IsFar from to share i next → IsFar from to share (i + 1) (next + min share (to - next))
goes_far from to share i next high (inl all) = inl (omega (arith, all))
goes_far from to share i next high (inr part) = by (cases_lt share (to - next))
  where
    by : (share < to - next) ⊎ (to - next ≤ share) → IsFar from to share (i + 1) (next + min share (to - next))
    by (inl less) = inr (let p = times_one share i in omega (arith, less, part, p))
    by (inr more) = inl (omega (arith, more, high))

-- where each worker got a share, all lines are dealt
pub all_far : (from to share count next : ℕ) → to - from ≤ share * count → from ≤ to → next ≤ to → IsFar from to share count next → next ≡ to
all_far from to share count next enough order few (inl all) = all
all_far from to share count next enough order few (inr part) = omega (arith, enough, order, few, part)
