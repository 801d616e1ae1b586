-- Those of ascending arcs that read one label stand beside each other.
use Rattle.std.proofs.Common.{◌≡◌, ◌≢◌, ℕ, suc, ◌+◌, ◌-◌, ◌<◌, ◌≤◌, Bool, true, false, cond, nat_eq, filter, List, [], ◌∷◌, ◌++◌, length, take, drop, get_or, refl, sym, ap, ap₂, ◌∙◌, subst, append-nil, arith, eq-eqb}
use Rattle.std.specs.List.{slice_range}
use Rattle.std.proofs.lemmas.Bool.{ne_eqb}
use Rattle.std.proofs.lemmas.List.{get_or-drop, get_or-take, get_or_default, length-drop, length-take-le, take-append-drop}
use Rattle.std.proofs.lemmas.List.Elements.{filter-append}
use Rattle.std.proofs.lemmas.List.Folds.{drop_split}
use Rattle.fst_machine.specs.Machine.{Arc}
use Rattle.fst_delayed.specs.Ascending.{Ascends, those_reading}

module _ {X : Type 0} (test : X → Bool) where
  filter_none : (xs : List X) → ((k : ℕ) (d : X) → k < length xs → test (get_or xs k d) ≡ false) → filter test xs ≡ []
  filter_none [] none = refl
  filter_none (x ∷ xs) none = ap (λ (b : Bool). cond b (x ∷ filter test xs) (filter test xs)) (none 0 x (omega arith)) ∙ filter_none xs (λ k d low. none (suc k) d (omega (arith, low)))

  filter_all : (xs : List X) → ((k : ℕ) (d : X) → k < length xs → test (get_or xs k d) ≡ true) → filter test xs ≡ xs
  filter_all [] all = refl
  filter_all (x ∷ xs) all = ap (λ (b : Bool). cond b (x ∷ filter test xs) (filter test xs)) (all 0 x (omega arith)) ∙ ap (λ ys. x ∷ ys) (filter_all xs (λ k d low. all (suc k) d (omega (arith, low))))

  -- what passes passes again
  pub filter_again : (xs : List X) → filter test (filter test xs) ≡ filter test xs
  filter_again [] = refl
  filter_again (x ∷ xs) = by (test x) refl (filter_again xs)
    where
      by : (b : Bool) → test x ≡ b → filter test (filter test xs) ≡ filter test xs → filter test (cond b (x ∷ filter test xs) (filter test xs)) ≡ cond b (x ∷ filter test xs) (filter test xs)
      by true is rest = ap (λ (b : Bool). cond b (x ∷ filter test (filter test xs)) (filter test (filter test xs))) is ∙ ap (λ ys. x ∷ ys) rest
      by false is rest = rest

module _ {V N : Type 0} (arcs : List (Arc V N)) (ascends : Ascends arcs) (place : ℕ) (a : Arc V N) (low : place < length arcs) (is : a ≡ get_or arcs place a) where
  label_there : (d : Arc V N) → a.ilabel ≡ (get_or arcs place d).ilabel
  label_there d = ap (λ (b : Arc V N). b.ilabel) (is ∙ get_or_default arcs place a d low)

  -- no label up to this place is greater
  pub none_greater : (k : ℕ) (d : Arc V N) → k < place + 1 → (get_or arcs k d).ilabel ≤ a.ilabel
  none_greater k d before = subst (λ (n : ℕ). (get_or arcs k d).ilabel ≤ n) (sym (label_there d)) (ascends k place d (omega arith) low)

  -- and none from it on is lower
  pub none_lower : (k : ℕ) (d : Arc V N) → place ≤ k → k < length arcs → a.ilabel ≤ (get_or arcs k d).ilabel
  none_lower k d after within = subst (λ (n : ℕ). n ≤ (get_or arcs k d).ilabel) (sym (label_there d)) (ascends place k d after within)

module _ {V N : Type 0} (arcs : List (Arc V N)) (ascends : Ascends arcs) (label first end : ℕ) (order : first ≤ end) (within : end ≤ length arcs)
    (before : (k : ℕ) (d : Arc V N) → k < first → (get_or arcs k d).ilabel < label) (from : (k : ℕ) (d : Arc V N) → first ≤ k → k < length arcs → label ≤ (get_or arcs k d).ilabel)
    (here : (k : ℕ) (d : Arc V N) → first ≤ k → k < end → (get_or arcs k d).ilabel ≡ label) (next : (d : Arc V N) → end < length arcs → (get_or arcs end d).ilabel ≢ label) where
  in_front : those_reading label (take first arcs) ≡ []
  in_front = filter_none (λ (a : Arc V N). nat_eq a.ilabel label) (take first arcs) (λ k d low.
      let there : k < first = omega (arith, length-take-le first arcs (omega (arith, order, within))) in
      ap (λ (a : Arc V N). nat_eq a.ilabel label) (get_or-take first arcs k d there) ∙ ne_eqb (get_or arcs k d).ilabel label (λ e. let less = before k d there in omega (arith, less, e)))

  between : those_reading label (slice_range arcs first end) ≡ slice_range arcs first end
  between = filter_all (λ (a : Arc V N). nat_eq a.ilabel label) (slice_range arcs first end) (λ k d low.
      let room : end - first ≤ length (drop first arcs) = omega (arith, length-drop first arcs, order, within) in
      let there : k < end - first = omega (arith, length-take-le (end - first) (drop first arcs) room) in
      ap (λ (a : Arc V N). nat_eq a.ilabel label) (get_or-take (end - first) (drop first arcs) k d there ∙ get_or-drop first arcs k d)
      ∙ eq-eqb (get_or arcs (first + k) d).ilabel label (here (first + k) d (omega arith) (omega (arith, there))))

  behind : those_reading label (drop end arcs) ≡ []
  behind = filter_none (λ (a : Arc V N). nat_eq a.ilabel label) (drop end arcs) (λ k d low.
      let some : end + k < length arcs = omega (arith, length-drop end arcs, within, low) in
      ap (λ (a : Arc V N). nat_eq a.ilabel label) (get_or-drop end arcs k d)
      ∙ ne_eqb (get_or arcs (end + k) d).ilabel label (λ e.
      let least = from end d order (omega (arith, some)) in let other = next d (omega (arith, some)) in let more = ascends end (end + k) d (omega arith) some in omega (arith, least, other, more, e)))

  -- they stand between these places
  pub run_is : slice_range arcs first end ≡ those_reading label arcs
  run_is =
      let all : arcs ≡ take first arcs ++ (slice_range arcs first end ++ drop end arcs) = sym (take-append-drop first arcs) ∙ ap (λ ys. take first arcs ++ ys) (drop_split arcs first end order) in
      let rest : those_reading label (slice_range arcs first end ++ drop end arcs) ≡ slice_range arcs first end =
      filter-append (λ (a : Arc V N). nat_eq a.ilabel label) (slice_range arcs first end) (drop end arcs) ∙ (ap₂ (λ (xs ys : List (Arc V N)). xs ++ ys) between behind ∙ append-nil (slice_range arcs first end)) in
      sym (ap (those_reading label) all ∙ (filter-append (λ (a : Arc V N). nat_eq a.ilabel label) (take first arcs) (slice_range arcs first end ++ drop end arcs) ∙ ap₂ (λ (xs ys : List (Arc V N)). xs ++ ys) in_front rest))
