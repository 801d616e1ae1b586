-- Rules as they are kept: a list, and a table of the places of the labels.
use Rattle.std.proofs.Common.{rules, ◌≡◌, ◌⊎◌, inl, inr, ℕ, ◌+◌, ◌<◌, ◌≤◌, true, false, ◌||◌, ◌==◌, Bool, not, suc, cond, get_or, length, List, [], ◌∷◌, ◌++◌, map, slice_get, is_some, Option, None, Some, refl, sym, ap, ◌∙◌, subst, arith}
use Rattle.std.specs.Prelude.{nat_eq}
use Rattle.std.specs.List.{All, IsDistinct, list_any, position_or_len}
use Rattle.std.specs.Option.{option_map}
use Rattle.std.specs.Cmp.{nat_eq_equiv}
use Rattle.std.proofs.lemmas.Bool.Decides.{nat_tests}
use Rattle.std.proofs.lemmas.Bool.{cases_eq}
use Rattle.std.proofs.lemmas.List.{length-append, length-map, length_push, map-append}
use Rattle.std.proofs.lemmas.List.Elements.{All-push, All-cons, All-nil}
use Rattle.std.proofs.lemmas.Option.{slice_get-map, slice_get_read}
use Rattle.std.proofs.lemmas.Map.Keys.{IsDistinct-push}
use Rattle.std.proofs.lemmas.List.Folds.{list_any_at, position_or_len_push}
use Rattle.std.proofs.lemmas.List.Quantifiers.{position-Some}
use Rattle.std.proofs.lemmas.List.Sums.{prefix_len-le-length}
use Rattle.fst_semiring.specs.Cost.{Cost}
use Rattle.fst_machine.specs.BreadthFirst.{Has}
use Rattle.fst_machine.specs.Machine.{IsMachine, greatest_label}
use Rattle.fst_rational.proofs.Reading.{none_of}
use Rattle.fst_replace.specs.Rules.{AreKept, IsRules, Labelled, labels_of, place_of}

eq_true : (n x : ℕ) → n ≡ x → nat_eq n x ≡ true
eq_true n x e = grind (arith, nat_tests)

eq_false : (n x : ℕ) → (x ≡ n → ⊥) → nat_eq n x ≡ false
eq_false n x e = grind (arith, nat_tests)

-- a number is in a list where a test finds it
pub any_Has : (n : ℕ) (xs : List ℕ) → list_any (nat_eq n) xs ≡ true → Has xs n
any_Has n [] e = absurd (cc)
any_Has n (x ∷ xs) e = by_place (any_Has n xs) (cases_eq x n)
  where
    by_place : (list_any (nat_eq n) xs ≡ true → Has xs n) → (x ≡ n) ⊎ (x ≡ n → ⊥) → Has (x ∷ xs) n
    by_place more (inl same) = inl same
    by_place more (inr other) = inr (more (ap (λ b. b || list_any (nat_eq n) xs) (sym (eq_false n x other)) ∙ e))

pub Has_any : (n : ℕ) (xs : List ℕ) → Has xs n → list_any (nat_eq n) xs ≡ true
Has_any n [] h = absurd h
Has_any n (x ∷ xs) (inl same) = ap (λ b. b || list_any (nat_eq n) xs) (eq_true n x (sym same))
Has_any n (x ∷ xs) (inr h) = by_place (Has_any n xs h) (cases_eq x n)
  where
    by_place : list_any (nat_eq n) xs ≡ true → (x ≡ n) ⊎ (x ≡ n → ⊥) → list_any (nat_eq n) (x ∷ xs) ≡ true
    by_place more (inl same) = ap (λ b. b || list_any (nat_eq n) xs) (eq_true n x (sym same))
    by_place more (inr other) = ap (λ b. b || list_any (nat_eq n) xs) (eq_false n x other) ∙ more

-- none passes a test where the first that passes is past the end
none_passes : (p : ℕ → Bool) (xs : List ℕ) → length xs ≤ position_or_len p xs → list_any p xs ≡ false
none_passes p [] past = refl
none_passes p (x ∷ xs) past = go (p x) past (none_passes p xs)
  where
    go : (b : Bool) → suc (length xs) ≤ cond (not b) (1 + position_or_len p xs) 0 → (length xs ≤ position_or_len p xs → list_any p xs ≡ false) → (b || list_any p xs) ≡ false
    go true wrong more = absurd (omega arith)
    go false past more = more (omega arith)

past : (labels : List ℕ) (n : ℕ) → place_of labels n ≡ None → length labels ≤ position_or_len (nat_eq n) labels
past labels n none = grind (arith, nat_tests)

-- a label without a place is none of the labels
pub none_any : (labels : List ℕ) (n : ℕ) → place_of labels n ≡ None → list_any (nat_eq n) labels ≡ false
none_any labels n none = none_passes (nat_eq n) labels (past labels n none)

-- a label has a place where it is one of the labels
pub place_within : (labels : List ℕ) (n i : ℕ) → place_of labels n ≡ Some i → i < length labels
place_within labels n i e = (position-Some (nat_eq n) labels i 0 e).0

pub taken : (labels : List ℕ) (n : ℕ) (r : Option ℕ) → r ≡ place_of labels n → is_some r ≡ true → Has labels n
taken labels n None e there = absurd (cc)
taken labels n (Some i) e there = let at = position-Some (nat_eq n) labels i 0 (sym e) in any_Has n labels (list_any_at (nat_eq n) labels i 0 at.0 at.1)

pub free : (labels : List ℕ) (n : ℕ) (r : Option ℕ) → r ≡ place_of labels n → is_some r ≡ false → Has labels n → ⊥
free labels n r e none h = absurd (let wrong = sym (Has_any n labels h) ∙ none_any labels n (sym e ∙ none_of r none) in cc)

-- the place of a label, with one label more
pub place_of-push : (labels : List ℕ) (n m : ℕ) → place_of labels n ≡ None → place_of (labels ++ n ∷ []) m ≡ cond (m == n) (Some (length labels)) (place_of labels m)
place_of-push labels n m none = go (cases_eq m n)
  where
    go : (m ≡ n) ⊎ (m ≡ n → ⊥) → place_of (labels ++ n ∷ []) m ≡ cond (m == n) (Some (length labels)) (place_of labels m)
    go (inl same) =
        let less = past labels m (ap (place_of labels) same ∙ none) in
        let most = prefix_len-le-length (λ x. not (nat_eq m x)) labels in
        let test = eq_true m n same in
        let first = position_or_len_push (nat_eq m) labels n in
        let longer = length_push labels n in
        grind (arith, nat_tests)
    go (inr other) =
        let test = eq_false m n (λ e. other (sym e)) in
        let most = prefix_len-le-length (λ x. not (nat_eq m x)) labels in
        let first = position_or_len_push (nat_eq m) labels n in
        let longer = length_push labels n in
        grind (arith, nat_tests)

module _ {V : Type 0} (value : V → Cost) where
  -- one rule alone
  pub IsRules-one : (r : Labelled V) → 0 < r.label → r.label ≤ greatest_label → IsMachine value r.machine → IsRules value (r ∷ [])
  unfolding IsDistinct
  IsRules-one r low high good = record {
    root = omega arith;
    distinct = search rules;
    labels = All-cons (λ (l : ℕ). (0 < l) × (l ≤ greatest_label)) r.label [] (low, high) (All-nil _);
    machines = All-cons (λ (r : Labelled V). IsMachine value r.machine) r [] good (All-nil _);
  }

  pub AreKept-one : (r : Labelled V) (places : ℕ → Option ℕ) → 0 < r.label → r.label ≤ greatest_label → IsMachine value r.machine → ((n : ℕ) → places n ≡ cond (n == r.label) (Some 0) None) → AreKept value (r ∷ []) places
  AreKept-one r places low high good told = record { rules = IsRules-one r low high good; found = λ n. told n ∙ sym (place_of-push [] r.label n refl) }

  -- one rule more
  pub IsRules-push : (rules : List (Labelled V)) (r : Labelled V) → IsRules value rules → 0 < r.label → r.label ≤ greatest_label → IsMachine value r.machine → place_of (labels_of rules) r.label ≡ None → IsRules value (rules ++ r ∷ [])
  IsRules-push rules r h low high good none =
      let more : labels_of (rules ++ r ∷ []) ≡ labels_of rules ++ r.label ∷ [] = map-append (λ (r : Labelled V). r.label) rules (r ∷ []) in
      record {
        root = omega (arith, length-append rules (r ∷ []));
        distinct = subst (IsDistinct nat_eq) (sym more) (IsDistinct-push nat_eq_equiv (labels_of rules) r.label h.distinct (none_any (labels_of rules) r.label none));
        labels = subst (All (λ l. (0 < l) × (l ≤ greatest_label))) (sym more) (All-push (λ (l : ℕ). (0 < l) × (l ≤ greatest_label)) (labels_of rules) r.label h.labels (low, high));
        machines = All-push (λ (r : Labelled V). IsMachine value r.machine) rules r h.machines good;
      }

  pub AreKept-push : (rules : List (Labelled V)) (r : Labelled V) (places more : ℕ → Option ℕ) → AreKept value rules places → 0 < r.label → r.label ≤ greatest_label → IsMachine value r.machine → place_of (labels_of rules) r.label ≡ None → ((n : ℕ) → more n ≡ cond (n == r.label) (Some (length rules)) (places n)) → AreKept value (rules ++ r ∷ []) more
  AreKept-push rules r places more kept low high good none told = record {
    rules = IsRules-push rules r kept.rules low high good none;
    found = λ n.
        told n ∙ ap (λ (o : Option ℕ). cond (n == r.label) (Some (length rules)) o) (kept.found n)
        ∙ ap (λ (k : ℕ). cond (n == r.label) (Some k) (place_of (labels_of rules) n)) (sym (length-map rules (λ (r : Labelled V). r.label)))
        ∙ sym (ap (λ (ls : List ℕ). place_of ls n) (map-append (λ (r : Labelled V). r.label) rules (r ∷ [])) ∙ place_of-push (labels_of rules) r.label n none);
  }

-- the label of what stands in a place, as it is seen
pub label_at : {X V : Type 0} (f : X → Labelled V) (xs : List X) (i : ℕ) (x : X) → i < length xs → x ≡ get_or xs i x → slice_get (labels_of (map f xs)) i ≡ Some (f x).label
label_at f xs i x within e = slice_get-map (λ r. r.label) (map f xs) i ∙ ap (option_map (λ r. r.label)) (slice_get-map f xs i ∙ ap (option_map f) (slice_get_read xs (length xs) i x refl within e))
