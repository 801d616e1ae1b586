-- The rule on the labels of `replace`, label by label.
use Rattle.std.proofs.Common.{◌≡◌, ◌∙◌, ◌&&◌, ◌||◌, ℕ, Bool, cond, true, false, not, List, [], ◌∷◌, Some, None, refl, sym, ap, nat_eq}
use Rattle.std.specs.List.{filter_map, list_all, list_any}
use Rattle.fst_words.specs.Plans.{are_labels}
use Rattle.fst_words.specs.Values.{label_of}

abbrev is_new : List ℕ → ℕ → Bool
is_new seen n = not (list_any (nat_eq n) seen)

-- the texts are labels, no two are the same, and none has been seen
abbrev pub are_new_labels : List ℕ → List (List ℕ) → Bool
are_new_labels seen texts = list_all (is_new seen) (filter_map label_of texts) && are_labels texts

pub none_seen : (texts : List (List ℕ)) → are_labels texts ≡ are_new_labels [] texts
none_seen texts = ap (λ (b : Bool). b && are_labels texts) (sym (go (filter_map label_of texts)))
  where
    go : (ns : List ℕ) → list_all (is_new []) ns ≡ true
    go [] = refl
    go (n ∷ ns) = go ns

-- a text that is no label
pub no_label : (seen : List ℕ) (text : List ℕ) (texts : List (List ℕ)) → label_of text ≡ None → are_new_labels seen (text ∷ texts) ≡ false
no_label seen text texts none = rw none (last_false (list_all (is_new seen) (filter_map label_of texts)))
  where
    last_false : (a : Bool) → (a && false) ≡ false
    last_false true = refl
    last_false false = refl

-- a label that has been seen
pub label_again : (seen : List ℕ) (n : ℕ) (text : List ℕ) (texts : List (List ℕ)) → label_of text ≡ Some n → list_any (nat_eq n) seen ≡ true
    → are_new_labels seen (text ∷ texts) ≡ false
label_again seen n text texts some again = rw (some, again) refl

-- a label that is new
pub label_new : (old new : List ℕ) (n : ℕ) (text : List ℕ) (texts : List (List ℕ)) → label_of text ≡ Some n → list_any (nat_eq n) old ≡ false
    → ((q : ℕ) → list_any (nat_eq q) new ≡ cond (nat_eq n q) true (list_any (nat_eq q) old))
    → are_new_labels old (text ∷ texts) ≡ are_new_labels new texts
label_new old new n text texts some fresh put =
    rw (some, fresh) (regroup (list_all (is_new old) rest) _ _ _ ∙ ap (λ (b : Bool). b && are_labels texts) (sym (all_new rest)))
  where
    rest : List ℕ
    rest = filter_map label_of texts

    regroup : (a b c d : Bool) → (a && (b && (c && d))) ≡ ((a && c) && (b && d))
    regroup true b true d = refl
    regroup true true false d = refl
    regroup true false false d = refl
    regroup false b c d = refl

    one : (q : ℕ) (a b : Bool) → (is_new new q && (a && b)) ≡ ((is_new old q && a) && (not (nat_eq n q) && b))
    one q a b = rw (put q) (go (nat_eq n q) (list_any (nat_eq q) old) a b)
      where
        go : (same had a b : Bool) → (not (cond same true had) && (a && b)) ≡ ((not had && a) && (not same && b))
        go true true a b = refl
        go true false true b = refl
        go true false false b = refl
        go false true a b = refl
        go false false a b = refl

    all_new : (ns : List ℕ) → list_all (is_new new) ns ≡ (list_all (is_new old) ns && not (list_any (nat_eq n) ns))
    all_new [] = refl
    all_new (q ∷ qs) = ap (λ (b : Bool). is_new new q && b) (all_new qs) ∙ one q (list_all (is_new old) qs) (not (list_any (nat_eq n) qs)) ∙ not_or (is_new old q && list_all (is_new old) qs) (nat_eq n q) (list_any (nat_eq n) qs)
      where
        not_or : (a b c : Bool) → (a && (not b && not c)) ≡ (a && not (b || c))
        not_or a true c = refl
        not_or a false c = refl
