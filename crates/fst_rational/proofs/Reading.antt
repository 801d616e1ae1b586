-- Pairs with one more.
use Rattle.std.proofs.Common.{◌≡◌, ◌⊎◌, inl, inr, arith, ℕ, ◌<◌, ◌≤◌, ◌==◌, Bool, true, false, cond, List, [], ◌∷◌, ◌++◌, map, is_some, Option, None, Some, Ok, Err, refl, sym, ap, ◌∙◌, subst, if◌then◌else◌}
use Rattle.std.specs.Prelude.{nat_eq}
use Rattle.std.specs.List.{IsDistinct, list_any}
use Rattle.std.specs.Map.{lookup, keys_of}
use Rattle.std.specs.Cmp.{nat_eq_equiv}
use Rattle.std.proofs.lemmas.List.{map-append}
use Rattle.std.proofs.lemmas.List.Elements.{All-nil, All-push}
use Rattle.std.proofs.lemmas.Map.Keys.{IsDistinct-push}
use Rattle.std.proofs.lemmas.Map.Made.{is_some-lookup}
use Rattle.std.proofs.lemmas.Bool.Decides.{nat_tests}
use Rattle.fst_machine.specs.Machine.{greatest_label}
use Rattle.fst_table.specs.Slots.{with_place}
use Rattle.fst_rational.specs.Labels.{Pair, IsPairs, new_label}
use Rattle.fst_rational.specs.declared.pairs.PairsFault.TheVariants.{Duplicate}
use Rattle.fst_rational.specs.Pairs.{AreKept, pairs_of, with_pair}

-- the old labels are the keys
olds : (es : List (ℕ × ℕ)) → ◌≡◌ {A = List ℕ} (map (λ p. p.old) (pairs_of es)) (keys_of es)
olds [] = refl
olds (e ∷ es) = ap (λ ks. e.0 ∷ ks) (olds es)

-- a look-up finds whether a label is an old one
pub is_old : (es : List (ℕ × ℕ)) (n : ℕ) → is_some (lookup (nat_eq n) es) ≡ list_any (nat_eq n) (map (λ (p : Pair). p.old) (pairs_of es))
is_old es n = is_some-lookup (nat_eq n) es ∙ ap (list_any (nat_eq n)) (sym (olds es))

-- and gives its new label
pub new_label-lookup : (es : List (ℕ × ℕ)) (n : ℕ) → new_label (pairs_of es) n ≡ elim (lookup (nat_eq n) es) [ None ↦ n | Some new ↦ new ]
new_label-lookup [] n = refl
new_label-lookup (e ∷ es) n = by_test (n == e.0) (new_label-lookup es n)
  where
    by_test : (b : Bool) → new_label (pairs_of es) n ≡ elim (lookup (nat_eq n) es) [ None ↦ n | Some new ↦ new ] → cond b e.1 (new_label (pairs_of es) n) ≡ elim (cond b (Some e.1) (lookup (nat_eq n) es)) [ None ↦ n | Some new ↦ new ]
    by_test true more = refl
    by_test false more = more

-- one entry more is one pair more
pub pairs_of-push : (es : List (ℕ × ℕ)) (old new : ℕ) → pairs_of (es ++ (old, new) ∷ []) ≡ pairs_of es ++ record { old = old; new = new } ∷ []
pairs_of-push es old new = map-append (λ (p : ℕ × ℕ). record { old = p.0; new = p.1 }) es ((old, new) ∷ [])

-- and one new label more is found
pub lookup-push : (es : List (ℕ × ℕ)) (old new n : ℕ) → lookup (nat_eq old) es ≡ None → lookup (nat_eq n) (es ++ (old, new) ∷ []) ≡ cond (n == old) (Some new) (lookup (nat_eq n) es)
lookup-push [] old new n none = refl
lookup-push (e ∷ es) old new n none = go (old == e.0) refl none (λ less. lookup-push es old new n less) where
  by_test : (b : Bool) → (n == e.0) ≡ b → ((n == old) ≡ false) ⊎ (b ≡ false) → lookup (nat_eq n) (es ++ (old, new) ∷ []) ≡ cond (n == old) (Some new) (lookup (nat_eq n) es) → cond b (Some e.1) (lookup (nat_eq n) (es ++ (old, new) ∷ [])) ≡ cond (n == old) (Some new) (cond b (Some e.1) (lookup (nat_eq n) es))
  by_test true is (inl apart) more = sym (ap (λ b. cond b (Some new) (Some e.1)) apart)
  by_test true is (inr wrong) more = absurd (cc)
  by_test false is apart more = more

  apart : (old == e.0) ≡ false → (b : Bool) → (n == e.0) ≡ b → ((n == old) ≡ false) ⊎ (b ≡ false)
  apart differ true is = inl (grind (arith, nat_tests))
  apart differ false is = inr refl

  go : (b : Bool) → (old == e.0) ≡ b → cond b (Some e.1) (lookup (nat_eq old) es) ≡ None → (lookup (nat_eq old) es ≡ None → lookup (nat_eq n) (es ++ (old, new) ∷ []) ≡ cond (n == old) (Some new) (lookup (nat_eq n) es)) → cond (n == e.0) (Some e.1) (lookup (nat_eq n) (es ++ (old, new) ∷ [])) ≡ cond (n == old) (Some new) (cond (n == e.0) (Some e.1) (lookup (nat_eq n) es))
  go true is wrong more = absurd (cc)
  go false is less more = by_test (n == e.0) refl (apart is (n == e.0) refl) (more less)

-- pairs and one more are pairs
pub IsPairs-push : (pairs : List Pair) (p : Pair) → IsPairs pairs → 0 < p.old → p.old ≤ greatest_label → p.new ≤ greatest_label → list_any (nat_eq p.old) (map (λ (q : Pair). q.old) pairs) ≡ false → IsPairs (pairs ++ p ∷ [])
IsPairs-push pairs p h label low high free = record {
  distinct = subst (IsDistinct nat_eq) (sym (map-append (λ (q : Pair). q.old) pairs (p ∷ []))) (IsDistinct-push nat_eq_equiv (map (λ q. q.old) pairs) p.old h.distinct free);
  labels = All-push (λ q. 0 < q.old) pairs p h.labels label;
  small = All-push (λ q. (q.old ≤ greatest_label) × (q.new ≤ greatest_label)) pairs p h.small (low, high);
}

module _ (line : ℕ) (es : List (ℕ × ℕ)) (old new : ℕ) where
  -- the old label is there
  pub with_pair-old : is_some (lookup (nat_eq old) es) ≡ true → with_pair line (pairs_of es) old new ≡ Err (Duplicate line)
  with_pair-old there = ap (λ b. if b then Err (Duplicate line) else Ok (pairs_of es ++ record { old = old; new = new } ∷ [])) (sym (is_old es old) ∙ there)

  -- or it is new
  pub with_pair-new : is_some (lookup (nat_eq old) es) ≡ false → with_pair line (pairs_of es) old new ≡ Ok (pairs_of es ++ record { old = old; new = new } ∷ [])
  with_pair-new free = ap (λ b. if b then Err (Duplicate line) else Ok (pairs_of es ++ record { old = old; new = new } ∷ [])) (sym (is_old es old) ∙ free)

pub none_of : {X : Type 0} (r : Option X) → is_some r ≡ false → r ≡ None
none_of None e = refl
none_of (Some x) e = cc

-- no pairs
IsPairs-nil : IsPairs []
unfolding IsDistinct
IsPairs-nil = record { distinct = tt; labels = All-nil (λ q. 0 < q.old); small = All-nil (λ q. (q.old ≤ greatest_label) × (q.new ≤ greatest_label)) }

pub AreKept-nil : (news : ℕ → Option ℕ) → ((n : ℕ) → news n ≡ None) → AreKept [] news
AreKept-nil news none = record { pairs = IsPairs-nil; found = none }

module _ (es : List (ℕ × ℕ)) (news : ℕ → Option ℕ) (kept : AreKept es news) where
  -- a label that is found has the new label that is found, and one that is not found stays
  pub new_label-found : (label : ℕ) (r : Option ℕ) → r ≡ news label → elim r [ None ↦ label | Some new ↦ new ] ≡ new_label (pairs_of es) label
  new_label-found label r e = ap (λ (o : Option ℕ). elim o [ None ↦ label | Some new ↦ new ]) (e ∙ kept.found label) ∙ sym (new_label-lookup es label)

  -- with one pair more
  pub AreKept-push : (more : ℕ → Option ℕ) (old new : ℕ) → 0 < old → old ≤ greatest_label → new ≤ greatest_label → news old ≡ None → ((n : ℕ) → more n ≡ with_place news old new n) → AreKept (es ++ (old, new) ∷ []) more
  AreKept-push more old new label low high free told = record {
    pairs = subst IsPairs (sym (pairs_of-push es old new)) (IsPairs-push (pairs_of es) (record { old = old; new = new }) kept.pairs label low high (sym (is_old es old) ∙ ap is_some (sym (kept.found old) ∙ free)));
    found = λ n. told n ∙ ap (λ (o : Option ℕ). cond (n == old) (Some new) o) (kept.found n) ∙ sym (lookup-push es old new n (sym (kept.found old) ∙ free));
  }
