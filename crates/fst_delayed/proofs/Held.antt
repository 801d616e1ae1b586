-- What a cache shows of its names and entries.
use Rattle.std.proofs.Common.{◌≡◌, inl, inr, ℕ, zero, suc, ◌<◌, ◌≤◌, false, true≢false, List, [], ◌∷◌, ◌++◌, Option, None, Some, Result, Ok, Err, length, slice_get, take, refl, sym, ap, ap₂, ◌∙◌, subst, subst₂, arith}
use Rattle.std.specs.Prelude.{OnErr}
use Rattle.std.specs.List.{list_any}
use Rattle.std.proofs.lemmas.List.{length-append, length-take-le}
use Rattle.std.proofs.lemmas.Option.{same_Some}
use Rattle.fst_keys.specs.Keys.{with_key}
use Rattle.fst_machine.specs.BreadthFirst.{Apart, Has}
use Rattle.fst_machine.proofs.Elements.{Apart-push, Apart_at, Has-any, at_Has}
use Rattle.fst_compose.specs.Good.{same_decides, same_name}
use Rattle.fst_compose.specs.Names.{Name}
use Rattle.fst_delayed.specs.Caches.{AreApart, AreEntered, entered, keys}
use Rattle.fst_delayed.proofs.Fronts.{Apart-take, front_at, put_new}

module _ {A B : Type 0} (f : A → B) where
  pub entered_keys : (names : List (Name ℕ ℕ)) (kept : List A) → length kept ≤ length names → keys (entered f names kept) ≡ take (length kept) names
  entered_keys [] [] few = refl
  entered_keys [] (a ∷ kept) few = absurd (omega (arith, few))
  entered_keys (n ∷ names) [] few = refl
  entered_keys (n ∷ names) (a ∷ kept) few = ap (λ (ns : List (Name ℕ ℕ)). n ∷ ns) (entered_keys names kept (omega (arith, few)))

  pub entered_length : (names : List (Name ℕ ℕ)) (kept : List A) → length kept ≤ length names → length (entered f names kept) ≡ length kept
  entered_length [] [] few = refl
  entered_length [] (a ∷ kept) few = absurd (omega (arith, few))
  entered_length (n ∷ names) [] few = refl
  entered_length (n ∷ names) (a ∷ kept) few = ap suc (entered_length names kept (omega (arith, few)))

  pub entered_first : (names : List (Name ℕ ℕ)) (kept : List A) (count : ℕ) → length kept ≤ count → entered f (take count names) kept ≡ entered f names kept
  entered_first [] kept zero few = refl
  entered_first [] kept (suc c) few = refl
  entered_first (n ∷ names) [] zero few = refl
  entered_first (n ∷ names) (a ∷ kept) zero few = absurd (omega (arith, few))
  entered_first (n ∷ names) [] (suc c) few = refl
  entered_first (n ∷ names) (a ∷ kept) (suc c) few = ap (λ (es : List (Name ℕ ℕ × B)). (n, f a) ∷ es) (entered_first names kept c (omega (arith, few)))

  pub entered_before : (names more : List (Name ℕ ℕ)) (kept : List A) → length kept ≤ length names → entered f (names ++ more) kept ≡ entered f names kept
  entered_before [] [] [] few = refl
  entered_before [] (m ∷ more) [] few = refl
  entered_before [] more (a ∷ kept) few = absurd (omega (arith, few))
  entered_before (n ∷ names) more [] few = refl
  entered_before (n ∷ names) more (a ∷ kept) few = ap (λ (es : List (Name ℕ ℕ × B)). (n, f a) ∷ es) (entered_before names more kept (omega (arith, few)))

  pub entered_joined : (names more : List (Name ℕ ℕ)) (kept others : List A) → length names ≡ length kept → entered f (names ++ more) (kept ++ others) ≡ entered f names kept ++ entered f more others
  entered_joined [] more [] others same = refl
  entered_joined [] more (a ∷ kept) others same = absurd (omega (arith, same))
  entered_joined (n ∷ names) more [] others same = absurd (omega (arith, same))
  entered_joined (n ∷ names) more (a ∷ kept) others same = ap (λ (es : List (Name ℕ ℕ × B)). (n, f a) ∷ es) (entered_joined names more kept others (omega (arith, same)))

  pub found : (names : List (Name ℕ ℕ)) (kept : List A) (i : ℕ) (n : Name ℕ ℕ) (a : A) → slice_get names i ≡ Some n → slice_get kept i ≡ Some a → Has (entered f names kept) (n, f a)
  found [] kept i n a at there = absurd (let wrong : ◌≡◌ {A = Option (Name ℕ ℕ)} None (Some n) = at in cc)
  found (m ∷ names) [] i n a at there = absurd (let wrong : ◌≡◌ {A = Option A} None (Some a) = there in cc)
  found (m ∷ names) (b ∷ kept) zero n a at there = let one = same_Some m n at in let two = same_Some b a there in inl (λ i. (one i, f (two i)))
  found (m ∷ names) (b ∷ kept) (suc i) n a at there = inr (found names kept i n a at there)

  -- a name that has an entry stands before the end of the entries
  pub key_at : (names : List (Name ℕ ℕ)) (kept : List A) (n : Name ℕ ℕ) → AreEntered names kept → Has (keys (entered f names kept)) n → (i : ℕ) × (slice_get names i ≡ Some n) × (i < length kept)
  key_at names kept n held h = front_at names (length kept) n (subst (λ (ns : List (Name ℕ ℕ)). Has ns n) (entered_keys names kept held.few) h)

  pub missed : (names : List (Name ℕ ℕ)) (kept : List A) (n : Name ℕ ℕ) → AreEntered names kept → list_any (same_name n) names ≡ false → Has (keys (entered f names kept)) n → ⊥
  missed names kept n held none h = let r = key_at names kept n held h in true≢false (sym (Has-any same_name same_decides names n (at_Has names r.0 n r.1)) ∙ none)

  pub behind : (names : List (Name ℕ ℕ)) (kept : List A) (n : Name ℕ ℕ) (place : ℕ) → AreEntered names kept → slice_get names place ≡ Some n → length kept ≤ place → Has (keys (entered f names kept)) n → ⊥
  behind names kept n place held at high h = let r = key_at names kept n held h in let one = Apart_at names r.0 place n held.apart r.1 at in omega (arith, r.2, high, one)

  pub entered_apart : (names : List (Name ℕ ℕ)) (kept : List A) → AreEntered names kept → Apart (keys (entered f names kept))
  entered_apart names kept held = subst Apart (sym (entered_keys names kept held.few)) (Apart-take names (length kept) held.apart)

  -- the names that are kept are those that have entries
  pub held_first : (names : List (Name ℕ ℕ)) (kept : List A) → AreEntered names kept → AreEntered (take (length kept) names) kept
  held_first names kept held = record { few = (let n = length-take-le (length kept) names held.few in omega (arith, n)); apart = Apart-take names (length kept) held.apart }

  -- a name with its entry is put after the others
  module _ (names new : List (Name ℕ ℕ)) (kept : List A) (n : Name ℕ ℕ) (a : A) (held : AreEntered names kept) (absent : Has (keys (entered f names kept)) n → ⊥)
      (put : new ≡ with_key same_name (take (length kept) names) n) where
    later : new ≡ take (length kept) names ++ n ∷ []
    later = put_new same_name same_decides (take (length kept) names) new n (λ h. absent (subst (λ (ns : List (Name ℕ ℕ)). Has ns n) (sym (entered_keys names kept held.few)) h)) put

    pub added : entered f new (kept ++ a ∷ []) ≡ entered f names kept ++ (n, f a) ∷ []
    added = ap (λ (ns : List (Name ℕ ℕ)). entered f ns (kept ++ a ∷ [])) later
        ∙ (entered_joined (take (length kept) names) (n ∷ []) kept (a ∷ []) (length-take-le (length kept) names held.few)
        ∙ ap (λ (es : List (Name ℕ ℕ × B)). es ++ (n, f a) ∷ []) (entered_first names kept (length kept) (omega arith)))

    pub added_held : AreEntered new (kept ++ a ∷ [])
    added_held = record {
      few = (let k = length-take-le (length kept) names held.few in let l = ap length later in let m = length-append (take (length kept) names) (n ∷ []) in let o = length-append kept (a ∷ []) in omega (arith, k, l, m, o));
      apart = subst Apart (sym later) (Apart-push (take (length kept) names) n (Apart-take names (length kept) held.apart) (λ h. absent (subst (λ (ns : List (Name ℕ ℕ)). Has ns n) (sym (entered_keys names kept held.few)) h)));
    }

  -- names that are kept beside what is as before
  pub kept_same : (names first : List (Name ℕ ℕ)) (kept now : List A) → AreEntered names kept → first ≡ take (length kept) names → now ≡ kept → (entered f first now ≡ entered f names kept) × AreEntered first now
  kept_same names first kept now held is same =
      (ap₂ (λ (ns : List (Name ℕ ℕ)) (es : List A). entered f ns es) is same ∙ entered_first names kept (length kept) (omega arith), subst₂ (λ (ns : List (Name ℕ ℕ)) (es : List A). AreEntered ns es) (sym is) (sym same) (held_first names kept held))

  -- one name more
  pub added_all : (names first new : List (Name ℕ ℕ)) (kept now : List A) (n : Name ℕ ℕ) (a : A) → AreEntered names kept → (Has (keys (entered f names kept)) n → ⊥) → first ≡ take (length kept) names
      → new ≡ with_key same_name first n → now ≡ kept ++ a ∷ [] → (entered f new now ≡ entered f names kept ++ (n, f a) ∷ []) × AreEntered new now
  added_all names first new kept now n a held absent is put same =
      let put' : new ≡ with_key same_name (take (length kept) names) n = subst (λ (ns : List (Name ℕ ℕ)). new ≡ with_key same_name ns n) is put in
      subst (λ (es : List A). (entered f new es ≡ entered f names kept ++ (n, f a) ∷ []) × AreEntered new es) (sym same) (added names new kept n a held absent put', added_held names new kept n a held absent put')

  -- names after those that have entries change nothing
  pub left_same : (names first new rest : List (Name ℕ ℕ)) (kept now : List A) → AreEntered names kept → first ≡ take (length kept) names → new ≡ first ++ rest → Apart new → now ≡ kept → (entered f new now ≡ entered f names kept) × AreEntered new now
  left_same names first new rest kept now held is longer apart same =
      let whole : new ≡ take (length kept) names ++ rest = subst (λ (ns : List (Name ℕ ℕ)). new ≡ ns ++ rest) is longer in
      let size = length-take-le (length kept) names held.few in (
        ap₂ (λ (ns : List (Name ℕ ℕ)) (es : List A). entered f ns es) whole same ∙ (entered_before (take (length kept) names) rest kept (omega (arith, size)) ∙ entered_first names kept (length kept) (omega arith)),
        subst (λ (es : List A). AreEntered new es) (sym same) (record { few = (let k = ap length whole in let l = length-append (take (length kept) names) rest in omega (arith, size, k, l)); apart = apart }),
      )

  -- two caches
  pub far_names : (names first more : List (Name ℕ ℕ)) (kept others : List A) (count : ℕ) → AreEntered names kept → AreEntered more others → AreApart (entered f names kept) (entered f more others)
      → first ≡ take (length kept) names → count ≡ length others → (n : Name ℕ ℕ) → Has first n → Has (take count more) n → ⊥
  far_names names first more kept others count held held' far is all n h h' =
      far n (subst (λ (ns : List (Name ℕ ℕ)). Has ns n) (is ∙ sym (entered_keys names kept held.few)) h)
      (subst (λ (ns : List (Name ℕ ℕ)). Has ns n) (ap (λ (k : ℕ). take k more) all ∙ sym (entered_keys more others held'.few)) h')

  pub joined_all : (names first new more : List (Name ℕ ℕ)) (kept others now : List A) (count : ℕ) → AreEntered names kept → AreEntered more others → first ≡ take (length kept) names → count ≡ length others
      → new ≡ first ++ take count more → Apart new → now ≡ kept ++ others → (entered f new now ≡ entered f names kept ++ entered f more others) × AreEntered new now
  joined_all names first new more kept others now count held held' is all longer apart same =
      let whole : new ≡ take (length kept) names ++ take (length others) more = subst₂ (λ (ns : List (Name ℕ ℕ)) (k : ℕ). new ≡ ns ++ take k more) is all longer in
      let size = length-take-le (length kept) names held.few in
      let size' = length-take-le (length others) more held'.few in (
        ap₂ (λ (ns : List (Name ℕ ℕ)) (es : List A). entered f ns es) whole same
            ∙ (entered_joined (take (length kept) names) (take (length others) more) kept others size
            ∙ ap₂ (λ (xs ys : List (Name ℕ ℕ × B)). xs ++ ys) (entered_first names kept (length kept) (omega arith)) (entered_first more others (length others) (omega arith))),
        subst (λ (es : List A). AreEntered new es) (sym same) (record {
          few = (let k = ap length whole in let l = length-append (take (length kept) names) (take (length others) more) in let m = length-append kept others in omega (arith, size, size', k, l, m));
          apart = apart;
        }),
      )

pub on_err : {T E : Type 0} (r : Result T E) {P : Type 0} → P → OnErr r P
on_err (Ok x) p = tt
on_err (Err e) p = p

pub none_high : {A : Type 0} (xs : List A) (i : ℕ) → slice_get xs i ≡ None → length xs ≤ i
none_high [] i none = omega arith
none_high {A} (x ∷ xs) zero none = absurd (let wrong : ◌≡◌ {A = Option A} (Some x) None = none in cc)
none_high (x ∷ xs) (suc i) none = let h = none_high xs i none in omega (arith, h)
