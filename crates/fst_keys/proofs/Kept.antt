-- The table and the map of a set of keys.
use Rattle.std.proofs.Common.{◌≡◌, ◌≢◌, ◌⊎◌, inl, inr, ℕ, Bool, true, false, true≢false, List, [], ◌∷◌, ◌++◌, Option, None, Some, cond, if◌then◌else◌, length, slice_get, refl, sym, ap, subst, ◌∙◌}
use Rattle.std.specs.Bool.{Decides}
use Rattle.std.specs.Ordering.{is_eq}
use Rattle.std.specs.declared.cmp.Ordering.{Ordering}
use Rattle.std.proofs.lemmas.Bool.{cases_eq, eq-eqb, ne_eqb}
use Rattle.fst_table.specs.Slots.{with_place}
use Rattle.fst_keys.specs.Keys.{AreKept, IsApart, IsUnnumbered, with_whole}
use Rattle.fst_keys.proofs.Putting.{at_either, at_front, at_last}

-- what a table tells of a number after one was added
place_at : (known : ℕ → Option ℕ) (key place n : ℕ) → ((n ≡ key) × (with_place known key place n ≡ Some place)) ⊎ ((n ≢ key) × (with_place known key place n ≡ known n))
place_at known key place n = by (cases_eq n key)
  where
    by : (n ≡ key) ⊎ (n ≢ key) → ((n ≡ key) × (with_place known key place n ≡ Some place)) ⊎ ((n ≢ key) × (with_place known key place n ≡ known n))
    by (inl e) = inl (e, ap (λ b. cond b (Some place) (known n)) (eq-eqb n key e))
    by (inr e) = inr (e, ap (λ b. cond b (Some place) (known n)) (ne_eqb n key e))

-- and what a map tells
whole_at : {W : Type 0} (cmp : W → W → Ordering) (one : (a b : W) → Decides (is_eq (cmp a b)) (a ≡ b)) (known : W → Option ℕ) (key : W) (place : ℕ) (w : W)
    → ((w ≡ key) × (with_whole cmp known key place w ≡ Some place)) ⊎ ((w ≢ key) × (with_whole cmp known key place w ≡ known w))
whole_at {W} cmp one known key place w = by (is_eq (cmp key w)) refl
  where
    by : (b : Bool) → is_eq (cmp key w) ≡ b → ((w ≡ key) × (with_whole cmp known key place w ≡ Some place)) ⊎ ((w ≢ key) × (with_whole cmp known key place w ≡ known w))
    by true e = inl (sym ((one key w).0 e), ap (λ b. if b then Some place else known w) e)
    by false e = inr ((λ is. true≢false (sym ((one key w).1 (sym is)) ∙ e)), ap (λ b. if b then Some place else known w) e)

-- Something is added to what is told.
module _ {X : Type 0} (known more : X → Option ℕ) (key : X) (place : ℕ) (absent : known key ≡ None) (with_it : X → Option ℕ) (told : (x : X) → ((x ≡ key) × (with_it x ≡ Some place)) ⊎ ((x ≢ key) × (with_it x ≡ known x))) (added : (x : X) → more x ≡ with_it x) where
  added_there : more key ≡ Some place
  added_there = by (told key)
    where
      by : ((key ≡ key) × (with_it key ≡ Some place)) ⊎ ((key ≢ key) × (with_it key ≡ known key)) → more key ≡ Some place
      by (inl h) = added key ∙ h.1
      by (inr h) = absurd (h.0 refl)

  -- what was told is told
  added_still : (x : X) (p : ℕ) → known x ≡ Some p → more x ≡ Some p
  added_still x p e = by (told x)
    where
      by : ((x ≡ key) × (with_it x ≡ Some place)) ⊎ ((x ≢ key) × (with_it x ≡ known x)) → more x ≡ Some p
      by (inl h) = absurd (let both : None ≡ Some p = sym absent ∙ (ap known (sym h.0) ∙ e) in cc)
      by (inr h) = added x ∙ (h.1 ∙ e)

  -- and nothing else but what is new
  added_back : (x : X) (p : ℕ) → more x ≡ Some p → ((x ≡ key) × (p ≡ place)) ⊎ (known x ≡ Some p)
  added_back x p e = by (told x)
    where
      by : ((x ≡ key) × (with_it x ≡ Some place)) ⊎ ((x ≢ key) × (with_it x ≡ known x)) → ((x ≡ key) × (p ≡ place)) ⊎ (known x ≡ Some p)
      by (inl h) = inl (h.0, (let both : Some p ≡ Some place = sym e ∙ (added x ∙ h.1) in cc))
      by (inr h) = inr (sym h.1 ∙ (sym (added x) ∙ e))

module _ {K W : Type 0} (code : K → ℕ) (whole : K → W) where
  -- a table and a map that tell the same
  pub kept_same : (keys new : List K) (first firsts : ℕ → Option ℕ) (other others : W → Option ℕ) → new ≡ keys → ((n : ℕ) → firsts n ≡ first n) → ((w : W) → others w ≡ other w)
      → AreKept code whole keys first other → AreKept code whole new firsts others
  kept_same keys new first firsts other others same ones twos h = subst (λ (ks : List K). AreKept code whole ks firsts others) (sym same) (record {
    coded = λ c p e. h.coded c p (sym (ones c) ∙ e);
    told = λ w p e. h.told w p (sym (twos w) ∙ e);
    found = λ i k e. let f = h.found i k e in (f.0, ones (code k) ∙ f.1, still i k f.0 f.2);
  })
    where
      still : (i : ℕ) (k : K) (p : ℕ) → (p ≡ i) ⊎ (other (whole k) ≡ Some i) → (p ≡ i) ⊎ (others (whole k) ≡ Some i)
      still i k p (inl own) = inl own
      still i k p (inr map) = inr (twos (whole k) ∙ map)

  module _ (keys new : List K) (first : ℕ → Option ℕ) (other : W → Option ℕ) (h : AreKept code whole keys first other) (key : K) (place : ℕ) (put : new ≡ keys ++ key ∷ []) (there : place ≡ length keys) where
    -- the key is the first with its number
    pub first_kept : (firsts : ℕ → Option ℕ) (number : ℕ) → IsUnnumbered code keys first key number → ((n : ℕ) → firsts n ≡ with_place first number place n) → AreKept code whole new firsts other
    first_kept firsts number alone added = subst (λ (ks : List K). AreKept code whole ks firsts other) (sym put) (record { coded = coded; told = told; found = found })
      where
        all : List K
        all = keys ++ key ∷ []

        last : slice_get all place ≡ Some key
        last = ap (slice_get all) there ∙ at_last keys key

        still : (n p : ℕ) → first n ≡ Some p → firsts n ≡ Some p
        still = added_still first firsts number place alone.absent (with_place first number place) (place_at first number place) added

        coded : (c p : ℕ) → firsts c ≡ Some p → (k : K) × (slice_get all p ≡ Some k) × (code k ≡ c)
        coded c p e = by (added_back first firsts number place alone.absent (with_place first number place) (place_at first number place) added c p e)
          where
            by : ((c ≡ number) × (p ≡ place)) ⊎ (first c ≡ Some p) → (k : K) × (slice_get all p ≡ Some k) × (code k ≡ c)
            by (inl own) = (key, ap (slice_get all) own.1 ∙ last, sym alone.is_code ∙ sym own.0)
            by (inr old) = let o = h.coded c p old in (o.0, at_front keys (key ∷ []) p o.0 o.1, o.2)

        told : (w : W) (p : ℕ) → other w ≡ Some p → (k : K) × (slice_get all p ≡ Some k) × (whole k ≡ w)
        told w p e = let o = h.told w p e in (o.0, at_front keys (key ∷ []) p o.0 o.1, o.2)

        found : (i : ℕ) (k : K) → slice_get all i ≡ Some k → (f : ℕ) × (firsts (code k) ≡ Some f) × ((f ≡ i) ⊎ (other (whole k) ≡ Some i))
        found i k e = by (at_either keys key i k e)
          where
            by : (slice_get keys i ≡ Some k) ⊎ ((i ≡ length keys) × (k ≡ key)) → (f : ℕ) × (firsts (code k) ≡ Some f) × ((f ≡ i) ⊎ (other (whole k) ≡ Some i))
            by (inl old) = let f = h.found i k old in (f.0, still (code k) f.0 f.1, f.2)
            by (inr own) =
                let told-there : firsts number ≡ Some place = added_there first firsts number place alone.absent (with_place first number place) (place_at first number place) added in
                (place, ap firsts (ap code own.1 ∙ sym alone.is_code) ∙ told-there, inl (there ∙ sym own.0))

    -- another key has its number
    pub apart_kept : (cmp : W → W → Ordering) (one : (a b : W) → Decides (is_eq (cmp a b)) (a ≡ b)) (others : W → Option ℕ) (w : W) → IsApart code whole keys first other key w → ((x : W) → others x ≡ with_whole cmp other w place x) → AreKept code whole new first others
    apart_kept cmp one others w apart added = subst (λ (ks : List K). AreKept code whole ks first others) (sym put) (record { coded = coded; told = told; found = found })
      where
        all : List K
        all = keys ++ key ∷ []

        last : slice_get all place ≡ Some key
        last = ap (slice_get all) there ∙ at_last keys key

        coded : (c p : ℕ) → first c ≡ Some p → (k : K) × (slice_get all p ≡ Some k) × (code k ≡ c)
        coded c p e = let o = h.coded c p e in (o.0, at_front keys (key ∷ []) p o.0 o.1, o.2)

        told : (x : W) (p : ℕ) → others x ≡ Some p → (k : K) × (slice_get all p ≡ Some k) × (whole k ≡ x)
        told x p e = by (added_back other others w place apart.absent (with_whole cmp other w place) (whole_at cmp one other w place) added x p e)
          where
            by : ((x ≡ w) × (p ≡ place)) ⊎ (other x ≡ Some p) → (k : K) × (slice_get all p ≡ Some k) × (whole k ≡ x)
            by (inl own) = (key, ap (slice_get all) own.1 ∙ last, sym apart.is_whole ∙ sym own.0)
            by (inr old) = let o = h.told x p old in (o.0, at_front keys (key ∷ []) p o.0 o.1, o.2)

        found : (i : ℕ) (k : K) → slice_get all i ≡ Some k → (f : ℕ) × (first (code k) ≡ Some f) × ((f ≡ i) ⊎ (others (whole k) ≡ Some i))
        found i k e = by (at_either keys key i k e)
          where
            still : (f : ℕ) → (f ≡ i) ⊎ (other (whole k) ≡ Some i) → (f ≡ i) ⊎ (others (whole k) ≡ Some i)
            still f (inl own) = inl own
            still f (inr map) = inr (added_still other others w place apart.absent (with_whole cmp other w place) (whole_at cmp one other w place) added (whole k) i map)

            by : (slice_get keys i ≡ Some k) ⊎ ((i ≡ length keys) × (k ≡ key)) → (f : ℕ) × (first (code k) ≡ Some f) × ((f ≡ i) ⊎ (others (whole k) ≡ Some i))
            by (inl old) = let f = h.found i k old in (f.0, f.1, still f.0 f.2)
            by (inr own) =
                let told-there : others w ≡ Some place = added_there other others w place apart.absent (with_whole cmp other w place) (whole_at cmp one other w place) added in
                let n = apart.numbered in
                (n.0, ap first (ap code own.1) ∙ n.1, inr (ap others (ap whole own.1 ∙ sym apart.is_whole) ∙ (told-there ∙ ap Some (there ∙ sym own.0))))

-- what the order of a map tells as equal is one
pub one_whole : {W : Type 0} (eq : W → W → Bool) (cmp : W → W → Ordering) → ((a b : W) → Decides (eq a b) (a ≡ b)) → ((a b : W) → eq a b ≡ is_eq (cmp a b)) → (a b : W) → Decides (is_eq (cmp a b)) (a ≡ b)
one_whole eq cmp compared matches a b = subst (λ (t : Bool). Decides t (a ≡ b)) (matches a b) (compared a b)
