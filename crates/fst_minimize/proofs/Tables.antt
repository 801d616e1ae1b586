-- Tables of numbers that grow, and rows read into them.
use Rattle.std.proofs.Common.{◌≡◌, ◌≢◌, ◌⊎◌, inl, inr, ℕ, ◌+◌, ◌<◌, List, [], ◌∷◌, ◌++◌, cond, Option, None, Some, length, sym, refl, ap, ap₂, ◌∙◌, subst, arith}
use Rattle.std.proofs.lemmas.Bool.{cases_eq, eq-eqb, ne_eqb}
use Rattle.fst_table.specs.Slots.{with_place}
use Rattle.fst_minimize.specs.Numbered.{AreSmall}
use Rattle.fst_minimize.specs.Pairs.{IsNumberTable, KnowsMore, Spells, packed}

-- a table that knows the same
pub table_kept : (known more : ℕ → Option ℕ) (count : ℕ) → ((n : ℕ) → more n ≡ known n) → IsNumberTable known count → IsNumberTable more count
table_kept known more count same t = record {
  below = λ n i e. t.below n i (sym (same n) ∙ e);
  once = λ n m i e f. t.once n m i (sym (same n) ∙ e) (sym (same m) ∙ f);
}

-- what the table tells of a number after one was added
added_at : (known : ℕ → Option ℕ) (key place n : ℕ) → ((n ≡ key) × (with_place known key place n ≡ Some place)) ⊎ ((n ≢ key) × (with_place known key place n ≡ known n))
added_at known key place n = by (cases_eq n key)
  where
    by : (n ≡ key) ⊎ (n ≢ key) → ((n ≡ key) × (with_place known key place n ≡ Some place)) ⊎ ((n ≢ key) × (with_place known key place n ≡ known n))
    by (inl e) = inl (e, ap (λ b. cond b (Some place) (known n)) (eq-eqb n key e))
    by (inr e) = inr (e, ap (λ b. cond b (Some place) (known n)) (ne_eqb n key e))

-- a table with one number more
module _ (known more : ℕ → Option ℕ) (key count : ℕ) (absent : known key ≡ None) (added : (n : ℕ) → more n ≡ with_place known key count n) where
  pub table_knows : more key ≡ Some count
  table_knows = by (added_at known key count key)
    where
      by : ((key ≡ key) × (with_place known key count key ≡ Some count)) ⊎ ((key ≢ key) × (with_place known key count key ≡ known key)) → more key ≡ Some count
      by (inl e) = added key ∙ e.1
      by (inr e) = absurd (e.0 refl)

  pub table_more : KnowsMore known more
  table_more n i e = by (added_at known key count n)
    where
      by : ((n ≡ key) × (with_place known key count n ≡ Some count)) ⊎ ((n ≢ key) × (with_place known key count n ≡ known n)) → more n ≡ Some i
      by (inl h) = absurd (let here : known n ≡ None = ap known h.0 ∙ absent in cc)
      by (inr h) = added n ∙ (h.1 ∙ e)

  pub table_added : IsNumberTable known count → IsNumberTable more (count + 1)
  table_added t = record { below = below; once = once }
    where
      below : (n i : ℕ) → more n ≡ Some i → i < count + 1
      below n i e = by (added_at known key count n)
        where
          by : ((n ≡ key) × (with_place known key count n ≡ Some count)) ⊎ ((n ≢ key) × (with_place known key count n ≡ known n)) → i < count + 1
          by (inl h) = let same : Some count ≡ Some i = sym h.1 ∙ (sym (added n) ∙ e) in let here : count ≡ i = cc in omega arith
          by (inr h) = let low = t.below n i (sym h.1 ∙ (sym (added n) ∙ e)) in omega arith

      once : (n m i : ℕ) → more n ≡ Some i → more m ≡ Some i → n ≡ m
      once n m i e f = by (added_at known key count n) (added_at known key count m)
        where
          by : ((n ≡ key) × (with_place known key count n ≡ Some count)) ⊎ ((n ≢ key) × (with_place known key count n ≡ known n))
              → ((m ≡ key) × (with_place known key count m ≡ Some count)) ⊎ ((m ≢ key) × (with_place known key count m ≡ known m)) → n ≡ m
          by (inl h) (inl k) = h.0 ∙ sym k.0
          by (inl h) (inr k) = let low = t.below m i (sym k.1 ∙ (sym (added m) ∙ f)) in let same : Some count ≡ Some i = sym h.1 ∙ (sym (added n) ∙ e) in let here : count ≡ i = cc in absurd (omega arith)
          by (inr h) (inl k) = let low = t.below n i (sym h.1 ∙ (sym (added n) ∙ e)) in let same : Some count ≡ Some i = sym k.1 ∙ (sym (added m) ∙ f) in let here : count ≡ i = cc in absurd (omega arith)
          by (inr h) (inr k) = t.once n m i (sym h.1 ∙ (sym (added n) ∙ e)) (sym k.1 ∙ (sym (added m) ∙ f))

-- numbers below 2 to the 32 are read back from their pair
pub packed_once : (a b c d : ℕ) → b < 4294967296 → d < 4294967296 → packed a b ≡ packed c d → (a ≡ c) × (b ≡ d)
packed_once a b c d low less e = (omega arith, omega arith)

-- a row that was read stays read
pub Spells_more : (known more : ℕ → Option ℕ) (head : ℕ) (vs : List ℕ) (end : ℕ) → KnowsMore known more → Spells known head vs end → Spells more head vs end
Spells_more known more head [] end m s = s
Spells_more known more head (v ∷ vs) end m s = (s.0, m (packed head v) s.0 s.1, Spells_more known more s.0 vs end m s.2)

-- one value more
pub Spells_push : (known : ℕ → Option ℕ) (head : ℕ) (vs : List ℕ) (end v next : ℕ) → Spells known head vs end → known (packed end v) ≡ Some next → Spells known head (vs ++ v ∷ []) next
Spells_push known head [] end v next s e = (next, ap (λ h. known (packed h v)) s ∙ e, refl)
Spells_push known head (w ∷ vs) end v next s e = (s.0, s.1, Spells_push known s.0 vs end v next s.2 e)

-- a row gives one number
pub Spells_same : (known : ℕ → Option ℕ) (head : ℕ) (vs : List ℕ) (one two : ℕ) → Spells known head vs one → Spells known head vs two → one ≡ two
Spells_same known head [] one two s t = sym s ∙ t
Spells_same known head (v ∷ vs) one two s t =
    let e : Some s.0 ≡ Some t.0 = sym s.1 ∙ t.1 in
    let same : t.0 ≡ s.0 = cc in
    Spells_same known s.0 vs one two s.2 (subst (λ (k : ℕ). Spells known k vs two) same t.2)

-- rows of one length that give one number are one row
pub Spells_once : (known : ℕ → Option ℕ) (count : ℕ) → IsNumberTable known count → (g h : ℕ) (vs ws : List ℕ) (end : ℕ) → AreSmall vs → AreSmall ws → length vs ≡ length ws → Spells known g vs end → Spells known h ws end → (g ≡ h) × (vs ≡ ws)
Spells_once known count t g h [] [] end low less same s u = (s ∙ sym u, refl)
Spells_once known count t g h [] (w ∷ ws) end low less same s u = absurd (omega arith)
Spells_once known count t g h (v ∷ vs) [] end low less same s u = absurd (omega arith)
Spells_once known count t g h (v ∷ vs) (w ∷ ws) end low less same s u =
    let size : length vs ≡ length ws = omega arith in
    let rest = Spells_once known count t s.0 u.0 vs ws end low.1 less.1 size s.2 u.2 in
    let e = t.once (packed g v) (packed h w) s.0 s.1 (u.1 ∙ ap Some (sym rest.0)) in
    let heads = packed_once g v h w low.0 less.0 e in
    (heads.0, ap₂ (◌∷◌) heads.1 rest.1)
