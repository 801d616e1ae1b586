-- States in blocks: a block is split at its middle, or its marks are taken away.
use Rattle.std.proofs.Common.{◌≡◌, ◌≢◌, ◌⊎◌, inl, inr, ℕ, ◌+◌, ◌<◌, ◌≤◌, List, [], ◌∷◌, ◌++◌, get_or, length, set, sym, refl, ap, ◌∙◌, subst, arith}
use Rattle.std.proofs.lemmas.List.{get_or_read, get_or-set_same, get_or-set_other, get_or_append_left, get_or_push, length_push, length-set}
use Rattle.std.proofs.lemmas.Bool.{cases_eq, cases_lt}
use Rattle.fst_minimize.specs.Numbered.{number_in}
use Rattle.fst_minimize.specs.Spans.{IsBack, IsFront, IsInFront, IsParts, RenumbersPlaces, span_of}
use Rattle.fst_minimize.specs.declared.parts.Span.{Span}

-- ---- what the code reads

pub read_span : (members places blocks : List ℕ) (spans : List Span) (state b : ℕ) (span : Span) → IsParts members places blocks spans → state < length blocks → b ≡ number_in blocks state → span ≡ get_or spans b span → span ≡ span_of spans b
read_span members places blocks spans state b span w low numbered is = get_or_read spans b span (subst (λ (c : ℕ). c < length spans) (sym numbered) (w.number state low)) is (record { first = 0; mid = 0; end = 0 })

pub renumbers_read : (members1 members : List ℕ) (first end number1 number : ℕ) (blocks1 blocks new1 new : List ℕ) → members1 ≡ members → number1 ≡ number → blocks1 ≡ blocks → new ≡ new1
    → RenumbersPlaces members1 first end number1 blocks1 new1 → RenumbersPlaces members first end number blocks new
renumbers_read members1 members first end number1 number blocks1 blocks new1 new m n o e r =
    subst (λ (bs : List ℕ). RenumbersPlaces members first end number blocks bs) (sym e)
    (subst (λ (bs : List ℕ). RenumbersPlaces members first end number bs new1) o
    (subst (λ (k : ℕ). RenumbersPlaces members first end k blocks1 new1) n
    (subst (λ (ms : List ℕ). RenumbersPlaces ms first end number1 blocks1 new1) m r)))

-- ---- the block gets two spans, and the members in one of them the next number

module _ (members places blocks blocks2 : List ℕ) (spans more : List Span) (state b : ℕ) (span small large : Span) (w : IsParts members places blocks spans) (low : state < length blocks)
    (numbered : b ≡ number_in blocks state) (is : span ≡ span_of spans b)
    (halves : (IsFront span small × IsBack span large) ⊎ (IsBack span small × IsFront span large)) (pushed : more ≡ spans ++ small ∷ [])
    (r : RenumbersPlaces members small.first small.end (length spans) blocks blocks2) where
  abbrev spans2 : List Span
  spans2 = set more b large

  split_low : b < length spans
  split_low = subst (λ (c : ℕ). c < length spans) (sym numbered) (w.number state low)

  longer : length more ≡ length spans + 1
  longer = ap length pushed ∙ length_push spans small

  count : length spans2 ≡ length spans + 1
  count = length-set more b large ∙ longer

  span_new : (c : ℕ) → c ≡ length spans → span_of spans2 c ≡ small
  span_new c e = ap (span_of spans2) e ∙ (get_or-set_other more b (length spans) large (record { first = 0; mid = 0; end = 0 }) (let x = split_low in omega arith)
      ∙ (ap (λ (ss : List Span). span_of ss (length spans)) pushed ∙ get_or_push spans small (record { first = 0; mid = 0; end = 0 }) (length spans) refl))

  span_own : (c : ℕ) → c ≡ b → span_of spans2 c ≡ large
  span_own c e = ap (span_of spans2) e ∙ get_or-set_same more b large (record { first = 0; mid = 0; end = 0 }) (let x = split_low in let a = longer in omega arith)

  span_other : (c : ℕ) → c ≢ b → c < length spans → span_of spans2 c ≡ span_of spans c
  span_other c ne h = get_or-set_other more b c large (record { first = 0; mid = 0; end = 0 }) ne
      ∙ (ap (λ (ss : List Span). span_of ss c) pushed ∙ get_or_append_left spans (small ∷ []) (record { first = 0; mid = 0; end = 0 }) c h)

  from : span.first ≤ span.mid
  from = subst (λ (s : Span). s.first ≤ s.mid) (sym is) (w.from b split_low)

  to : span.mid ≤ span.end
  to = subst (λ (s : Span). s.mid ≤ s.end) (sym is) (w.to b split_low)

  end : span.end ≤ length blocks
  end = subst (λ (s : Span). s.end ≤ length blocks) (sym is) (w.end b split_low)

  own : (i : ℕ) → span.first ≤ i → i < span.end → number_in blocks (get_or members i 0) ≡ b
  own i = subst (λ (s : Span). s.first ≤ i → i < s.end → number_in blocks (get_or members i 0) ≡ b) (sym is) (w.own b i split_low)

  -- the members of the block stand in its span
  in_span : (p : ℕ) → p < length blocks → number_in blocks p ≡ b → (span.first ≤ get_or places p 0) × (get_or places p 0 < span.end)
  in_span p h e =
      let s : span_of spans (number_in blocks p) ≡ span = ap (span_of spans) e ∙ sym is in
      (subst (λ (t : Span). t.first ≤ get_or places p 0) s (w.behind p h), subst (λ (t : Span). get_or places p 0 < t.end) s (w.before p h))

  -- what the two parts are
  record Parts2 : Type 0 where
    pub inside : (i : ℕ) → small.first ≤ i → i < small.end → (span.first ≤ i) × (i < span.end)
    pub outside : (i : ℕ) → large.first ≤ i → i < large.end → (span.first ≤ i) × (i < span.end) × ((small.first ≤ i → i < small.end → ⊥))
    pub rest : (i : ℕ) → span.first ≤ i → i < span.end → (small.first ≤ i → i < small.end → ⊥) → (large.first ≤ i) × (i < large.end)
    pub marks : (i j : ℕ) → small.first ≤ i → i < small.end → large.first ≤ j → j < large.end → ((i < span.mid) × (j < span.mid → ⊥)) ⊎ ((j < span.mid) × (i < span.mid → ⊥))
    pub small_first : small.first ≤ small.end
    pub large_first : large.first ≤ large.end
    pub small_mid : small.mid ≡ small.first
    pub large_mid : large.mid ≡ large.first
    pub small_end : small.end ≤ span.end
    pub large_end : large.end ≤ span.end

  parts : Parts2
  parts = by halves
    where
      by : (IsFront span small × IsBack span large) ⊎ (IsBack span small × IsFront span large) → Parts2
      by (inl x) =
          let f = from in
          let t = to in
          let a = x.0.0 in
          let z = x.0.1 in
          let m = x.0.2 in
          let fa = x.1.0 in
          let fz = x.1.1 in
          let fm = x.1.2 in
          record {
            inside = λ i l h. (omega arith, omega arith);
            outside = λ i l h. (omega arith, omega arith, λ k j. omega arith);
            rest = λ i l h n. let k : span.mid ≤ i = by_cases i l n in (omega arith, omega arith);
            marks = λ i j l h k n. inl (omega arith, λ g. omega arith);
            small_first = omega arith;
            large_first = omega arith;
            small_mid = m;
            large_mid = fm;
            small_end = omega arith;
            large_end = omega arith;
          }
        where
          by_cases : (i : ℕ) → span.first ≤ i → (small.first ≤ i → i < small.end → ⊥) → span.mid ≤ i
          by_cases i l n = by_order (cases_lt i span.mid)
            where
              by_order : (i < span.mid) ⊎ (span.mid ≤ i) → span.mid ≤ i
              by_order (inl k) = let a = x.0.0 in let z = x.0.1 in absurd (n (omega arith) (omega arith))
              by_order (inr k) = k
      by (inr x) =
          let f = from in
          let t = to in
          let a = x.0.0 in
          let z = x.0.1 in
          let m = x.0.2 in
          let fa = x.1.0 in
          let fz = x.1.1 in
          let fm = x.1.2 in
          record {
            inside = λ i l h. (omega arith, omega arith);
            outside = λ i l h. (omega arith, omega arith, λ k j. omega arith);
            rest = λ i l h n. let k : i < span.mid = by_cases i h n in (omega arith, omega arith);
            marks = λ i j l h k n. inr (omega arith, λ g. omega arith);
            small_first = omega arith;
            large_first = omega arith;
            small_mid = m;
            large_mid = fm;
            small_end = omega arith;
            large_end = omega arith;
          }
        where
          by_cases : (i : ℕ) → i < span.end → (small.first ≤ i → i < small.end → ⊥) → i < span.mid
          by_cases i h n = by_order (cases_lt i span.mid)
            where
              by_order : (i < span.mid) ⊎ (span.mid ≤ i) → i < span.mid
              by_order (inl k) = k
              by_order (inr k) = let a = x.0.0 in let z = x.0.1 in absurd (n (omega arith) (omega arith))

  -- a state stands in the smaller part, and has the next number, or has the number that it had
  record InSmall (p : ℕ) : Type 0 where
    pub from : small.first ≤ get_or places p 0
    pub to : get_or places p 0 < small.end
    pub old : number_in blocks p ≡ b
    pub new : number_in blocks2 p ≡ length spans

  record NotInSmall (p : ℕ) : Type 0 where
    pub out : small.first ≤ get_or places p 0 → get_or places p 0 < small.end → ⊥
    pub kept : number_in blocks2 p ≡ number_in blocks p

  either : (p : ℕ) → p < length blocks → InSmall p ⊎ NotInSmall p
  either p h = by (cases_lt (get_or places p 0) small.first) (cases_lt (get_or places p 0) small.end)
    where
      none : (small.first ≤ get_or places p 0 → get_or places p 0 < small.end → ⊥) → NotInSmall p
      none n = record {
        out = n;
        kept = r.kept p (λ i f l e.
            let x = parts.small_end in
            let y = end in
            let at : get_or places p 0 ≡ i = ap (λ (q : ℕ). get_or places q 0) (sym e) ∙ w.place i (omega arith) in
            n (omega arith) (omega arith));
      }

      by : (get_or places p 0 < small.first) ⊎ (small.first ≤ get_or places p 0) → (get_or places p 0 < small.end) ⊎ (small.end ≤ get_or places p 0) → InSmall p ⊎ NotInSmall p
      by (inl x) y = inr (none (λ f l. omega arith))
      by (inr x) (inr y) = inr (none (λ f l. omega arith))
      by (inr x) (inl y) =
          let i = parts.inside (get_or places p 0) x y in
          inl (record {
            from = x;
            to = y;
            old = ap (number_in blocks) (sym (w.member p h)) ∙ own (get_or places p 0) i.0 i.1;
            new = ap (number_in blocks2) (sym (w.member p h)) ∙ r.moved (get_or places p 0) x y;
          })

  -- the members of the block that do not stand in the smaller part stand in the larger one
  in_large : (p : ℕ) → p < length blocks → number_in blocks p ≡ b → NotInSmall p → (large.first ≤ get_or places p 0) × (get_or places p 0 < large.end)
  in_large p h e n = let s = in_span p h e in parts.rest (get_or places p 0) s.0 s.1 n.out

  -- the span of the new number of a state
  span_small : (p : ℕ) → InSmall p → span_of spans2 (number_in blocks2 p) ≡ small
  span_small p x = span_new (number_in blocks2 p) x.new

  span_large : (p : ℕ) → NotInSmall p → number_in blocks p ≡ b → span_of spans2 (number_in blocks2 p) ≡ large
  span_large p x e = span_own (number_in blocks2 p) (x.kept ∙ e)

  span_kept : (p : ℕ) → p < length blocks → NotInSmall p → number_in blocks p ≢ b → span_of spans2 (number_in blocks2 p) ≡ span_of spans (number_in blocks p)
  span_kept p h x ne = ap (span_of spans2) x.kept ∙ span_other (number_in blocks p) ne (w.number p h)

  within : (p : ℕ) → p < length blocks → ((span_of spans2 (number_in blocks2 p)).first ≤ get_or places p 0) × (get_or places p 0 < (span_of spans2 (number_in blocks2 p)).end)
  within p h = by (either p h) (cases_eq (number_in blocks p) b)
    where
      by : InSmall p ⊎ NotInSmall p → (number_in blocks p ≡ b) ⊎ (number_in blocks p ≢ b) → ((span_of spans2 (number_in blocks2 p)).first ≤ get_or places p 0) × (get_or places p 0 < (span_of spans2 (number_in blocks2 p)).end)
      by (inl x) e = subst (λ (s : Span). (s.first ≤ get_or places p 0) × (get_or places p 0 < s.end)) (sym (span_small p x)) (x.from, x.to)
      by (inr x) (inl e) = subst (λ (s : Span). (s.first ≤ get_or places p 0) × (get_or places p 0 < s.end)) (sym (span_large p x e)) (in_large p h e x)
      by (inr x) (inr ne) = subst (λ (s : Span). (s.first ≤ get_or places p 0) × (get_or places p 0 < s.end)) (sym (span_kept p h x ne)) (w.behind p h, w.before p h)

  number_low : (p : ℕ) → p < length blocks → number_in blocks2 p < length spans2
  number_low p h = by (either p h)
    where
      by : InSmall p ⊎ NotInSmall p → number_in blocks2 p < length spans2
      by (inl x) = let e = x.new in let c = count in omega arith
      by (inr x) = let e = x.kept in let c = count in let k = w.number p h in omega arith

  -- a number is the new one, that of the block, or another of the old ones
  which : (c : ℕ) → c < length spans2 → (c ≡ length spans) ⊎ ((c ≡ b) ⊎ ((c ≢ b) × (c < length spans)))
  which c h = by (cases_eq c (length spans)) (cases_eq c b)
    where
      by : (c ≡ length spans) ⊎ (c ≢ length spans) → (c ≡ b) ⊎ (c ≢ b) → (c ≡ length spans) ⊎ ((c ≡ b) ⊎ ((c ≢ b) × (c < length spans)))
      by (inl e) f = inl e
      by (inr n) (inl e) = inr (inl e)
      by (inr n) (inr m) = inr (inr (m, let k = count in omega arith))

  -- what holds of the small span, the large one and the others holds of all
  all_spans : (P : ℕ → Span → Type 0) → ((c : ℕ) → c ≡ length spans → P c small) → ((c : ℕ) → c ≡ b → P c large) → ((c : ℕ) → c ≢ b → c < length spans → P c (span_of spans c)) → (c : ℕ) → c < length spans2 → P c (span_of spans2 c)
  all_spans P new own old c h = by (which c h)
    where
      by : (c ≡ length spans) ⊎ ((c ≡ b) ⊎ ((c ≢ b) × (c < length spans))) → P c (span_of spans2 c)
      by (inl e) = subst (P c) (sym (span_new c e)) (new c e)
      by (inr (inl e)) = subst (P c) (sym (span_own c e)) (own c e)
      by (inr (inr x)) = subst (P c) (sym (span_other c x.0 x.1)) (old c x.0 x.1)

  -- a member that does not stand in the smaller part keeps its number
  member_kept : (i : ℕ) → i < length blocks → (small.first ≤ i → i < small.end → ⊥) → number_in blocks2 (get_or members i 0) ≡ number_in blocks (get_or members i 0)
  member_kept i h n = r.kept (get_or members i 0) (λ j f l e.
      let x = parts.small_end in
      let y = end in
      let at : j ≡ i = sym (w.place j (omega arith)) ∙ (ap (λ (p : ℕ). get_or places p 0) e ∙ w.place i h) in
      n (omega arith) (omega arith))

  own_all : (c : ℕ) → c < length spans2 → (i : ℕ) → (span_of spans2 c).first ≤ i → i < (span_of spans2 c).end → number_in blocks2 (get_or members i 0) ≡ c
  own_all = all_spans (λ c s. (i : ℕ) → s.first ≤ i → i < s.end → number_in blocks2 (get_or members i 0) ≡ c)
      (λ c e i f l. r.moved i f l ∙ sym e)
      (λ c e i f l. let o = parts.outside i f l in member_kept i (let x = o.1 in let y = end in omega arith) o.2 ∙ (own i o.0 o.1 ∙ sym e))
      (λ c ne h i f l.
      let low : i < length blocks = let x = w.end c h in omega arith in
      let old = w.own c i h f l in
      member_kept i low (λ g k. let o = parts.inside i g k in ne (sym old ∙ own i o.0 o.1)) ∙ old)

  ordered : (c : ℕ) → c < length spans2 → ((span_of spans2 c).first ≤ (span_of spans2 c).mid) × ((span_of spans2 c).mid ≤ (span_of spans2 c).end) × ((span_of spans2 c).end ≤ length blocks2)
  ordered = all_spans (λ c s. (s.first ≤ s.mid) × (s.mid ≤ s.end) × (s.end ≤ length blocks2))
      (λ c e. let q = parts in let y = end in let z = r.size in (omega arith, omega arith, omega arith))
      (λ c e. let q = parts in let y = end in let z = r.size in (omega arith, omega arith, omega arith))
      (λ c ne h. (w.from c h, w.to c h, let y = w.end c h in let z = r.size in omega arith))

  pub split_parts : IsParts members places blocks2 spans2
  split_parts = let z = r.size in record {
    size = w.size ∙ sym r.size;
    sizes = w.sizes ∙ sym r.size;
    state = λ i h. let x = w.state i (omega arith) in omega arith;
    member = λ p h. w.member p (omega arith);
    place = λ i h. w.place i (omega arith);
    number = λ p h. number_low p (omega arith);
    behind = λ p h. (within p (omega arith)).0;
    before = λ p h. (within p (omega arith)).1;
    own = λ c i h f l. own_all c h i f l;
    from = λ c h. (ordered c h).0;
    to = λ c h. (ordered c h).1;
    end = λ c h. (ordered c h).2;
  }

  -- ---- what the new numbers and marks say of the old ones

  pub split_finer : (p q : ℕ) → p < length blocks → q < length blocks → number_in blocks2 p ≡ number_in blocks2 q → number_in blocks p ≡ number_in blocks q
  split_finer p q h k e = by (either p h) (either q k)
    where
      by : InSmall p ⊎ NotInSmall p → InSmall q ⊎ NotInSmall q → number_in blocks p ≡ number_in blocks q
      by (inl x) (inl y) = x.old ∙ sym y.old
      by (inl x) (inr y) = absurd (let a = x.new in let z = y.kept in let l = w.number q k in omega arith)
      by (inr x) (inl y) = absurd (let a = y.new in let z = x.kept in let l = w.number p h in omega arith)
      by (inr x) (inr y) = sym x.kept ∙ (e ∙ y.kept)

  mid_was : (p : ℕ) → number_in blocks p ≡ b → (span_of spans (number_in blocks p)).mid ≡ span.mid
  mid_was p e = ap (λ (s : Span). s.mid) (ap (span_of spans) e ∙ sym is)

  -- a member of the smaller part and one of the larger part differ in their marks
  differ : (p q : ℕ) → q < length blocks → InSmall p → NotInSmall q → number_in blocks q ≡ b
      → (IsInFront places blocks spans p × (IsInFront places blocks spans q → ⊥)) ⊎ (IsInFront places blocks spans q × (IsInFront places blocks spans p → ⊥))
  differ p q k x y e = by (parts.marks (get_or places p 0) (get_or places q 0) x.from x.to (in_large q k e y).0 (in_large q k e y).1)
    where
      by : ((get_or places p 0 < span.mid) × (get_or places q 0 < span.mid → ⊥)) ⊎ ((get_or places q 0 < span.mid) × (get_or places p 0 < span.mid → ⊥))
          → (IsInFront places blocks spans p × (IsInFront places blocks spans q → ⊥)) ⊎ (IsInFront places blocks spans q × (IsInFront places blocks spans p → ⊥))
      by (inl z) = inl (subst (λ (m : ℕ). get_or places p 0 < m) (sym (mid_was p x.old)) z.0, λ g. z.1 (subst (λ (m : ℕ). get_or places q 0 < m) (mid_was q e) g))
      by (inr z) = inr (subst (λ (m : ℕ). get_or places q 0 < m) (sym (mid_was q e)) z.0, λ g. z.1 (subst (λ (m : ℕ). get_or places p 0 < m) (mid_was p x.old) g))

  pub split_apart : (p q : ℕ) → p < length blocks → q < length blocks → number_in blocks p ≡ number_in blocks q → (number_in blocks2 p ≡ number_in blocks2 q → ⊥)
      → (IsInFront places blocks spans p × (IsInFront places blocks spans q → ⊥)) ⊎ (IsInFront places blocks spans q × (IsInFront places blocks spans p → ⊥))
  split_apart p q h k e ne = by (either p h) (either q k)
    where
      turned : (IsInFront places blocks spans q × (IsInFront places blocks spans p → ⊥)) ⊎ (IsInFront places blocks spans p × (IsInFront places blocks spans q → ⊥))
          → (IsInFront places blocks spans p × (IsInFront places blocks spans q → ⊥)) ⊎ (IsInFront places blocks spans q × (IsInFront places blocks spans p → ⊥))
      turned (inl z) = inr z
      turned (inr z) = inl z

      by : InSmall p ⊎ NotInSmall p → InSmall q ⊎ NotInSmall q → (IsInFront places blocks spans p × (IsInFront places blocks spans q → ⊥)) ⊎ (IsInFront places blocks spans q × (IsInFront places blocks spans p → ⊥))
      by (inl x) (inl y) = absurd (ne (x.new ∙ sym y.new))
      by (inl x) (inr y) = differ p q k x y (sym e ∙ x.old)
      by (inr x) (inl y) = turned (differ q p h y x (e ∙ y.old))
      by (inr x) (inr y) = absurd (ne (x.kept ∙ (e ∙ sym y.kept)))

  pub split_gone : (p : ℕ) → p < length blocks → IsInFront places blocks2 spans2 p → IsInFront places blocks spans p × (number_in blocks p ≢ number_in blocks state)
  split_gone p h mark = by (either p h) (cases_eq (number_in blocks p) b)
    where
      by : InSmall p ⊎ NotInSmall p → (number_in blocks p ≡ b) ⊎ (number_in blocks p ≢ b) → IsInFront places blocks spans p × (number_in blocks p ≢ number_in blocks state)
      by (inl x) e = absurd (let m = subst (λ (s : Span). get_or places p 0 < s.mid) (span_small p x) mark in let f = x.from in let z = parts.small_mid in omega arith)
      by (inr x) (inl e) = absurd (let m = subst (λ (s : Span). get_or places p 0 < s.mid) (span_large p x e) mark in let f = (in_large p h e x).0 in let z = parts.large_mid in omega arith)
      by (inr x) (inr ne) = (subst (λ (s : Span). get_or places p 0 < s.mid) (span_kept p h x ne) mark, λ e. ne (e ∙ sym numbered))

  pub split_kept : (p : ℕ) → p < length blocks → number_in blocks p ≢ number_in blocks state → IsInFront places blocks spans p → IsInFront places blocks2 spans2 p
  split_kept p h ne mark = by (either p h)
    where
      by : InSmall p ⊎ NotInSmall p → IsInFront places blocks2 spans2 p
      by (inl x) = absurd (ne (x.old ∙ numbered))
      by (inr x) = subst (λ (s : Span). get_or places p 0 < s.mid) (sym (span_kept p h x (λ e. ne (e ∙ numbered)))) mark
