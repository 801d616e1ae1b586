-- States in blocks: a state is moved to the marked members of its block.
use Rattle.std.proofs.Common.{◌≡◌, ◌≢◌, ◌⊎◌, inl, inr, ℕ, ◌+◌, ◌<◌, ◌≤◌, List, get_or, length, set, sym, refl, ap, ◌∙◌, subst, arith}
use Rattle.std.proofs.lemmas.List.{get_or_read, get_or-set_same, get_or-set_other, length-set}
use Rattle.std.proofs.lemmas.Bool.{cases_eq}
use Rattle.fst_minimize.specs.Numbered.{number_in}
use Rattle.fst_minimize.specs.Spans.{IsInFront, IsParts, span_of}
use Rattle.fst_minimize.specs.declared.parts.Span.{Span}

-- ---- what two writes leave in a place: the second, the first, or what was there

two_set_last : (xs : List ℕ) (i a j b k : ℕ) → j < length xs → k ≡ j → get_or (set (set xs i a) j b) k 0 ≡ b
two_set_last xs i a j b k low e = ap (λ (m : ℕ). get_or (set (set xs i a) j b) m 0) e ∙ get_or-set_same (set xs i a) j b 0 (let s = length-set xs i a in omega arith)

two_set_first : (xs : List ℕ) (i a j b k : ℕ) → i < length xs → k ≢ j → k ≡ i → get_or (set (set xs i a) j b) k 0 ≡ a
two_set_first xs i a j b k low ne e = get_or-set_other (set xs i a) j k b 0 ne ∙ (ap (λ (m : ℕ). get_or (set xs i a) m 0) e ∙ get_or-set_same xs i a 0 low)

two_set_none : (xs : List ℕ) (i a j b k : ℕ) → k ≢ j → k ≢ i → get_or (set (set xs i a) j b) k 0 ≡ get_or xs k 0
two_set_none xs i a j b k ne other = get_or-set_other (set xs i a) j k b 0 ne ∙ get_or-set_other xs i k a 0 other

-- a number is the one, else the other, or neither
three : (k j i : ℕ) → (k ≡ j) ⊎ (((k ≢ j) × (k ≡ i)) ⊎ ((k ≢ j) × (k ≢ i)))
three k j i = by (cases_eq k j) (cases_eq k i)
  where
    by : (k ≡ j) ⊎ (k ≢ j) → (k ≡ i) ⊎ (k ≢ i) → (k ≡ j) ⊎ (((k ≢ j) × (k ≡ i)) ⊎ ((k ≢ j) × (k ≢ i)))
    by (inl e) f = inl e
    by (inr n) (inl e) = inr (inl (n, e))
    by (inr n) (inr m) = inr (inr (n, m))

-- ---- what is read to give a state a mark

pub record HasRead (members places blocks : List ℕ) (spans : List Span) (state b place other : ℕ) (span : Span) : Type 0 where
  pub numbered : b ≡ number_in blocks state
  pub is : span ≡ span_of spans b
  pub stands : place ≡ get_or places state 0
  pub there : other ≡ get_or members span.mid 0

pub has_read : (members places blocks : List ℕ) (spans : List Span) (state b place other : ℕ) (span : Span) → IsParts members places blocks spans → state < length blocks → span.mid ≤ place
    → b ≡ get_or blocks state b → span ≡ get_or spans b span → place ≡ get_or places state place → other ≡ get_or members span.mid other → HasRead members places blocks spans state b place other span
has_read members places blocks spans state b place other span w low late numbered is stands there = record {
  numbered = number;
  is = whole;
  stands = at;
  there = get_or_read members span.mid other (let s = w.size in let x = place_low in omega arith) there 0;
}
  where
    number : b ≡ number_in blocks state
    number = get_or_read blocks state b low numbered 0

    block_low : b < length spans
    block_low = subst (λ (c : ℕ). c < length spans) (sym number) (w.number state low)

    whole : span ≡ span_of spans b
    whole = get_or_read spans b span block_low is (record { first = 0; mid = 0; end = 0 })

    at : place ≡ get_or places state 0
    at = get_or_read places state place (let s = w.sizes in omega arith) stands 0

    place_low : place < length blocks
    place_low = subst (λ (i : ℕ). i < length blocks) (sym at) (let x = w.before state low in let y = w.end (number_in blocks state) (w.number state low) in omega arith)

-- ---- the state and the first member without a mark change their places, and the middle goes on by one

module _ (members places blocks : List ℕ) (spans : List Span) (state b place other : ℕ) (span : Span) (w : IsParts members places blocks spans) (low : state < length blocks)
    (h : HasRead members places blocks spans state b place other span) (late : span.mid ≤ place) where
  numbered : b ≡ number_in blocks state
  numbered = h.numbered

  is : span ≡ span_of spans b
  is = h.is

  stands : place ≡ get_or places state 0
  stands = h.stands

  there : other ≡ get_or members span.mid 0
  there = h.there

  abbrev members2 : List ℕ
  members2 = set (set members span.mid state) place other

  abbrev places2 : List ℕ
  places2 = set (set places state span.mid) other place

  abbrev span2 : Span
  span2 = record { first = span.first; mid = span.mid + 1; end = span.end }

  abbrev spans2 : List Span
  spans2 = set spans b span2

  block_low : b < length spans
  block_low = subst (λ (c : ℕ). c < length spans) (sym numbered) (w.number state low)

  from : span.first ≤ span.mid
  from = subst (λ (s : Span). s.first ≤ s.mid) (sym is) (w.from b block_low)

  before : place < span.end
  before = let here = subst (λ (c : ℕ). get_or places state 0 < (span_of spans c).end) (sym numbered) (w.before state low) in subst (λ (s : Span). place < s.end) (sym is) (omega arith)

  end : span.end ≤ length blocks
  end = subst (λ (s : Span). s.end ≤ length blocks) (sym is) (w.end b block_low)

  own : (i : ℕ) → span.first ≤ i → i < span.end → number_in blocks (get_or members i 0) ≡ b
  own i = subst (λ (s : Span). s.first ≤ i → i < s.end → number_in blocks (get_or members i 0) ≡ b) (sym is) (w.own b i block_low)

  place_low : place < length blocks
  place_low = let x = before in let y = end in omega arith

  mid_low : span.mid < length blocks
  mid_low = let x = place_low in omega arith

  -- who stands in the place, and where the other one stands
  at_place : get_or members place 0 ≡ state
  at_place = ap (λ (i : ℕ). get_or members i 0) stands ∙ w.member state low

  other_low : other < length blocks
  other_low = subst (λ (p : ℕ). p < length blocks) (sym there) (w.state span.mid mid_low)

  of_other : get_or places other 0 ≡ span.mid
  of_other = ap (λ (p : ℕ). get_or places p 0) there ∙ w.place span.mid mid_low

  other_number : number_in blocks other ≡ b
  other_number = ap (number_in blocks) there ∙ own span.mid from (let x = before in omega arith)

  -- the lists afterwards
  member_last : (i : ℕ) → i ≡ place → get_or members2 i 0 ≡ other
  member_last i = two_set_last members span.mid state place other i (let x = place_low in let s = w.size in omega arith)

  member_first : (i : ℕ) → i ≢ place → i ≡ span.mid → get_or members2 i 0 ≡ state
  member_first i = two_set_first members span.mid state place other i (let x = mid_low in let s = w.size in omega arith)

  member_none : (i : ℕ) → i ≢ place → i ≢ span.mid → get_or members2 i 0 ≡ get_or members i 0
  member_none i = two_set_none members span.mid state place other i

  place_last : (p : ℕ) → p ≡ other → get_or places2 p 0 ≡ place
  place_last p = two_set_last places state span.mid other place p (let x = other_low in let s = w.sizes in omega arith)

  place_first : (p : ℕ) → p ≢ other → p ≡ state → get_or places2 p 0 ≡ span.mid
  place_first p = two_set_first places state span.mid other place p (let s = w.sizes in omega arith)

  place_none : (p : ℕ) → p ≢ other → p ≢ state → get_or places2 p 0 ≡ get_or places p 0
  place_none p = two_set_none places state span.mid other place p

  span_own : (c : ℕ) → c ≡ b → span_of spans2 c ≡ span2
  span_own c e = ap (span_of spans2) e ∙ get_or-set_same spans b span2 (record { first = 0; mid = 0; end = 0 }) block_low

  span_other : (c : ℕ) → c ≢ b → span_of spans2 c ≡ span_of spans c
  span_other c ne = get_or-set_other spans b c span2 (record { first = 0; mid = 0; end = 0 }) ne

  first_kept : (c : ℕ) → (span_of spans2 c).first ≡ (span_of spans c).first
  first_kept c = by (cases_eq c b)
    where
      by : (c ≡ b) ⊎ (c ≢ b) → (span_of spans2 c).first ≡ (span_of spans c).first
      by (inl e) = ap (λ (s : Span). s.first) (span_own c e) ∙ ap (λ (s : Span). s.first) (is ∙ ap (span_of spans) (sym e))
      by (inr ne) = ap (λ (s : Span). s.first) (span_other c ne)

  end_kept : (c : ℕ) → (span_of spans2 c).end ≡ (span_of spans c).end
  end_kept c = by (cases_eq c b)
    where
      by : (c ≡ b) ⊎ (c ≢ b) → (span_of spans2 c).end ≡ (span_of spans c).end
      by (inl e) = ap (λ (s : Span). s.end) (span_own c e) ∙ ap (λ (s : Span). s.end) (is ∙ ap (span_of spans) (sym e))
      by (inr ne) = ap (λ (s : Span). s.end) (span_other c ne)

  member_back : (p : ℕ) → p < length blocks → get_or members2 (get_or places2 p 0) 0 ≡ p
  member_back p h = by (three p other state)
    where
      by : (p ≡ other) ⊎ (((p ≢ other) × (p ≡ state)) ⊎ ((p ≢ other) × (p ≢ state))) → get_or members2 (get_or places2 p 0) 0 ≡ p
      by (inl e) = member_last (get_or places2 p 0) (place_last p e) ∙ sym e
      by (inr (inl x)) =
          let ne : get_or places2 p 0 ≢ place = λ e. x.0 (x.1 ∙ (sym at_place ∙ (ap (λ (i : ℕ). get_or members i 0) (sym e ∙ place_first p x.0 x.1) ∙ sym there))) in
          member_first (get_or places2 p 0) ne (place_first p x.0 x.1) ∙ sym x.1
      by (inr (inr x)) =
          let q : get_or places2 p 0 ≡ get_or places p 0 = place_none p x.0 x.1 in
          let back : get_or members (get_or places2 p 0) 0 ≡ p = ap (λ (i : ℕ). get_or members i 0) q ∙ w.member p h in
          let ne : get_or places2 p 0 ≢ place = λ e. x.1 (sym back ∙ (ap (λ (i : ℕ). get_or members i 0) e ∙ at_place)) in
          let me : get_or places2 p 0 ≢ span.mid = λ e. x.0 (sym back ∙ (ap (λ (i : ℕ). get_or members i 0) e ∙ sym there)) in
          member_none (get_or places2 p 0) ne me ∙ back

  place_back : (i : ℕ) → i < length blocks → get_or places2 (get_or members2 i 0) 0 ≡ i
  place_back i h = by (three i place span.mid)
    where
      by : (i ≡ place) ⊎ (((i ≢ place) × (i ≡ span.mid)) ⊎ ((i ≢ place) × (i ≢ span.mid))) → get_or places2 (get_or members2 i 0) 0 ≡ i
      by (inl e) = place_last (get_or members2 i 0) (member_last i e) ∙ sym e
      by (inr (inl x)) =
          let ne : get_or members2 i 0 ≢ other = λ e. x.0 (x.1 ∙ (sym of_other ∙ (ap (λ (p : ℕ). get_or places p 0) (sym e ∙ member_first i x.0 x.1) ∙ sym stands))) in
          place_first (get_or members2 i 0) ne (member_first i x.0 x.1) ∙ sym x.1
      by (inr (inr x)) =
          let q : get_or members2 i 0 ≡ get_or members i 0 = member_none i x.0 x.1 in
          let back : get_or places (get_or members2 i 0) 0 ≡ i = ap (λ (p : ℕ). get_or places p 0) q ∙ w.place i h in
          let ne : get_or members2 i 0 ≢ other = λ e. x.1 (sym back ∙ (ap (λ (p : ℕ). get_or places p 0) e ∙ of_other)) in
          let me : get_or members2 i 0 ≢ state = λ e. x.0 (sym back ∙ (ap (λ (p : ℕ). get_or places p 0) e ∙ sym stands)) in
          place_none (get_or members2 i 0) ne me ∙ back

  state_low : (i : ℕ) → i < length blocks → get_or members2 i 0 < length blocks
  state_low i h = by (three i place span.mid)
    where
      by : (i ≡ place) ⊎ (((i ≢ place) × (i ≡ span.mid)) ⊎ ((i ≢ place) × (i ≢ span.mid))) → get_or members2 i 0 < length blocks
      by (inl e) = subst (λ (p : ℕ). p < length blocks) (sym (member_last i e)) other_low
      by (inr (inl x)) = subst (λ (p : ℕ). p < length blocks) (sym (member_first i x.0 x.1)) low
      by (inr (inr x)) = subst (λ (p : ℕ). p < length blocks) (sym (member_none i x.0 x.1)) (w.state i h)

  -- a place within a span, for the three kinds of state
  within : (p : ℕ) → p < length blocks → ((span_of spans (number_in blocks p)).first ≤ get_or places2 p 0) × (get_or places2 p 0 < (span_of spans (number_in blocks p)).end)
  within p h = by (three p other state)
    where
      old : (number_in blocks p ≡ b) → (i : ℕ) → get_or places2 p 0 ≡ i → span.first ≤ i → i < span.end → ((span_of spans (number_in blocks p)).first ≤ get_or places2 p 0) × (get_or places2 p 0 < (span_of spans (number_in blocks p)).end)
      old n i e f l =
          let s : span ≡ span_of spans (number_in blocks p) = is ∙ ap (span_of spans) (sym n) in
          let a : span.first ≡ (span_of spans (number_in blocks p)).first = ap (λ (t : Span). t.first) s in
          let z : span.end ≡ (span_of spans (number_in blocks p)).end = ap (λ (t : Span). t.end) s in
          (omega arith, omega arith)

      by : (p ≡ other) ⊎ (((p ≢ other) × (p ≡ state)) ⊎ ((p ≢ other) × (p ≢ state))) → ((span_of spans (number_in blocks p)).first ≤ get_or places2 p 0) × (get_or places2 p 0 < (span_of spans (number_in blocks p)).end)
      by (inl e) = old (ap (number_in blocks) e ∙ other_number) place (place_last p e) (let x = from in omega arith) before
      by (inr (inl x)) = old (ap (number_in blocks) x.1 ∙ sym numbered) span.mid (place_first p x.0 x.1) from (let y = before in omega arith)
      by (inr (inr x)) = let e = place_none p x.0 x.1 in let f = w.behind p h in let l = w.before p h in (omega arith, omega arith)

  own2 : (c i : ℕ) → c < length spans → (span_of spans c).first ≤ i → i < (span_of spans c).end → number_in blocks (get_or members2 i 0) ≡ c
  own2 c i h f l = by (three i place span.mid)
    where
      by : (i ≡ place) ⊎ (((i ≢ place) × (i ≡ span.mid)) ⊎ ((i ≢ place) × (i ≢ span.mid))) → number_in blocks (get_or members2 i 0) ≡ c
      by (inl e) = ap (number_in blocks) (member_last i e) ∙ (other_number ∙ (numbered ∙ (ap (number_in blocks) (sym at_place ∙ ap (λ (k : ℕ). get_or members k 0) (sym e)) ∙ w.own c i h f l)))
      by (inr (inl x)) = ap (number_in blocks) (member_first i x.0 x.1) ∙ (sym numbered ∙ (sym other_number ∙ (ap (number_in blocks) (there ∙ ap (λ (k : ℕ). get_or members k 0) (sym x.1)) ∙ w.own c i h f l)))
      by (inr (inr x)) = ap (number_in blocks) (member_none i x.0 x.1) ∙ w.own c i h f l

  ordered : (c : ℕ) → c < length spans → ((span_of spans2 c).first ≤ (span_of spans2 c).mid) × ((span_of spans2 c).mid ≤ (span_of spans2 c).end)
  ordered c h = by (cases_eq c b)
    where
      by : (c ≡ b) ⊎ (c ≢ b) → ((span_of spans2 c).first ≤ (span_of spans2 c).mid) × ((span_of spans2 c).mid ≤ (span_of spans2 c).end)
      by (inl e) = subst (λ (s : Span). (s.first ≤ s.mid) × (s.mid ≤ s.end)) (sym (span_own c e)) (let x = from in let y = before in (omega arith, omega arith))
      by (inr ne) = subst (λ (s : Span). (s.first ≤ s.mid) × (s.mid ≤ s.end)) (sym (span_other c ne)) (w.from c h, w.to c h)

  longer : (c : ℕ) → c < length spans2 → c < length spans
  longer c h = let s = length-set spans b span2 in omega arith

  pub marked_parts : IsParts members2 places2 blocks spans2
  marked_parts = record {
    size = length-set (set members span.mid state) place other ∙ (length-set members span.mid state ∙ w.size);
    sizes = length-set (set places state span.mid) other place ∙ (length-set places state span.mid ∙ w.sizes);
    state = state_low;
    member = member_back;
    place = place_back;
    number = λ p h. let s = length-set spans b span2 in let k = w.number p h in omega arith;
    behind = λ p h. subst (λ (f : ℕ). f ≤ get_or places2 p 0) (sym (first_kept (number_in blocks p))) (within p h).0;
    before = λ p h. subst (λ (f : ℕ). get_or places2 p 0 < f) (sym (end_kept (number_in blocks p))) (within p h).1;
    own = λ c i h f l. own2 c i (longer c h) (subst (λ (k : ℕ). k ≤ i) (first_kept c) f) (subst (λ (k : ℕ). i < k) (end_kept c) l);
    from = λ c h. (ordered c (longer c h)).0;
    to = λ c h. (ordered c (longer c h)).1;
    end = λ c h. subst (λ (k : ℕ). k ≤ length blocks) (sym (end_kept c)) (w.end c (longer c h));
  }

  -- ---- the marks afterwards

  mid_own : (p : ℕ) → number_in blocks p ≡ b → (span_of spans2 (number_in blocks p)).mid ≡ span.mid + 1
  mid_own p e = ap (λ (s : Span). s.mid) (span_own (number_in blocks p) e)

  mid_was : (p : ℕ) → number_in blocks p ≡ b → (span_of spans (number_in blocks p)).mid ≡ span.mid
  mid_was p e = ap (λ (s : Span). s.mid) (ap (span_of spans) e ∙ sym is)

  mid_other : (p : ℕ) → number_in blocks p ≢ b → (span_of spans2 (number_in blocks p)).mid ≡ (span_of spans (number_in blocks p)).mid
  mid_other p ne = ap (λ (s : Span). s.mid) (span_other (number_in blocks p) ne)

  pub mark_own : IsInFront places2 blocks spans2 state
  mark_own = by (cases_eq state other)
    where
      by : (state ≡ other) ⊎ (state ≢ other) → IsInFront places2 blocks spans2 state
      by (inl e) =
          let m = mid_own state (sym numbered) in
          let at = place_last state e in
          let same : place ≡ span.mid = stands ∙ (ap (λ (p : ℕ). get_or places p 0) e ∙ of_other) in
          omega arith
      by (inr ne) = let m = mid_own state (sym numbered) in let at = place_first state ne refl in omega arith

  pub mark_kept : (p : ℕ) → p < length blocks → IsInFront places blocks spans p → IsInFront places2 blocks spans2 p
  mark_kept p h mark = by (three p other state)
    where
      none : p ≢ other → p ≢ state → (number_in blocks p ≡ b) ⊎ (number_in blocks p ≢ b) → IsInFront places2 blocks spans2 p
      none ne me (inl e) = let at = place_none p ne me in let m = mid_own p e in let o = mid_was p e in omega arith
      none ne me (inr n) = let at = place_none p ne me in let m = mid_other p n in omega arith

      by : (p ≡ other) ⊎ (((p ≢ other) × (p ≡ state)) ⊎ ((p ≢ other) × (p ≢ state))) → IsInFront places2 blocks spans2 p
      by (inl e) = absurd (let at : get_or places p 0 ≡ span.mid = ap (λ (q : ℕ). get_or places q 0) e ∙ of_other in let o = mid_was p (ap (number_in blocks) e ∙ other_number) in omega arith)
      by (inr (inl x)) = subst (IsInFront places2 blocks spans2) (sym x.1) mark_own
      by (inr (inr x)) = none x.0 x.1 (cases_eq (number_in blocks p) b)

  pub mark_there : (p : ℕ) → p < length blocks → IsInFront places2 blocks spans2 p → IsInFront places blocks spans p ⊎ (p ≡ state)
  mark_there p h mark = by (three p other state)
    where
      none : p ≢ other → p ≢ state → (number_in blocks p ≡ b) ⊎ (number_in blocks p ≢ b) → IsInFront places blocks spans p
      none ne me (inl e) =
          let at = place_none p ne me in
          let m = mid_own p e in
          let o = mid_was p e in
          let not : get_or places p 0 ≢ span.mid = λ s. ne (sym (w.member p h) ∙ (ap (λ (i : ℕ). get_or members i 0) s ∙ sym there)) in
          omega arith
      none ne me (inr n) = let at = place_none p ne me in let m = mid_other p n in omega arith

      by : (p ≡ other) ⊎ (((p ≢ other) × (p ≡ state)) ⊎ ((p ≢ other) × (p ≢ state))) → IsInFront places blocks spans p ⊎ (p ≡ state)
      by (inl e) =
          let at = place_last p e in
          let m = mid_own p (ap (number_in blocks) e ∙ other_number) in
          let same : place ≡ span.mid = omega arith in
          inr (e ∙ (there ∙ (ap (λ (i : ℕ). get_or members i 0) (sym same) ∙ at_place)))
      by (inr (inl x)) = inr x.1
      by (inr (inr x)) = inl (none x.0 x.1 (cases_eq (number_in blocks p) b))
