-- Rows numbered in the order in which they first came: one more, and what the numbers tell.
use Rattle.std.proofs.Common.{◌≡◌, ◌⊎◌, inl, inr, ℕ, ◌+◌, ◌<◌, ◌≤◌, suc, Bool, true, false, true≢false, Fits, w32, List, [], ◌∷◌, ◌++◌, Option, Some, length, get_or, slice_get, sym, refl, ap, ap₂, ◌∙◌, subst, arith}
use Rattle.std.proofs.lemmas.List.{length-append}
use Rattle.std.proofs.lemmas.Option.{slice_get-get_or, slice_get_within, same_Some}
use Rattle.std.specs.Bool.{Decides}
use Rattle.fst_machine.proofs.Arcs.{at_append_left}
use Rattle.fst_distance.proofs.Lists.{push_at, push_last}
use Rattle.fst_minimize.specs.Pairs.{IsNext, IsNumberTable, KnowsMore, Spells, packed}
use Rattle.fst_minimize.specs.Numbered.{AreSmall, IsNumbering, Notes, Reads, Numbers, TellsApart}
use Rattle.fst_minimize.proofs.Tables.{Spells_more, Spells_same, Spells_once, packed_once}

-- one row more with a number that is known
pub numbering_known : (numbers least : List ℕ) (n : ℕ) → IsNumbering numbers least → n < length least → IsNumbering (numbers ++ n ∷ []) least
numbering_known numbers least n h low = record {
  member = λ i p e. at_append_left numbers (n ∷ []) p i (h.member i p e);
  first = first;
  ascending = h.ascending;
}
  where
    first : (p i : ℕ) → slice_get (numbers ++ n ∷ []) p ≡ Some i → (q : ℕ) × (slice_get least i ≡ Some q) × (q ≤ p)
    first p i e = by (push_at numbers n i p e)
      where
        by : (slice_get numbers p ≡ Some i) ⊎ ((p ≡ length numbers) × (n ≡ i)) → (q : ℕ) × (slice_get least i ≡ Some q) × (q ≤ p)
        by (inl old) = h.first p i old
        by (inr new) =
            let q = get_or least n 0 in
            let there = slice_get-get_or least n 0 low in
            let early = slice_get_within numbers q n (h.member n q there) in
            let last = new.0 in
            (q, subst (λ (k : ℕ). slice_get least k ≡ Some q) new.1 there, omega arith)

-- one row more with the next number
pub numbering_next : (numbers least : List ℕ) → IsNumbering numbers least → IsNumbering (numbers ++ length least ∷ []) (least ++ length numbers ∷ [])
numbering_next numbers least h = record { member = member; first = first; ascending = ascending }
  where
    member : (i p : ℕ) → slice_get (least ++ length numbers ∷ []) i ≡ Some p → slice_get (numbers ++ length least ∷ []) p ≡ Some i
    member i p e = by (push_at least (length numbers) p i e)
      where
        by : (slice_get least i ≡ Some p) ⊎ ((i ≡ length least) × (length numbers ≡ p)) → slice_get (numbers ++ length least ∷ []) p ≡ Some i
        by (inl old) = at_append_left numbers (length least ∷ []) p i (h.member i p old)
        by (inr new) = subst (λ (k : ℕ). slice_get (numbers ++ length least ∷ []) k ≡ Some i) new.1 (push_last numbers (length least) ∙ ap Some (sym new.0))

    first : (p i : ℕ) → slice_get (numbers ++ length least ∷ []) p ≡ Some i → (q : ℕ) × (slice_get (least ++ length numbers ∷ []) i ≡ Some q) × (q ≤ p)
    first p i e = by (push_at numbers (length least) i p e)
      where
        by : (slice_get numbers p ≡ Some i) ⊎ ((p ≡ length numbers) × (length least ≡ i)) → (q : ℕ) × (slice_get (least ++ length numbers ∷ []) i ≡ Some q) × (q ≤ p)
        by (inl old) = let o = h.first p i old in (o.0, at_append_left least (length numbers ∷ []) i o.0 o.1, o.2)
        by (inr new) = let last = new.0 in (length numbers, subst (λ (k : ℕ). slice_get (least ++ length numbers ∷ []) k ≡ Some (length numbers)) new.1 (push_last least (length numbers)), omega arith)

    ascending : (i j p q : ℕ) → i < j → slice_get (least ++ length numbers ∷ []) i ≡ Some p → slice_get (least ++ length numbers ∷ []) j ≡ Some q → p < q
    ascending i j p q low e f = by (push_at least (length numbers) p i e) (push_at least (length numbers) q j f)
      where
        by : (slice_get least i ≡ Some p) ⊎ ((i ≡ length least) × (length numbers ≡ p)) → (slice_get least j ≡ Some q) ⊎ ((j ≡ length least) × (length numbers ≡ q)) → p < q
        by (inl a) (inl b) = h.ascending i j p q low a b
        by (inl a) (inr b) = let early = slice_get_within numbers p i (h.member i p a) in let last = b.1 in omega arith
        by (inr a) (inl b) = let within = slice_get_within least j q b in let last = a.0 in absurd (omega arith)
        by (inr a) (inr b) = let one = a.0 in let two = b.0 in absurd (omega arith)

-- what was read stays read, with one row more
Reads_more : (nodes ends nodes2 ends2 : ℕ → Option ℕ) (seen : List (ℕ × List ℕ)) (new : ℕ × List ℕ) (p i : ℕ) → KnowsMore nodes nodes2 → KnowsMore ends ends2 → Reads nodes ends seen p i → Reads nodes2 ends2 (seen ++ new ∷ []) p i
Reads_more nodes ends nodes2 ends2 seen new p i more others r = record {
  head = r.head;
  row = r.row;
  there = at_append_left seen (new ∷ []) p (r.head, r.row) r.there;
  small = r.small;
  short = r.short;
  end = r.end;
  spells = Spells_more nodes nodes2 r.head r.row r.end more r.spells;
  ends_with = others (packed r.end (length r.row)) i r.ends_with;
}

-- one row more
module _ (nodes ends nodes2 ends2 : ℕ → Option ℕ) (count count2 : ℕ) (seen : List (ℕ × List ℕ)) (numbers least : List ℕ) (head : ℕ) (row : List ℕ) (end n : ℕ)
    (h : Numbers nodes ends count seen numbers least) (more : KnowsMore nodes nodes2) (others : KnowsMore ends ends2)
    (small : AreSmall row) (short : length row < 4294967296) (spells : Spells nodes2 head row end) (told : ends2 (packed end (length row)) ≡ Some n) where
  reads_push : (p i : ℕ) → slice_get (numbers ++ n ∷ []) p ≡ Some i → Reads nodes2 ends2 (seen ++ (head, row) ∷ []) p i
  reads_push p i e = by (push_at numbers n i p e)
    where
      by : (slice_get numbers p ≡ Some i) ⊎ ((p ≡ length numbers) × (n ≡ i)) → Reads nodes2 ends2 (seen ++ (head, row) ∷ []) p i
      by (inl old) = Reads_more nodes ends nodes2 ends2 seen (head, row) p i more others (h.reads p i old)
      by (inr new) =
          let at : p ≡ length seen = new.0 ∙ h.size in
          record {
            head = head;
            row = row;
            there = subst (λ (k : ℕ). slice_get (seen ++ (head, row) ∷ []) k ≡ Some (head, row)) (sym at) (push_last seen (head, row));
            small = small;
            short = short;
            end = end;
            spells = spells;
            ends_with = told ∙ ap Some new.1;
          }

  size_push : length (numbers ++ n ∷ []) ≡ length (seen ++ (head, row) ∷ [])
  size_push = let a = length-append numbers (n ∷ []) in let b = length-append seen ((head, row) ∷ []) in let c = h.size in omega arith

  pub numbers_known : n < count → count2 ≡ count → Numbers nodes2 ends2 count2 (seen ++ (head, row) ∷ []) (numbers ++ n ∷ []) least
  numbers_known low same = let c = h.counts in record { size = size_push; counts = omega arith; numbering = numbering_known numbers least n h.numbering (omega arith); reads = reads_push }

  pub numbers_next : n ≡ count → count2 ≡ count + 1 → Numbers nodes2 ends2 count2 (seen ++ (head, row) ∷ []) (numbers ++ n ∷ []) (least ++ length numbers ∷ [])
  numbers_next last same =
      let c = h.counts in
      let here : length least ≡ n = omega arith in
      record {
        size = size_push;
        counts = let l = length-append least (length numbers ∷ []) in omega arith;
        numbering = subst (λ (k : ℕ). IsNumbering (numbers ++ k ∷ []) (least ++ length numbers ∷ [])) here (numbering_next numbers least h.numbering);
        reads = reads_push;
      }

-- rows have one number just where they are equal
pub numbers_tell : (nodes ends : ℕ → Option ℕ) (total count : ℕ) (seen : List (ℕ × List ℕ)) (numbers least : List ℕ) → IsNumberTable nodes total → IsNumberTable ends count → Numbers nodes ends count seen numbers least → TellsApart seen numbers
numbers_tell nodes ends total count seen numbers least t u h = record { size = h.size; same = same; other = other }
  where
    same : (p q i : ℕ) → slice_get numbers p ≡ Some i → slice_get numbers q ≡ Some i → slice_get seen p ≡ slice_get seen q
    same p q i e f =
        let a = h.reads p i e in
        let b = h.reads q i f in
        let parts = packed_once a.end (length a.row) b.end (length b.row) a.short b.short (u.once (packed a.end (length a.row)) (packed b.end (length b.row)) i a.ends_with b.ends_with) in
        let rows = Spells_once nodes total t a.head b.head a.row b.row b.end a.small b.small parts.1 (subst (λ (k : ℕ). Spells nodes a.head a.row k) parts.0 a.spells) b.spells in
        a.there ∙ (ap₂ (λ x y. Some (x, y)) rows.0 rows.1 ∙ sym b.there)

    other : (p q i j : ℕ) → slice_get numbers p ≡ Some i → slice_get numbers q ≡ Some j → slice_get seen p ≡ slice_get seen q → i ≡ j
    other p q i j e f g =
        let a = h.reads p i e in
        let b = h.reads q j f in
        let pairs : (b.head, b.row) ≡ (a.head, a.row) = same_Some (b.head, b.row) (a.head, a.row) (sym b.there ∙ (sym g ∙ a.there)) in
        let head : b.head ≡ a.head = ap (λ (x : ℕ × List ℕ). x.0) pairs in
        let row : b.row ≡ a.row = ap (λ (x : ℕ × List ℕ). x.1) pairs in
        let end : a.end ≡ b.end = Spells_same nodes a.head a.row a.end b.end a.spells (subst (λ (r : List ℕ). Spells nodes a.head r b.end) row (subst (λ (k : ℕ). Spells nodes k b.row b.end) head b.spells)) in
        let key : packed a.end (length a.row) ≡ packed b.end (length b.row) = ap₂ (λ k r. packed k (length r)) end (sym row) in
        same_Some i j (sym a.ends_with ∙ (ap ends key ∙ b.ends_with))

-- the numbers of a list of 32 bits are small
pub small_row : (xs : List ℕ) → ((i : ℕ) → Fits w32 (get_or xs i 0)) → AreSmall xs
small_row [] fits = tt
small_row (x ∷ xs) fits = (let here = fits 0 in omega (arith, here), small_row xs (λ i. fits (suc i)))

-- one row more, as it is added
pub numbers_push : (nodes ends nodes2 ends2 : ℕ → Option ℕ) (count count2 : ℕ) (seen : List (ℕ × List ℕ)) (numbers least more : List ℕ) (head : ℕ) (row : List ℕ) (end n : ℕ) (first : Bool)
    → Numbers nodes ends count seen numbers least → KnowsMore nodes nodes2 → KnowsMore ends ends2
    → AreSmall row → length row < 4294967296 → Spells nodes2 head row end → ends2 (packed end (length row)) ≡ Some n
    → IsNext count n count2 → Decides first (n ≡ count) → Notes first (length numbers) least more → Numbers nodes2 ends2 count2 (seen ++ (head, row) ∷ []) (numbers ++ n ∷ []) more
numbers_push nodes ends nodes2 ends2 count count2 seen numbers least more head row end n true h m o small short spells told (inl next) is notes = absurd (let e = is.0 refl in let low = next.0 in omega arith)
numbers_push nodes ends nodes2 ends2 count count2 seen numbers least more head row end n true h m o small short spells told (inr next) is notes =
    subst (λ (l : List ℕ). Numbers nodes2 ends2 count2 (seen ++ (head, row) ∷ []) (numbers ++ n ∷ []) l) (sym notes)
    (numbers_next nodes ends nodes2 ends2 count count2 seen numbers least head row end n h m o small short spells told next.0 next.1)
numbers_push nodes ends nodes2 ends2 count count2 seen numbers least more head row end n false h m o small short spells told (inl next) is notes =
    subst (λ (l : List ℕ). Numbers nodes2 ends2 count2 (seen ++ (head, row) ∷ []) (numbers ++ n ∷ []) l) (sym notes)
    (numbers_known nodes ends nodes2 ends2 count count2 seen numbers least head row end n h m o small short spells told next.0 next.1)
numbers_push nodes ends nodes2 ends2 count count2 seen numbers least more head row end n false h m o small short spells told (inr next) is notes = absurd (true≢false (sym (is.1 next.0)))
