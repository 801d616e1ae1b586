-- Entries and the fronts for which they stand: in another order, and as strings are listed and subsets are made.
use Rattle.std.proofs.Common.{◌≡◌, ◌⊎◌, inl, inr, ℕ, ◌<◌, ◌≤◌, zero, suc, List, [], ◌∷◌, ◌++◌, length, map, take, get_or, set, refl, sym, ap, ap₂, subst, ◌∙◌, arith}
use Rattle.std.specs.Ordering.{nat_cmp, ordering_then}
use Rattle.std.specs.Cmp.Lexicographic.{slice_cmp}
use Rattle.std.specs.List.{All, AllZip, swap}
use Rattle.std.specs.List.Sorted.{IsPermutation}
use Rattle.std.proofs.lemmas.Bool.{cases_lt}
use Rattle.std.proofs.lemmas.List.{get_or_append_left, get_or_past, length-append, take-append-le}
use Rattle.std.proofs.lemmas.List.Elements.{All-head, All-tail, All-weaker}
use Rattle.std.proofs.lemmas.List.Sorted.{IsPermutation-keeps, IsPermutation-refl, IsPermutation-swap, IsPermutation-trans}
use Rattle.std.proofs.lemmas.Slice.Zip.{AllZip-long}
use Rattle.fst_semiring.specs.Cost.{Cost, cost_cmp}
use Rattle.fst_semiring.specs.declared.arc_type.ArcType.{ArcType}
use Rattle.fst_machine.specs.Graph.{Graph}
use Rattle.fst_machine.proofs.Arcs.{at_append_left}
use Rattle.fst_walk.proofs.Putting.{zip_append, zip_weaker}
use Rattle.fst_nbest.specs.Entries.{list_at}
use Rattle.fst_nbest.specs.Heap.{IsHeap}
use Rattle.fst_nbest.proofs.Searches.{heap_same}
use Rattle.fst_determinize.specs.Subsets.{IsSubset, Member}
use Rattle.fst_select.specs.declared.entry.Entry.{Entry}
use Rattle.fst_select.specs.Entries.{AreEntries, CanCompare, IsEntry, entry_cmp, front_of, prefix_of, tail_of}
use Rattle.fst_select.specs.Frontier.{Front}
use Rattle.fst_select.specs.Outlook.{IsDue}

module _ {A B : Type 0} (R : A → B → Type 0) where
  -- the elements beside the first ones, and beside the others
  zip_split : (xs more : List A) (zs : List B) → AllZip R (xs ++ more) zs → (ys : List B) × (others : List B) × (zs ≡ ys ++ others) × AllZip R xs ys × AllZip R more others
  zip_split [] more zs h = ([], zs, refl, tt, h)
  zip_split (x ∷ xs) more [] h = absurd h
  zip_split (x ∷ xs) more (z ∷ zs) h = let rest = zip_split xs more zs h.1 in (z ∷ rest.0, rest.1, ap (λ (l : List B). z ∷ l) rest.2, (h.0, rest.3), rest.4)

  zip_get : (xs : List A) (ys : List B) (i : ℕ) (d : A) (e : B) → AllZip R xs ys → i < length xs → R (get_or xs i d) (get_or ys i e)
  zip_get [] ys i d e h low = absurd (omega (arith, low))
  zip_get (x ∷ xs) [] i d e h low = absurd h
  zip_get (x ∷ xs) (y ∷ ys) zero d e h low = h.0
  zip_get (x ∷ xs) (y ∷ ys) (suc i) d e h low = zip_get xs ys i d e h.1 (omega (arith, low))

  zip_set : (xs : List A) (ys : List B) (i : ℕ) (x : A) (y : B) → AllZip R xs ys → R x y → AllZip R (set xs i x) (set ys i y)
  zip_set [] [] i x y h r = tt
  zip_set [] (b ∷ ys) i x y h r = absurd h
  zip_set (a ∷ xs) [] i x y h r = absurd h
  zip_set (a ∷ xs) (b ∷ ys) zero x y h r = (r, h.1)
  zip_set (a ∷ xs) (b ∷ ys) (suc i) x y h r = (h.0, zip_set xs ys i x y h.1 r)

  zip_swap : (xs : List A) (ys : List B) (i j : ℕ) → i < length xs → j < length xs → AllZip R xs ys → AllZip R (swap xs i j) (swap ys i j)
  zip_swap [] ys i j low_i low_j h = absurd (omega (arith, low_i))
  zip_swap (x ∷ xs) [] i j low_i low_j h = absurd h
  zip_swap (x ∷ xs) (y ∷ ys) i j low_i low_j h =
      zip_set (set (x ∷ xs) i (get_or (x ∷ xs) j x)) (set (y ∷ ys) i (get_or (y ∷ ys) j y)) j (get_or (x ∷ xs) i x) (get_or (y ∷ ys) i y)
      (zip_set (x ∷ xs) (y ∷ ys) i (get_or (x ∷ xs) j x) (get_or (y ∷ ys) j y) h (zip_get (x ∷ xs) (y ∷ ys) j x y h low_j)) (zip_get (x ∷ xs) (y ∷ ys) i x y h low_i)

  -- the first elements in another order stand beside the second in that order
  zip_permuted : (xs new : List A) (ys : List B) → IsPermutation xs new → AllZip R xs ys → (zs : List B) × IsPermutation ys zs × AllZip R new zs
  zip_permuted xs new ys same h = IsPermutation-keeps xs (λ (l : List A). (zs : List B) × IsPermutation ys zs × AllZip R l zs) (ys, IsPermutation-refl ys, h) step new same
    where
      step : (l : List A) (i j : ℕ) → i < length l → j < length l → (zs : List B) × IsPermutation ys zs × AllZip R l zs → (zs : List B) × IsPermutation ys zs × AllZip R (swap l i j) zs
      step l i j low_i low_j (zs, moved, zip) =
          let long : length zs ≡ length l = AllZip-long R l zs zip in (
            swap zs i j,
            IsPermutation-trans ys zs (swap zs i j) moved
                (IsPermutation-swap zs (swap zs i j) i j (omega (arith, long, low_i)) (omega (arith, long, low_j)) refl),
            zip_swap l zs i j low_i low_j zip,
          )

  -- what holds of each of the first elements holds beside the second
  pub zip_all : (P : A → Type 0) (S : A → B → Type 0) → ((x : A) (y : B) → P x → R x y → S x y) → (xs : List A) (ys : List B) → All P xs → AllZip R xs ys → AllZip S xs ys
  zip_all P S f [] [] all h = tt
  zip_all P S f [] (y ∷ ys) all h = absurd h
  zip_all P S f (x ∷ xs) [] all h = absurd h
  zip_all P S f (x ∷ xs) (y ∷ ys) all h = (f x y (All-head P x xs all) h.0, zip_all P S f xs ys (All-tail P x xs all) h.1)

-- Lists of words in which each word of the first has the same beginnings.
abbrev pub KeepsBeginnings : List (List ℕ) → List (List ℕ) → Type 0
KeepsBeginnings words more = (i n : ℕ) → n ≤ length (list_at words i) → (n ≤ length (list_at more i)) × (take n (list_at more i) ≡ take n (list_at words i))

-- a word is listed behind the others
pub keeps_listed : (words : List (List ℕ)) (word : List ℕ) → KeepsBeginnings words (words ++ word ∷ [])
keeps_listed words word i n low = by (cases_lt i (length words))
  where
    by : (i < length words) ⊎ (length words ≤ i) → (n ≤ length (list_at (words ++ word ∷ []) i)) × (take n (list_at (words ++ word ∷ []) i) ≡ take n (list_at words i))
    by (inl inside) = let same : list_at (words ++ word ∷ []) i ≡ list_at words i = get_or_append_left words (word ∷ []) [] i inside in
        (subst (λ (l : List ℕ). n ≤ length l) (sym same) low, ap (take n) same)
    by (inr past) =
        let none : list_at words i ≡ [] = get_or_past words i [] past in
        let zero : n ≡ 0 = omega (arith, low, ap length none) in
        (omega (arith, zero), ap (λ (m : ℕ). take m (list_at (words ++ word ∷ []) i)) zero ∙ sym (ap (λ (m : ℕ). take m (list_at words i)) zero))

-- the word in making goes on
pub keeps_on : (words : List (List ℕ)) (word more : List ℕ) → KeepsBeginnings (words ++ word ∷ []) (words ++ (word ++ more) ∷ [])
keeps_on [] word more zero n low = ((let long = length-append word more in omega (arith, long, low)), take-append-le n word more low)
keeps_on [] word more (suc i) n low = (low, refl)
keeps_on (w ∷ words) word more zero n low = (low, refl)
keeps_on (w ∷ words) word more (suc i) n low = keeps_on words word more i n low

module _ {D : Type 0} (words more : List (List ℕ)) (keeps : KeepsBeginnings words more) where
  -- an entry keeps its prefix
  prefix_kept : (e : Entry D) → CanCompare words e → prefix_of more e ≡ prefix_of words e
  prefix_kept e can = ap (λ (l : List ℕ). l ++ tail_of e.tail) (keeps e.owner e.depth can.depth).1

  pub compare_kept : (e : Entry D) → CanCompare words e → CanCompare more e
  compare_kept e can = record { depth = (keeps e.owner e.depth can.depth).0; few = can.few }

  pub compares_kept : (es : List (Entry D)) → All (CanCompare words) es → All (CanCompare more) es
  compares_kept es all = All-weaker (CanCompare words) (CanCompare more) compare_kept es all

  -- entries compare as before, so heaps of them stay heaps
  pub heap_kept : (value : D → Cost) (es : List (Entry D)) → All (CanCompare words) es → IsHeap (entry_cmp value words) es → IsHeap (entry_cmp value more) es
  heap_kept value es all heap = heap_same (entry_cmp value words) (entry_cmp value more) (CanCompare words) es
      (λ a b can_a can_b. ap₂ (λ (p q : List ℕ). ordering_then (cost_cmp (value a.total) (value b.total)) (ordering_then (nat_cmp a.long b.long) (slice_cmp nat_cmp p q)))
      (sym (prefix_kept a can_a)) (sym (prefix_kept b can_b)))
      all heap

module _ {D : Type 0} (kind : ArcType) (g : Graph ℕ) (value : D → Cost) (due : Cost) where
  entry_kept : (words more : List (List ℕ)) (subsets : List (List Member)) → KeepsBeginnings words more → (e : Entry D) (f : Front) → IsEntry kind g value due words subsets e f
      → IsEntry kind g value due more subsets e f
  entry_kept words more subsets keeps e f h =
      let same : prefix_of more e ≡ prefix_of words e = prefix_kept words more keeps e h.compare in
      record {
        prefix = h.prefix ∙ sym same;
        closed = h.closed;
        total = h.total;
        long = h.long;
        compare = compare_kept words more keeps e h.compare;
        short = h.short;
        subset = λ is_open. let s = h.subset is_open in (s.0, s.1, subst (λ (x : List ℕ). IsSubset kind g x (value e.by) s.0) (sym same) s.2);
      }

  entry_more : (words : List (List ℕ)) (subsets others : List (List Member)) (e : Entry D) (f : Front) → IsEntry kind g value due words subsets e f
      → IsEntry kind g value due words (subsets ++ others) e f
  entry_more words subsets others e f h = record {
    prefix = h.prefix;
    closed = h.closed;
    total = h.total;
    long = h.long;
    compare = h.compare;
    short = h.short;
    subset = λ is_open. let s = h.subset is_open in (s.0, at_append_left subsets others e.slot s.0 s.1, s.2);
  }

  entries_kept : (words more : List (List ℕ)) (subsets : List (List Member)) → KeepsBeginnings words more → (es : List (Entry D)) (fs : List Front)
      → AreEntries kind g value due words subsets es fs → AreEntries kind g value due more subsets es fs
  entries_kept words more subsets keeps es fs h = zip_weaker (IsEntry kind g value due words subsets) (IsEntry kind g value due more subsets) (entry_kept words more subsets keeps) es fs h

  -- a string is listed, the string in making goes on, and subsets are made
  pub entries_listed : (words : List (List ℕ)) (word : List ℕ) (subsets : List (List Member)) (es : List (Entry D)) (fs : List Front) → AreEntries kind g value due words subsets es fs
      → AreEntries kind g value due (words ++ word ∷ []) subsets es fs
  entries_listed words word subsets es fs h = entries_kept words (words ++ word ∷ []) subsets (keeps_listed words word) es fs h

  pub entries_on : (words : List (List ℕ)) (word more : List ℕ) (subsets : List (List Member)) (es : List (Entry D)) (fs : List Front)
      → AreEntries kind g value due (words ++ word ∷ []) subsets es fs → AreEntries kind g value due (words ++ (word ++ more) ∷ []) subsets es fs
  entries_on words word more subsets es fs h = entries_kept (words ++ word ∷ []) (words ++ (word ++ more) ∷ []) subsets (keeps_on words word more) es fs h

  pub entries_more : (words : List (List ℕ)) (subsets others : List (List Member)) (es : List (Entry D)) (fs : List Front) → AreEntries kind g value due words subsets es fs
      → AreEntries kind g value due words (subsets ++ others) es fs
  entries_more words subsets others es fs h = zip_weaker (IsEntry kind g value due words subsets) (IsEntry kind g value due words (subsets ++ others)) (entry_more words subsets others) es fs h

  module _ (words : List (List ℕ)) (subsets : List (List Member)) where
    -- entries behind others
    pub entries_append : (es more : List (Entry D)) (fs others : List Front) → AreEntries kind g value due words subsets es fs → AreEntries kind g value due words subsets more others
        → AreEntries kind g value due words subsets (es ++ more) (fs ++ others)
    entries_append es more fs others h k = zip_append (IsEntry kind g value due words subsets) es fs more others h k

    pub entries_split : (es more : List (Entry D)) (fs : List Front) → AreEntries kind g value due words subsets (es ++ more) fs
        → (firsts : List Front) × (others : List Front) × (fs ≡ firsts ++ others) × AreEntries kind g value due words subsets es firsts × AreEntries kind g value due words subsets more others
    entries_split es more fs h = zip_split (IsEntry kind g value due words subsets) es more fs h

    -- entries in another order stand for the fronts in another order
    pub entries_permuted : (es new : List (Entry D)) (fs : List Front) → IsPermutation es new → AreEntries kind g value due words subsets es fs
        → (gs : List Front) × IsPermutation fs gs × AreEntries kind g value due words subsets new gs
    entries_permuted es new fs same h = zip_permuted (IsEntry kind g value due words subsets) es new fs same h

    -- an entry whose weight is due tells its front
    pub entry_front : (e : Entry D) (f : Front) → IsDue kind due (value e.total) → IsEntry kind g value due words subsets e f → f ≡ front_of value words e
    entry_front e f is h = λ i. record { prefix = h.prefix i; closed = h.closed i; total = h.total i; long = h.long is i }

    pub entries_due : (es : List (Entry D)) (fs : List Front) → All (λ e. IsDue kind due (value e.total)) es → AreEntries kind g value due words subsets es fs → fs ≡ map (front_of value words) es
    entries_due [] [] all h = refl
    entries_due [] (f ∷ fs) all h = absurd h
    entries_due (e ∷ es) [] all h = absurd h
    entries_due (e ∷ es) (f ∷ fs) all h =
        ap₂ (λ (x : Front) (l : List Front). x ∷ l) (entry_front e f (All-head (λ (x : Entry D). IsDue kind due (value x.total)) e es all) h.0)
        (entries_due es fs (All-tail (λ (x : Entry D). IsDue kind due (value x.total)) e es all) h.1)
