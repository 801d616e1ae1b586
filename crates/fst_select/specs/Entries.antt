-- What the entries of a listing's table stand for, and how they compare. An entry begins with so many labels of a listed
-- string, and has at most one label behind these.
use Rattle.std.specs.Prelude.{◌≡◌, ℕ, ◌≤◌, zero, suc, true, false, List, [], ◌∷◌, ◌++◌, Some, length, map, take, slice_get}
use Rattle.std.specs.declared.cmp.Ordering.{Ordering}
use Rattle.std.specs.Ordering.{nat_cmp, ordering_then}
use Rattle.std.specs.List.{AllZip}
use Rattle.std.specs.Cmp.Lexicographic.{slice_cmp}
use Rattle.std.specs.Cmp.{IsTotalOrder}
use Rattle.std.proofs.lemmas.Cmp.{then_total, on_total, nat_cmp_total, nat_list_cmp_total}
use Rattle.fst_semiring.specs.Cost.{Cost, cost_cmp, cost_total}
use Rattle.fst_semiring.specs.declared.arc_type.ArcType.{ArcType}
use Rattle.fst_machine.specs.Graph.{Graph}
use Rattle.fst_nbest.specs.Entries.{list_at, most_long}
use Rattle.fst_determinize.specs.Subsets.{IsSubset, Member}
use Rattle.fst_select.specs.declared.entry.Entry.{Entry}
use Rattle.fst_select.specs.declared.strings.StringWeight.{StringWeight}
use Rattle.fst_select.specs.Frontier.{Front}
use Rattle.fst_select.specs.Outlook.{IsDue}

-- the words of listed strings
abbrev pub words_of : {V X : Type 0} → List (StringWeight V X) → List (List ℕ)
words_of strings = map (λ s. s.word) strings

-- a label, of which 0 is none
abbrev pub tail_of : ℕ → List ℕ
tail_of zero = []
tail_of (suc label) = suc label ∷ []

-- the prefix of an entry
abbrev pub prefix_of : {D : Type 0} → List (List ℕ) → Entry D → List ℕ
prefix_of words e = take e.depth (list_at words e.owner) ++ tail_of e.tail

-- the front for which an entry stands whose weight is due
abbrev pub front_of : {D : Type 0} → (D → Cost) → List (List ℕ) → Entry D → Front
front_of value words e = record { prefix = prefix_of words e; closed = e.closed; total = value e.total; long = e.long }

-- An entry can be compared: it begins with so much of its string, and not with too much.
pub record CanCompare {D : Type 0} (words : List (List ℕ)) (e : Entry D) : Type 0 where
  pub depth : e.depth ≤ length (list_at words e.owner)
  pub few : e.depth ≤ most_long

-- entries by weight, by the length of their best strings, by prefixes
abbrev pub entry_cmp : {D : Type 0} → (D → Cost) → List (List ℕ) → Entry D → Entry D → Ordering
entry_cmp value words a b = ordering_then (cost_cmp (value a.total) (value b.total)) (ordering_then (nat_cmp a.long b.long) (slice_cmp nat_cmp (prefix_of words a) (prefix_of words b)))

-- entries with one owner and one depth
abbrev pub sibling_cmp : {D : Type 0} → (D → Cost) → Entry D → Entry D → Ordering
sibling_cmp value a b = ordering_then (cost_cmp (value a.total) (value b.total)) (ordering_then (nat_cmp a.long b.long) (nat_cmp a.tail b.tail))

-- entries by weight alone
abbrev pub total_cmp : {D : Type 0} → (D → Cost) → Entry D → Entry D → Ordering
total_cmp value a b = cost_cmp (value a.total) (value b.total)

-- these orders are total
pub entry_total : {D : Type 0} (value : D → Cost) (words : List (List ℕ)) → IsTotalOrder {K = Entry D} (entry_cmp value words)
entry_total {D} value words = then_total (on_total (λ (e : Entry D). value e.total) cost_total)
    (then_total (on_total (λ (e : Entry D). e.long) nat_cmp_total) (on_total (λ (e : Entry D). prefix_of words e) nat_list_cmp_total))

pub sibling_total : {D : Type 0} (value : D → Cost) → IsTotalOrder {K = Entry D} (sibling_cmp value)
sibling_total {D} value = then_total (on_total (λ (e : Entry D). value e.total) cost_total)
    (then_total (on_total (λ (e : Entry D). e.long) nat_cmp_total) (on_total (λ (e : Entry D). e.tail) nat_cmp_total))

pub total_total : {D : Type 0} (value : D → Cost) → IsTotalOrder {K = Entry D} (total_cmp value)
total_total {D} value = on_total (λ (e : Entry D). value e.total) cost_total

module _ {D : Type 0} (kind : ArcType) (g : Graph ℕ) (value : D → Cost) (due : Cost) (words : List (List ℕ)) (subsets : List (List Member)) where
  -- An entry stands for this front. Its length is known where its weight is due, and where strings go on it has the number
  -- of the subset of its prefix.
  pub record IsEntry (e : Entry D) (f : Front) : Type 0 where
    pub prefix : f.prefix ≡ prefix_of words e
    pub closed : f.closed ≡ e.closed
    pub total : f.total ≡ value e.total
    pub long : IsDue kind due (value e.total) → f.long ≡ e.long
    pub compare : CanCompare words e
    pub short : e.closed ≡ true → e.tail ≡ 0
    pub subset : e.closed ≡ false → (s : List Member) × (slice_get subsets e.slot ≡ Some s) × IsSubset kind g (prefix_of words e) (value e.by) s

  -- entries stand for these fronts, one by one
  abbrev pub AreEntries : List (Entry D) → List Front → Type 0
  AreEntries es fs = AllZip IsEntry es fs
