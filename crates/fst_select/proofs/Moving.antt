-- Entries that are moved as their weight becomes due, and how a heap tells the best weight.
use Rattle.std.proofs.Common.{◌≡◌, ◌≢◌, ◌⊎◌, inl, inr, ℕ, ◌<◌, List, [], ◌∷◌, ◌++◌, Option, None, Some, false, true≢false, length, get_or, refl, sym, ap, subst, ◌∙◌, arith}
use Rattle.std.proofs.Common.{Ordering, Less, Equal, Greater}
use Rattle.std.specs.Prelude.{MatchOption}
use Rattle.std.specs.Ordering.{is_gt}
use Rattle.std.specs.List.{All}
use Rattle.std.specs.List.Sorted.{IsPermutation}
use Rattle.std.proofs.lemmas.List.Elements.{All-head, All-weaker}
use Rattle.std.proofs.lemmas.List.Sorted.{All-permutation, IsPermutation-append_left, IsPermutation-append_right, IsPermutation-middle, IsPermutation-refl, IsPermutation-trans}
use Rattle.fst_semiring.specs.Cost.{Cost, cost_cmp, infinite, plus, ranked}
use Rattle.fst_semiring.specs.declared.arc_type.ArcType.{ArcType}
use Rattle.fst_semiring.proofs.Order.{cost_cmp_equal, plus_antisym}
use Rattle.fst_machine.specs.BreadthFirst.{Has}
use Rattle.fst_machine.specs.Graph.{Graph}
use Rattle.fst_machine.proofs.Elements.{Has-append_right}
use Rattle.fst_search.proofs.Order.{better_then}
use Rattle.fst_trim.specs.Weighed.{IsWeighted}
use Rattle.fst_determinize.specs.Subsets.{Member}
use Rattle.fst_nbest.specs.Heap.{FirstLeaves, IsHeap, TakesFirst}
use Rattle.fst_nbest.proofs.Covering.{Has-permutation}
use Rattle.fst_nbest.proofs.Heaps.{left_first}
use Rattle.fst_nbest.proofs.Ranks.{cost_itself}
use Rattle.fst_select.specs.declared.entry.Entry.{Entry}
use Rattle.fst_select.specs.Entries.{AreEntries, CanCompare, IsEntry, total_cmp, total_total}
use Rattle.fst_select.specs.Frontier.{Front, IsKey}
use Rattle.fst_select.specs.Outlook.{IsDue}
use Rattle.fst_select.specs.Strings.{IsSpelled}
use Rattle.fst_select.specs.Tables.{AreKeyed, StandFor}
use Rattle.fst_select.proofs.EntryLists.{entries_permuted, zip_all}
use Rattle.fst_select.proofs.SubsetKeys.{word_solid}

-- a weight that does not come after another is no worse
not_after_plus : (a b : Cost) → is_gt (cost_cmp a b) ≡ false → plus a b ≡ a
not_after_plus a b h = by (cost_cmp a b) h
  where
    by : (o : Ordering) → is_gt o ≡ false → ranked o a b ≡ a
    by Less h = refl
    by Equal h = refl
    by Greater h = absurd (true≢false h)

not_after_less : (a b : Cost) → is_gt (cost_cmp a b) ≡ false → (cost_cmp a b ≡ Equal → ⊥) → cost_cmp a b ≡ Less
not_after_less a b h other = by (cost_cmp a b) refl
  where
    by : (o : Ordering) → cost_cmp a b ≡ o → cost_cmp a b ≡ Less
    by Less e = e
    by Equal e = absurd (other e)
    by Greater e = absurd (true≢false (sym (ap is_gt e) ∙ h))

-- no elements are a heap
pub no_heap : {X : Type 0} (R : X → X → Ordering) → IsHeap R []
no_heap R d p c below low = absurd (omega (arith, low))

-- an entry can be compared whatever its length
pub known_compare : {D : Type 0} (words : List (List ℕ)) (e : Entry D) (n : ℕ) → CanCompare words e → CanCompare words (record e { long = n })
known_compare words e n can = record { depth = can.depth; few = can.few }

module _ {D : Type 0} (value : D → Cost) (items : List (Entry D)) (heap : IsHeap (total_cmp value) items) (some : 0 < length items) where
  -- the first of a heap has the best weight
  pub best_first : (first : Entry D) → first ≡ get_or items 0 first → All (λ e. is_gt (cost_cmp (value first.total) (value e.total)) ≡ false) items
  best_first first is = left_first (total_cmp value) (total_total value) items first some is heap

  -- where the first has another weight than a best one, all have worse ones
  pub all_worse : (total : Cost) (first : Entry D) → first ≡ get_or items 0 first → All (λ e. is_gt (cost_cmp total (value e.total)) ≡ false) items → (cost_cmp total (value first.total) ≡ Equal → ⊥)
      → All (λ e. cost_cmp total (value e.total) ≡ Less) items
  all_worse total first is least other =
      let top : is_gt (cost_cmp total (value first.total)) ≡ false = subst (λ (e : Entry D). is_gt (cost_cmp total (value e.total)) ≡ false) (sym is) (least 0 first some) in
      let less = not_after_less total (value first.total) top other in
      All-weaker (λ (e : Entry D). is_gt (cost_cmp (value first.total) (value e.total)) ≡ false) (λ (e : Entry D). cost_cmp total (value e.total) ≡ Less)
      (λ e h. better_then total (value first.total) (value e.total) less (not_after_plus (value first.total) (value e.total) h)) items (best_first first is)

  -- where the first has the best weight, so has an entry that leaves
  best_leaves : (total : Cost) (first e : Entry D) (rest : List (Entry D)) → first ≡ get_or items 0 first → All (λ e. is_gt (cost_cmp total (value e.total)) ≡ false) items
      → cost_cmp total (value first.total) ≡ Equal
      → FirstLeaves (total_cmp value) items e rest → value e.total ≡ total
  best_leaves total first e rest is least same leaves =
      let low : is_gt (cost_cmp total (value e.total)) ≡ false
      = All-head (λ (x : Entry D). is_gt (cost_cmp total (value x.total)) ≡ false) e rest
      (All-permutation (λ (x : Entry D). is_gt (cost_cmp total (value x.total)) ≡ false) items (e ∷ rest) leaves.same least) in
      let top : is_gt (cost_cmp (value e.total) (value first.total)) ≡ false = subst (λ (x : Entry D). is_gt (cost_cmp (value e.total) (value x.total)) ≡ false) (sym is) (leaves.first 0 first some) in
      let tie : total ≡ value first.total = cost_cmp_equal total (value first.total) same in
      plus_antisym (value e.total) total (subst (λ (c : Cost). plus (value e.total) c ≡ value e.total) (sym tie) (not_after_plus (value e.total) (value first.total) top))
      (not_after_plus total (value e.total) low)

  -- what a take gives where the first has the best weight
  pub class_taken : (total : Cost) (first : Entry D) (o : Option (Entry D)) (rest : List (Entry D)) → first ≡ get_or items 0 first → All (λ e. is_gt (cost_cmp total (value e.total)) ≡ false) items
      → cost_cmp total (value first.total) ≡ Equal
      → TakesFirst (total_cmp value) items o rest
      → IsHeap (total_cmp value) rest × MatchOption o ((rest ≡ items) × All (λ e. cost_cmp total (value e.total) ≡ Less) items) (λ e. IsPermutation items (e ∷ rest) × (value e.total ≡ total))
  class_taken total first None rest is least same none = absurd (omega (arith, some, ap length none))
  class_taken total first (Some e) rest is least same leaves = (leaves.heap, (leaves.same, best_leaves total first e rest is least same leaves))

  -- not all have worse weights than the first
  pub not_all_worse : (first : Entry D) → first ≡ get_or items 0 first → All (λ e. cost_cmp (value first.total) (value e.total) ≡ Less) items → ⊥
  not_all_worse first is worse = cost_itself (value first.total) (subst (λ (e : Entry D). cost_cmp (value first.total) (value e.total) ≡ Less) (sym is) (worse 0 first some))

module _ {D : Type 0} (kind : ArcType) (g : Graph ℕ) (value : D → Cost) (old due : Cost) (words : List (List ℕ)) (subsets : List (List Member)) where
  -- Some entries are moved: they are known to stand for some of these fronts now that their weight is due, and the others
  -- for the rest as before.
  pub record IsMoving (moved waiting : List (Entry D)) (fs : List Front) : Type 0 where
    pub firsts : List Front
    pub others : List Front
    pub same : IsPermutation fs (firsts ++ others)
    pub ready : AreEntries kind g value due words subsets moved firsts
    pub later : AreEntries kind g value old words subsets waiting others

  pub moving_start : (later : List (Entry D)) (fs : List Front) → AreEntries kind g value old words subsets later fs → IsMoving [] later fs
  moving_start later fs h = record { firsts = []; others = fs; same = IsPermutation-refl fs; ready = tt; later = h }

  entry_known : (e : Entry D) (f : Front) (n : ℕ) → IsEntry kind g value old words subsets e f → f.long ≡ n → IsEntry kind g value due words subsets (record e { long = n }) f
  entry_known e f n h long = record { prefix = h.prefix; closed = h.closed; total = h.total; long = λ is. long; compare = known_compare words e n h.compare; short = h.short; subset = h.subset }

  -- the front of an entry that is moved next
  pub moving_front : (ready later rest : List (Entry D)) (fs : List Front) (e : Entry D) → IsPermutation later (e ∷ rest) → IsMoving ready later fs
      → ((f : Front) → Has fs f → IsKey (IsSpelled kind g) f)
      → (f : Front) × IsEntry kind g value old words subsets e f × IsKey (IsSpelled kind g) f
  moving_front ready later rest fs e taken m keys = by (entries_permuted kind g value old words subsets later (e ∷ rest) m.others taken m.later)
    where
      by : (gs : List Front) × IsPermutation m.others gs × AreEntries kind g value old words subsets (e ∷ rest) gs
          → (f : Front) × IsEntry kind g value old words subsets e f × IsKey (IsSpelled kind g) f
      by ([], moved, h) = absurd h
      by (f ∷ gs, moved, h) = (f, h.0, keys f (Has-permutation fs (m.firsts ++ m.others) f m.same (Has-append_right m.firsts m.others f (Has-permutation m.others (f ∷ gs) f moved (inl refl)))))

  -- one entry more is moved
  pub moving_on : (ready later rest new : List (Entry D)) (fs : List Front) (e : Entry D) (n : ℕ) → IsPermutation later (e ∷ rest) → IsPermutation (record e { long = n } ∷ ready) new
      → ((f : Front) → Has fs f → IsEntry kind g value old words subsets e f → f.long ≡ n) → IsMoving ready later fs → IsMoving new rest fs
  moving_on ready later rest new fs e n taken put long m = by (entries_permuted kind g value old words subsets later (e ∷ rest) m.others taken m.later)
    where
      by : (gs : List Front) × IsPermutation m.others gs × AreEntries kind g value old words subsets (e ∷ rest) gs → IsMoving new rest fs
      by ([], moved, h) = absurd h
      by (f ∷ gs, moved, h) =
          let there : Has fs f = Has-permutation fs (m.firsts ++ m.others) f m.same (Has-append_right m.firsts m.others f (Has-permutation m.others (f ∷ gs) f moved (inl refl))) in
          let both = entries_permuted kind g value due words subsets (record e { long = n } ∷ ready) new (f ∷ m.firsts) put (entry_known e f n h.0 (long f there h.0), m.ready) in
          record {
            firsts = both.0;
            others = gs;
            same = IsPermutation-trans fs (m.firsts ++ m.others) (both.0 ++ gs) m.same
                (IsPermutation-trans (m.firsts ++ m.others) (m.firsts ++ (f ∷ gs)) (both.0 ++ gs) (IsPermutation-append_right m.firsts m.others (f ∷ gs) moved)
                (IsPermutation-trans (m.firsts ++ (f ∷ gs)) (f ∷ (m.firsts ++ gs)) (both.0 ++ gs) (IsPermutation-middle m.firsts f gs) (IsPermutation-append_left gs (f ∷ m.firsts) both.0 both.1)));
            ready = both.2;
            later = h.1;
          }

  -- all with this weight are moved
  pub moving_end : (ready later : List (Entry D)) (fs : List Front) → All (λ e. cost_cmp due (value e.total) ≡ Less) later → IsMoving ready later fs
      → StandFor kind g value due words subsets ready later fs
  moving_end ready later fs worse m = record {
    firsts = m.firsts;
    others = m.others;
    same = m.same;
    ready = m.ready;
    later = zip_all (IsEntry kind g value old words subsets) (λ (e : Entry D). cost_cmp due (value e.total) ≡ Less) (IsEntry kind g value due words subsets) waits later m.others worse m.later;
  }
    where
      waits : (e : Entry D) (f : Front) → cost_cmp due (value e.total) ≡ Less → IsEntry kind g value old words subsets e f → IsEntry kind g value due words subsets e f
      waits e f less h = record { prefix = h.prefix; closed = h.closed; total = h.total; long = by; compare = h.compare; short = h.short; subset = h.subset }
        where
          by : IsDue kind due (value e.total) → f.long ≡ e.long
          by (inl cancel) = h.long (inl cancel)
          by (inr same) = absurd (cost_itself due (ap (cost_cmp due) (sym same) ∙ less))

-- some entries are ready where one was moved, and where not all that wait at first have worse weights
pub some_ready : {D : Type 0} (value : D → Cost) (total : Cost) (ready later start : List (Entry D)) → (All (λ e. cost_cmp total (value e.total) ≡ Less) start → ⊥)
    → All (λ e. cost_cmp total (value e.total) ≡ Less) later → (0 < length ready) ⊎ (later ≡ start)
    → 0 < length ready
some_ready value total ready later start some worse (inl there) = there
some_ready {D} value total ready later start some worse (inr same) = absurd (some (subst (λ (l : List (Entry D)). All (λ e. cost_cmp total (value e.total) ≡ Less) l) same worse))

-- the weight of a front that tells its best string is not Zero
pub first_solid : {D : Type 0} (kind : ArcType) (g : Graph ℕ) (value : D → Cost) (due : Cost) (words : List (List ℕ)) (subsets : List (List Member)) → IsWeighted kind g
    → (es : List (Entry D)) (fs : List Front) (first : Entry D) → 0 < length es
    → first ≡ get_or es 0 first → AreKeyed kind g value due words subsets es fs → value first.total ≢ infinite
first_solid {D} kind g value due words subsets weighted es fs first some is h none = by es fs some is h.entries h.keys
  where
    by : (es : List (Entry D)) (fs : List Front) → 0 < length es → first ≡ get_or es 0 first → AreEntries kind g value due words subsets es fs
        → ((f : Front) → Has fs f → IsKey (IsSpelled kind g) f) → ⊥
    by [] fs low at zip keys = omega (arith, low)
    by (e ∷ es) [] low at zip keys = absurd zip
    by (e ∷ es) (f ∷ fs) low at zip keys =
        let key = keys f (inl refl) in
        word_solid kind g weighted key.word f.total key.weighs.0 (zip.0.total ∙ (ap (λ (x : Entry D). value x.total) (sym at) ∙ none))
