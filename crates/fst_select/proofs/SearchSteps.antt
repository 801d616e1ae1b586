-- A listing on its way: an entry is taken, its string is listed, and what it leaves is put into the table.
use Rattle.std.proofs.Common.{◌≡◌, ◌⊎◌, inl, inr, ℕ, ◌<◌, ◌≤◌, Bool, true, false, List, [], ◌∷◌, ◌++◌, length, map, slice_get, take, refl, sym, ap, ap₂, subst, ◌∙◌, append_assoc, arith}
use Rattle.std.proofs.Common.{Less, Equal, Greater, Ordering, Option, None, Some, Ok, Err}
use Rattle.std.specs.Ordering.{is_gt, ordering_then}
use Rattle.std.specs.List.{All}
use Rattle.std.specs.Option.{option_map}
use Rattle.std.specs.Prelude.{IfSome, OnOk, Result}
use Rattle.std.specs.List.Sorted.{IsPermutation}
use Rattle.std.proofs.lemmas.List.{map-append}
use Rattle.std.proofs.lemmas.List.Elements.{All-append, All-cons, All-head, All-nil, All-tail, All-weaker}
use Rattle.std.proofs.lemmas.List.Sorted.{All-permutation, IsPermutation-append, IsPermutation-append_comm, IsPermutation-append_left, IsPermutation-append_right, IsPermutation-map, IsPermutation-sym, IsPermutation-trans}
use Rattle.fst_semiring.specs.Cost.{Cost, cost_cmp}
use Rattle.fst_semiring.specs.declared.arc_type.ArcType.{ArcType}
use Rattle.fst_semiring.specs.Semiring.{cancels, one_of}
use Rattle.fst_semiring.proofs.Order.{cost_cmp_equal}
use Rattle.fst_machine.specs.BreadthFirst.{Has}
use Rattle.fst_machine.specs.Graph.{Graph, graph_of}
use Rattle.fst_machine.specs.Machine.{Machine, valued}
use Rattle.fst_machine.proofs.Elements.{Has-append_cases, Has-append_left, Has-append_right}
use Rattle.fst_queue.specs.HeapOrder.{NotAfter}
use Rattle.fst_determinize.specs.Subsets.{IsSubset, Member}
use Rattle.fst_determinize.specs.Ways.{start_members}
use Rattle.fst_determinize.proofs.Following.{start_subset, starts_there}
use Rattle.fst_determinize.proofs.Runs.{Has_All}
use Rattle.fst_nbest.specs.Heap.{FirstLeaves, IsHeap, TakesFirst}
use Rattle.fst_nbest.specs.Words.{WeightedWord, word_cmp}
use Rattle.fst_nbest.proofs.Covering.{Has-permutation}
use Rattle.fst_nbest.proofs.Searches.{All-has, Has-map}
use Rattle.fst_select.specs.declared.entry.Entry.{Entry}
use Rattle.fst_select.specs.declared.strings.StringWeight.{StringWeight}
use Rattle.fst_select.specs.Entries.{AreEntries, CanCompare, IsEntry, entry_cmp, front_of, prefix_of, tail_of, total_cmp, words_of}
use Rattle.fst_nbest.specs.Entries.{list_at}
use Rattle.fst_select.specs.Frontier.{ComesFirst, Front, IsFrontier, IsKey, front_cmp}
use Rattle.fst_select.specs.Outlook.{IsDue}
use Rattle.fst_select.specs.Searching.{IsSearch, Waits, Walked}
use Rattle.fst_select.specs.Strings.{AreFirstStrings, IsPlain, IsSpelled, weighted}
use Rattle.fst_select.specs.Tables.{ArePut, AreKeyed, IsClassBegun, StandFor}
use Rattle.fst_select.proofs.EntryLists.{entries_append, entries_due, entries_listed, entries_more, entries_permuted, entries_split}
use Rattle.fst_select.proofs.Moving.{no_heap}
use Rattle.fst_select.proofs.Reorders.{frontier_permuted}
use Rattle.fst_select.proofs.SearchFronts.{begins_nothing, begins_whole, first_strings}
use Rattle.fst_select.proofs.Stricts.{strictly_before}

-- an ordering that is settled by its first part
first_less : (o p : Ordering) → o ≡ Less → ordering_then o p ≡ Less
first_less o p h = ap (λ (x : Ordering). ordering_then x p) h

-- and one whose first part does not come after
first_not_after : (o p : Ordering) → ordering_then o p ≡ Less → is_gt o ≡ false
first_not_after Less p h = refl
first_not_after Equal p h = refl
first_not_after Greater p h = absurd (cc)

module _ {D : Type 0} (kind : ArcType) (g : Graph ℕ) (value : D → Cost) (due : Cost) where
  -- a front of entries is that of one of them
  pub front_behind : (words : List (List ℕ)) (subsets : List (List Member)) (es : List (Entry D)) (fs : List Front) (f : Front) → AreEntries kind g value due words subsets es fs → Has fs f
      → (e : Entry D) × Has es e × IsEntry kind g value due words subsets e f
  front_behind words subsets [] [] f h none = absurd none
  front_behind words subsets [] (x ∷ fs) f h there = absurd h
  front_behind words subsets (e ∷ es) [] f h none = absurd none
  front_behind words subsets (e ∷ es) (x ∷ fs) f h (inl same) = (e, inl refl, subst (IsEntry kind g value due words subsets e) same h.0)
  front_behind words subsets (e ∷ es) (x ∷ fs) f h (inr there) = let r = front_behind words subsets es fs f h.1 there in (r.0, inr r.1, r.2)

  pub entry_front : (words : List (List ℕ)) (subsets : List (List Member)) (es : List (Entry D)) (fs : List Front) (e : Entry D) → AreEntries kind g value due words subsets es fs → Has es e
      → (f : Front) × Has fs f × IsEntry kind g value due words subsets e f
  entry_front words subsets [] fs e h none = absurd none
  entry_front words subsets (x ∷ es) [] e h there = absurd h
  entry_front words subsets (x ∷ es) (f ∷ fs) e h (inl same) = (f, inl refl, subst (λ (y : Entry D). IsEntry kind g value due words subsets y f) same h.0)
  entry_front words subsets (x ∷ es) (f ∷ fs) e h (inr there) = let r = entry_front words subsets es fs e h.1 there in (r.0, inr r.1, r.2)

  -- entries with their own fronts
  pub own_entries : (words : List (List ℕ)) (subsets : List (List Member)) (es : List (Entry D)) → All (λ e. IsEntry kind g value due words subsets e (front_of value words e)) es
      → AreEntries kind g value due words subsets es (map (front_of value words) es)
  own_entries words subsets [] all = tt
  own_entries words subsets (e ∷ es) all =
      let own = λ (e : Entry D). IsEntry kind g value due words subsets e (front_of value words e) in
      (All-head own e es all, own_entries words subsets es (All-tail own e es all))

  pub entries_own : (words : List (List ℕ)) (subsets : List (List Member)) (es : List (Entry D)) (fs : List Front) → AreEntries kind g value due words subsets es fs → fs ≡ map (front_of value words) es
      → All (λ e. IsEntry kind g value due words subsets e (front_of value words e)) es
  entries_own words subsets [] fs h same = All-nil (λ e. IsEntry kind g value due words subsets e (front_of value words e))
  entries_own words subsets (e ∷ es) fs h same =
      let own = λ (e : Entry D). IsEntry kind g value due words subsets e (front_of value words e) in
      let all : AreEntries kind g value due words subsets (e ∷ es) (map (front_of value words) (e ∷ es)) = subst (AreEntries kind g value due words subsets (e ∷ es)) same h in
      All-cons own e es all.0 (entries_own words subsets es (map (front_of value words) es) all.1 refl)

  -- entries that have fronts can be compared
  pub entries_compare : (words : List (List ℕ)) (subsets : List (List Member)) (es : List (Entry D)) (fs : List Front) → AreEntries kind g value due words subsets es fs → All (CanCompare words) es
  entries_compare words subsets [] fs h = All-nil (CanCompare words)
  entries_compare words subsets (e ∷ es) [] h = absurd h
  entries_compare words subsets (e ∷ es) (f ∷ fs) h = All-cons (CanCompare words) e es h.0.compare (entries_compare words subsets es fs h.1)

  -- what waits comes behind what is due
  waits_behind : (total other : Cost) → IsDue kind due total → Waits kind due other → cost_cmp total other ≡ Less
  waits_behind total other (inl cancel) w = absurd (w.uncancelling cancel)
  waits_behind total other (inr same) w = subst (λ (t : Cost). cost_cmp t other ≡ Less) (sym same) w.worse

  abbrev Own : List (List ℕ) → List (List Member) → Entry D → Type 0
  Own words subsets e = IsEntry kind g value due words subsets e (front_of value words e)

  abbrev Due : Entry D → Type 0
  Due e = IsDue kind due (value e.total)

  -- an entry leaves the first part of the table
  module _ (listed : List WeightedWord) (words : List (List ℕ)) (subsets : List (List Member)) (ready later rest : List (Entry D)) (e : Entry D) (s : IsSearch kind g value due listed words subsets ready later)
      (t : FirstLeaves (entry_cmp value words) ready e rest) where
    all_own : All (Own words subsets) (e ∷ rest)
    all_own = All-permutation (Own words subsets) ready (e ∷ rest) t.same s.entries

    all_due : All Due (e ∷ rest)
    all_due = All-permutation Due ready (e ∷ rest) t.same s.ready_due

    pub taken_entry : Own words subsets e
    taken_entry = All-head (Own words subsets) e rest all_own

    pub taken_due : Due e
    taken_due = All-head Due e rest all_due

    pub rest_entries : All (Own words subsets) rest
    rest_entries = All-tail (Own words subsets) e rest all_own

    pub rest_due : All Due rest
    rest_due = All-tail Due e rest all_due

    pub rest_compare : All (CanCompare words) rest
    rest_compare = All-weaker (Own words subsets) (CanCompare words) (λ x own. own.compare) rest rest_entries

    abbrev pub behind : List Front
    behind = map (front_of value words) rest ++ s.fronts

    fronts_same : IsPermutation (map (front_of value words) ready ++ s.fronts) (front_of value words e ∷ behind)
    fronts_same = IsPermutation-append_left s.fronts (map (front_of value words) ready) (map (front_of value words) (e ∷ rest)) (IsPermutation-map (front_of value words) ready (e ∷ rest) t.same)

    pub taken_frontier : IsFrontier (IsSpelled kind g) listed (front_of value words e ∷ behind)
    taken_frontier = frontier_permuted (IsSpelled kind g) listed (map (front_of value words) ready ++ s.fronts) (front_of value words e ∷ behind) fronts_same s.frontier

    pub taken_key : IsKey (IsSpelled kind g) (front_of value words e)
    taken_key = taken_frontier.keys (front_of value words e) (inl refl)

    -- what is taken comes before all others
    pub taken_leads : ComesFirst (front_of value words e) behind
    taken_leads f there = by_part (Has-append_cases (map (front_of value words) rest) s.fronts f there)
      where
        by_part : Has (map (front_of value words) rest) f ⊎ Has s.fronts f → front_cmp (front_of value words e) f ≡ Less
        by_part (inl ready_one) =
            let from = Has-map (front_of value words) rest f ready_one in
            let before : NotAfter (entry_cmp value words) e from.0 = All-has (NotAfter (entry_cmp value words) e) ready from.0 t.first (Has-permutation ready (e ∷ rest) from.0 t.same (inr from.1)) in
            strictly_before (front_of value words e) f (taken_frontier.apart.0 f there) (subst (λ (h : Front). is_gt (front_cmp (front_of value words e) h) ≡ false) from.2 before)
        by_part (inr late) =
            let from = front_behind words subsets later s.fronts f s.waiting late in
            let waits : Waits kind due (value from.0.total) = All-has (λ (x : Entry D). Waits kind due (value x.total)) later from.0 s.worse from.1 in
            first_less (cost_cmp (value e.total) f.total) _ (subst (λ (c : Cost). cost_cmp (value e.total) c ≡ Less) (sym from.2.total) (waits_behind (value e.total) (value from.0.total) taken_due waits))

    -- its best string is listed, and the entries that it leaves are put into the table
    module _ (new : List (List Member)) (left ready_now later_now : List (Entry D)) (found : WeightedWord) (w : Walked kind g value due words subsets new e left found)
        (put : ArePut (λ x. IsDue kind due (value x.total)) left rest later ready_now later_now) where
      abbrev more : List (List ℕ)
      more = words ++ found.word ∷ []

      abbrev Entries : List (Entry D) → List Front → Type 0
      Entries es fs = AreEntries kind g value due more new es fs

      grown : (es : List (Entry D)) (fs : List Front) → AreEntries kind g value due words subsets es fs → Entries es fs
      grown es fs h = subst (λ (ss : List (List Member)). AreEntries kind g value due more ss es fs) (sym w.grow)
          (entries_more kind g value due more subsets w.more es fs (entries_listed kind g value due words found.word subsets es fs h))

      rest_grown : Entries rest (map (front_of value words) rest)
      rest_grown = grown rest (map (front_of value words) rest) (own_entries words subsets rest rest_entries)

      later_grown : Entries later s.fronts
      later_grown = grown later s.fronts s.waiting

      -- what is left, in two parts
      lefts : (fs : List Front) × IsPermutation w.fronts fs × Entries (put.passing ++ put.others) fs
      lefts = entries_permuted kind g value due more new left (put.passing ++ put.others) w.fronts put.all w.entries

      parts : (ps : List Front) × (os : List Front) × (lefts.0 ≡ ps ++ os) × Entries put.passing ps × Entries put.others os
      parts = entries_split kind g value due more new put.passing put.others lefts.0 lefts.2

      -- the two parts of the table
      firsts : (fs : List Front) × IsPermutation (parts.0 ++ map (front_of value words) rest) fs × Entries ready_now fs
      firsts = entries_permuted kind g value due more new (put.passing ++ rest) ready_now (parts.0 ++ map (front_of value words) rest) put.first
          (entries_append kind g value due more new put.passing rest parts.0 (map (front_of value words) rest) parts.3 rest_grown)

      seconds : (fs : List Front) × IsPermutation (parts.1 ++ s.fronts) fs × Entries later_now fs
      seconds = entries_permuted kind g value due more new (put.others ++ later) later_now (parts.1 ++ s.fronts) put.second
          (entries_append kind g value due more new put.others later parts.1 s.fronts parts.4 later_grown)

      due_now : All Due ready_now
      due_now = All-permutation Due (put.passing ++ rest) ready_now put.first (All-append Due put.passing rest put.pass rest_due)

      firsts_own : firsts.0 ≡ map (front_of value more) ready_now
      firsts_own = entries_due kind g value due more new ready_now firsts.0 due_now firsts.2

      -- (p ++ o) ++ (r ++ s) and (p ++ r) ++ (o ++ s)
      crossed : (ps os rs ss : List Front) → IsPermutation ((ps ++ os) ++ (rs ++ ss)) ((ps ++ rs) ++ (os ++ ss))
      crossed ps os rs ss =
          subst (λ (l : List Front). IsPermutation l ((ps ++ rs) ++ (os ++ ss))) (sym (append_assoc ps os (rs ++ ss)))
          (subst (λ (l : List Front). IsPermutation (ps ++ (os ++ (rs ++ ss))) l) (sym (append_assoc ps rs (os ++ ss)))
          (IsPermutation-append_right ps (os ++ (rs ++ ss)) (rs ++ (os ++ ss))
          (subst (λ (l : List Front). IsPermutation l (rs ++ (os ++ ss))) (append_assoc os rs ss)
          (subst (λ (l : List Front). IsPermutation ((os ++ rs) ++ ss) l) (append_assoc rs os ss)
          (IsPermutation-append_left ss (os ++ rs) (rs ++ os) (IsPermutation-append_comm os rs))))))

      fronts_now : IsPermutation (w.fronts ++ behind) (firsts.0 ++ seconds.0)
      fronts_now = IsPermutation-trans (w.fronts ++ behind) ((parts.0 ++ parts.1) ++ behind) (firsts.0 ++ seconds.0)
          (IsPermutation-append_left behind w.fronts (parts.0 ++ parts.1) (subst (IsPermutation w.fronts) parts.2 lefts.1))
          (IsPermutation-trans ((parts.0 ++ parts.1) ++ behind) ((parts.0 ++ map (front_of value words) rest) ++ (parts.1 ++ s.fronts)) (firsts.0 ++ seconds.0)
          (crossed parts.0 parts.1 (map (front_of value words) rest) s.fronts)
          (IsPermutation-append (parts.0 ++ map (front_of value words) rest) firsts.0 (parts.1 ++ s.fronts) seconds.0 firsts.1 seconds.1))

      frontier_now : IsFrontier (IsSpelled kind g) (listed ++ found ∷ []) (firsts.0 ++ seconds.0)
      frontier_now = frontier_permuted (IsSpelled kind g) (listed ++ found ∷ []) (w.fronts ++ behind) (firsts.0 ++ seconds.0) fronts_now (w.covers listed behind taken_frontier taken_leads)

      -- an entry that is left and is not due waits
      other_waits : (x : Entry D) → Has put.others x → Waits kind due (value x.total)
      other_waits x there = record { uncancelling = λ cancel. fail (inl cancel); worse = by_order (cost_cmp due (value x.total)) refl }
        where
          fail : IsDue kind due (value x.total) → ⊥
          fail = All-has (λ (y : Entry D). IsDue kind due (value y.total) → ⊥) put.others x put.fail there

          front : (f : Front) × Has (firsts.0 ++ seconds.0) f × IsEntry kind g value due more new x f
          front =
              let at = entry_front more new put.others parts.1 x parts.4 there in (
                at.0,
                Has-permutation (firsts.0 ++ seconds.0) (w.fronts ++ behind) at.0 (IsPermutation-sym (w.fronts ++ behind) (firsts.0 ++ seconds.0) fronts_now)
                    (Has-append_left w.fronts behind at.0 (Has-permutation w.fronts (parts.0 ++ parts.1) at.0 (subst (IsPermutation w.fronts) parts.2 lefts.1) (Has-append_right parts.0 parts.1 at.0 at.1))),
                at.2,
              )

          found_due : found.weight ≡ due
          found_due = by (taken_due)
            where
              by : Due e → found.weight ≡ due
              by (inl cancel) = absurd (fail (inl cancel))
              by (inr same) = w.total ∙ same

          -- the best string of its front comes after the one that was listed
          late : is_gt (cost_cmp due (value x.total)) ≡ false
          late =
              let key = frontier_now.keys front.0 front.1 in
              let after : word_cmp found (record { word = key.word; weight = front.0.total }) ≡ Less = frontier_now.after front.0 (record { word = key.word; weight = front.0.total }) found front.1 key.inside key.weighs (Has-append_right listed (found ∷ []) found (inl refl)) in
              subst (λ (c : Cost). is_gt (cost_cmp due c) ≡ false) front.2.total
              (subst (λ (c : Cost). is_gt (cost_cmp c front.0.total) ≡ false) found_due (first_not_after (cost_cmp found.weight front.0.total) _ after))

          by_order : (o : Ordering) → cost_cmp due (value x.total) ≡ o → cost_cmp due (value x.total) ≡ Less
          by_order Less h = h
          by_order Equal h = absurd (fail (inr (sym (cost_cmp_equal due (value x.total) h))))
          by_order Greater h = absurd (let wrong : true ≡ false = sym (ap is_gt h) ∙ late in cc)

      waits_now : All (λ x. Waits kind due (value x.total)) later_now
      waits_now = All-permutation (λ x. Waits kind due (value x.total)) (put.others ++ later) later_now put.second
          (All-append (λ x. Waits kind due (value x.total)) put.others later (Has_All (λ x. Waits kind due (value x.total)) put.others other_waits) s.worse)

      pub listed_on : IsHeap (entry_cmp value more) ready_now → IsHeap (total_cmp value) later_now → IsSearch kind g value due (listed ++ found ∷ []) more new ready_now later_now
      listed_on heap later_heap = record {
        entries = entries_own more new ready_now firsts.0 firsts.2 firsts_own;
        ready_due = due_now;
        heap = heap;
        fronts = seconds.0;
        waiting = seconds.2;
        worse = waits_now;
        later_heap = later_heap;
        frontier = subst (λ (fs : List Front). IsFrontier (IsSpelled kind g) (listed ++ found ∷ []) (fs ++ seconds.0)) firsts_own frontier_now;
      }

-- another total becomes due
module _ {D : Type 0} (kind : ArcType) (g : Graph ℕ) (value : D → Cost) (due next : Cost) (listed : List WeightedWord) (words : List (List ℕ)) (subsets : List (List Member))
    (later ready_now later_now : List (Entry D)) (s : IsSearch kind g value due listed words subsets [] later) where
  pub waiting_keyed : AreKeyed kind g value due words subsets later s.fronts
  waiting_keyed = record { entries = s.waiting; keys = s.frontier.keys }

  module _ (begun : IsClassBegun value words next ready_now later_now) (stands : StandFor kind g value next words subsets ready_now later_now s.fronts) where
    ready_due_now : All (λ e. IsDue kind next (value e.total)) ready_now
    ready_due_now = All-weaker (λ e. value e.total ≡ next) (λ e. IsDue kind next (value e.total)) (λ e same. inr same) ready_now begun.total

    firsts_are : stands.firsts ≡ map (front_of value words) ready_now
    firsts_are = entries_due kind g value next words subsets ready_now stands.firsts ready_due_now stands.ready

    -- that totals wait is of arc types whose factors do not cancel
    uncancelling_here : cancels kind ≡ true → ⊥
    uncancelling_here cancel = by ready_now stands.firsts begun.some stands.ready refl
      where
        by : (es : List (Entry D)) (fs : List Front) → 0 < length es → AreEntries kind g value next words subsets es fs → fs ≡ stands.firsts → ⊥
        by [] fs some h same = omega (arith, some)
        by (e ∷ es) [] some h same = h
        by (e ∷ es) (f ∷ fs) some h same =
            let there : Has (stands.firsts ++ stands.others) f = Has-append_left stands.firsts stands.others f (subst (λ (l : List Front). Has l f) same (inl refl)) in
            let from = front_behind kind g value due words subsets later s.fronts f s.waiting (Has-permutation s.fronts (stands.firsts ++ stands.others) f stands.same there) in
            (All-has (λ (x : Entry D). Waits kind due (value x.total)) later from.0 s.worse from.1).uncancelling cancel

    pub class_on : IsSearch kind g value next listed words subsets ready_now later_now
    class_on = record {
      entries = entries_own kind g value next words subsets ready_now stands.firsts stands.ready firsts_are;
      ready_due = ready_due_now;
      heap = begun.ready_heap;
      fronts = stands.others;
      waiting = stands.later;
      worse = All-weaker (λ e. cost_cmp next (value e.total) ≡ Less) (λ e. Waits kind next (value e.total)) (λ e less. record { uncancelling = uncancelling_here; worse = less }) later_now begun.worse;
      later_heap = begun.later_heap;
      frontier = subst (λ (fs : List Front). IsFrontier (IsSpelled kind g) listed (fs ++ stands.others)) firsts_are (frontier_permuted (IsSpelled kind g) listed s.fronts (stands.firsts ++ stands.others) stands.same s.frontier);
    }

-- how a listing begins
module _ {D : Type 0} (kind : ArcType) (g : Graph ℕ) (value : D → Cost) (due : Cost) where
  -- a table of one is a heap
  one_heap : {X : Type 0} (R : X → X → Ordering) (x : X) → IsHeap R (x ∷ [])
  one_heap R x d p c below low = absurd (omega (arith, below, low))

  -- where no string is there
  pub nothing_listed : ((x : List ℕ) (v : Cost) → IsSpelled kind g x v → ⊥) → (subsets : List (List Member)) (ready later : List (Entry D)) → ready ≡ [] → later ≡ []
      → IsSearch kind g value due [] [] subsets ready later
  nothing_listed none subsets ready later is_clear are_none =
      subst (λ (es : List (Entry D)). IsSearch kind g value due [] [] subsets es later) (sym is_clear) (subst (λ (es : List (Entry D)). IsSearch kind g value due [] [] subsets [] es) (sym are_none) empty)
    where
      empty : IsSearch kind g value due [] [] subsets [] []
      empty = record {
        entries = All-nil (λ e. IsEntry kind g value due [] subsets e (front_of value [] e));
        ready_due = All-nil (λ e. IsDue kind due (value e.total));
        heap = no_heap (entry_cmp value []);
        fronts = [];
        waiting = tt;
        worse = All-nil (λ e. Waits kind due (value e.total));
        later_heap = no_heap (total_cmp value);
        frontier = begins_nothing (IsSpelled kind g) none;
      }

  -- with the prefix without labels
  pub root_listed : (e : Entry D) (members : List Member) → e.owner ≡ 0 → e.depth ≡ 0 → e.tail ≡ 0 → e.closed ≡ false → e.slot ≡ 0 → IsSubset kind g [] (value e.by) members
      → IsDue kind due (value e.total) → IsKey (IsSpelled kind g) (record { prefix = []; closed = false; total = value e.total; long = e.long }) → IsSearch kind g value due [] [] (members ∷ []) (e ∷ []) []
  root_listed e members owner depth tail is_open slot is due_now key = record {
    entries = All-cons (λ (x : Entry D). IsEntry kind g value due [] (members ∷ []) x (front_of value [] x)) e [] entry (All-nil (λ (x : Entry D). IsEntry kind g value due [] (members ∷ []) x (front_of value [] x)));
    ready_due = All-cons (λ (x : Entry D). IsDue kind due (value x.total)) e [] due_now (All-nil (λ (x : Entry D). IsDue kind due (value x.total)));
    heap = one_heap (entry_cmp value []) e;
    fronts = [];
    waiting = tt;
    worse = All-nil (λ e. Waits kind due (value e.total));
    later_heap = no_heap (total_cmp value);
    frontier = begins_whole (IsSpelled kind g) (front_of value [] e) whole is_open own_key;
  }
    where
      whole : prefix_of [] e ≡ []
      whole = ap₂ (λ (n t : ℕ). take n (list_at [] e.owner) ++ tail_of t) depth tail

      entry : IsEntry kind g value due [] (members ∷ []) e (front_of value [] e)
      entry = record {
        prefix = refl;
        closed = refl;
        total = refl;
        long = λ h. refl;
        compare = record { depth = omega (arith, depth); few = omega (arith, depth) };
        short = λ c. tail;
        subset = λ c. (members, ap (λ (n : ℕ). slice_get (members ∷ []) n) slot, subst (λ (x : List ℕ). IsSubset kind g x (value e.by) members) (sym whole) is);
      }

      own_key : IsKey (IsSpelled kind g) (front_of value [] e)
      own_key = subst (λ (x : List ℕ). IsKey (IsSpelled kind g) (record { prefix = x; closed = e.closed; total = value e.total; long = e.long })) (sym whole)
          (subst (λ (b : Bool). IsKey (IsSpelled kind g) (record { prefix = []; closed = b; total = value e.total; long = e.long })) (sym is_open) key)

-- how it ends
module _ {D : Type 0} (kind : ArcType) (g : Graph ℕ) (value : D → Cost) (due : Cost) (plain : IsPlain g) (listed : List WeightedWord) (words : List (List ℕ)) (subsets : List (List Member)) (n : ℕ) where
  pub full_listed : (ready later : List (Entry D)) → length listed ≡ n → IsSearch kind g value due listed words subsets ready later → AreFirstStrings kind g n listed
  full_listed ready later full s = first_strings kind g plain listed (map (front_of value words) ready ++ s.fronts) n (inl full) (omega (arith, full)) s.frontier

  pub all_listed : length listed ≤ n → IsSearch kind g value due listed words subsets [] [] → AreFirstStrings kind g n listed
  all_listed few s = first_strings kind g plain listed s.fronts n (inr (none s.fronts s.waiting)) few s.frontier
    where
      none : (fs : List Front) → AreEntries kind g value due words subsets [] fs → fs ≡ []
      none [] h = refl
      none (f ∷ fs) h = absurd h

-- where a machine has no start it has no strings
pub no_start : {N : Type 0} (kind : ArcType) (g : Graph N) → g.start ≡ None → (x : List ℕ) (v : Cost) → IsSpelled kind g x v → ⊥
no_start kind g none x v h = let e : None ≡ Some h.0.first = sym none ∙ h.0.starts in cc

-- the start, where its subset is none, and where it is some
pub none_started : {V : Type 0} (kind : ArcType) (value : V → Cost) (m z : Machine V) (o : Option (List Member)) → o ≡ option_map (start_members kind) z.start → z ≡ m → o ≡ None → (graph_of (valued value m)).start ≡ None
none_started kind value m z o is same none = ap (λ (y : Machine _). y.start) (sym same) ∙ unmapped z.start (sym is ∙ none)
  where
    unmapped : (s : Option ℕ) → option_map (start_members kind) s ≡ None → s ≡ None
    unmapped None e = refl
    unmapped (Some p) e = let wrong : Some (start_members kind p) ≡ None = e in cc

pub root_subset : {V : Type 0} (kind : ArcType) (value : V → Cost) (m z : Machine V) (o : Option (List Member)) (members : List Member) (by : Cost) → o ≡ option_map (start_members kind) z.start → z ≡ m
    → o ≡ Some members → by ≡ one_of kind → IsSubset kind (graph_of (valued value m)) [] by members
root_subset kind value m z o members by is same some one =
    let g = graph_of (valued value m) in
    let starts = starts_there kind g members (ap (λ (y : Machine _). option_map (start_members kind) y.start) (sym same) ∙ (sym is ∙ some)) in
    subst (λ (b : Cost). IsSubset kind g [] b members) (sym one) (subst (λ (s : List Member). IsSubset kind g [] (one_of kind) s) starts.2 (start_subset kind g starts.0 starts.1))

-- one more listed string
pub words_more : {V X : Type 0} (xs ys : List (StringWeight V X)) (s : StringWeight V X) → ys ≡ xs ++ s ∷ [] → words_of xs ++ s.word ∷ [] ≡ words_of ys
words_more xs ys s is = sym (ap words_of is ∙ map-append (λ (t : StringWeight _ _). t.word) xs (s ∷ []))

pub weighted_more : {V X : Type 0} (value : X → Cost) (xs ys : List (StringWeight V X)) (s : StringWeight V X) → ys ≡ xs ++ s ∷ [] → map (weighted value) xs ++ weighted value s ∷ [] ≡ map (weighted value) ys
weighted_more value xs ys s is = sym (ap (map (weighted value)) is ∙ map-append (weighted value) xs (s ∷ []))

-- an entry that is taken, if one is
pub some_taken : {D : Type 0} (kind : ArcType) (g : Graph ℕ) (value : D → Cost) (due : Cost) (listed : List WeightedWord) (words : List (List ℕ)) (subsets : List (List Member)) (ready later rest : List (Entry D))
    (o : Option (Entry D)) → IsSearch kind g value due listed words subsets ready later → TakesFirst (entry_cmp value words) ready o rest
    → IfSome o (λ e. (es : List (Entry D)) × IsSearch kind g value due listed words subsets es later × FirstLeaves (entry_cmp value words) es e rest)
some_taken kind g value due listed words subsets ready later rest None s t = tt
some_taken kind g value due listed words subsets ready later rest (Some e) s t = (ready, s, t)

pub on_ok_three : {X E P Q R S : Type 0} (r : Result X E) → (P → Q → R → S) → OnOk r P → OnOk r Q → OnOk r R → OnOk r S
on_ok_three (Ok x) f p q t = f p q t
on_ok_three (Err e) f p q t = tt
