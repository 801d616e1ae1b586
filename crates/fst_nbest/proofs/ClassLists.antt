-- The first paths of one total weight after the other.
use Rattle.std.proofs.Common.{◌≡◌, ◌≢◌, ◌⊎◌, inl, inr, ℕ, ◌-◌, ◌<◌, ◌≤◌, Bool, true, false, true≢false, List, [], ◌∷◌, ◌++◌, Option, None, Some, length, map, refl, sym, ap, ap₂, subst, ◌∙◌, arith}
use Rattle.std.proofs.Common.{Ordering, Less, Equal, Greater}
use Rattle.std.specs.List.{All}
use Rattle.std.specs.Ordering.{is_gt, nat_cmp, ordering_reverse, ordering_then}
use Rattle.std.specs.Cmp.Lexicographic.{slice_cmp}
use Rattle.std.proofs.lemmas.List.{append-nil, length-append, length-map, map-append}
use Rattle.std.proofs.lemmas.List.Elements.{All-cons, All-nil}
use Rattle.std.proofs.lemmas.List.Sorted.{IsPermutation-sym}
use Rattle.std.proofs.lemmas.Option.{same_Some}
use Rattle.fst_semiring.specs.Cost.{Cost, best, finite, infinite, cost_cmp, cost_total, plus, ranked, worse}
use Rattle.fst_semiring.specs.declared.arc_type.ArcType.{ArcType}
use Rattle.fst_semiring.specs.declared.arc_type.ArcType.TheVariants.{Boolean, Tropical, MinMax, Lexicographic}
use Rattle.fst_semiring.specs.Semiring.{cancels, times}
use Rattle.fst_semiring.proofs.Laws.{one_times, times_assoc}
use Rattle.fst_semiring.proofs.Order.{cost_cmp_equal, cost_cmp_same, plus_antisym, plus_least, plus_same, plus_trans, worse_picks}
use Rattle.fst_machine.specs.BreadthFirst.{Has}
use Rattle.fst_machine.specs.Letters.{product}
use Rattle.fst_machine.specs.Machine.{Arc, IsMachine, Machine, valued}
use Rattle.fst_machine.specs.Graph.{Graph, graph_of}
use Rattle.fst_machine.specs.Paths.{Transition, IsPath, letters, places}
use Rattle.fst_machine.specs.PathOrder.{Ascends, IsFirst, WeightedPath, arc_places, path_cmp}
use Rattle.fst_machine.specs.Relation.{IsSuccessful}
use Rattle.fst_machine.proofs.Elements.{Has-append_cases, Has-append_left, Has-append_right}
use Rattle.fst_nbest.specs.Counts.{Hops, IsLeastCount, count_of, uncounted}
use Rattle.fst_nbest.specs.Words.{AreFirstWords, Says, WeightedWord, WordsAscend, word_cmp}
use Rattle.fst_nbest.specs.Classes.{IsClassLink, IsClassStop, class_links, class_words, is_counted, name_at, reached_by, unit}
use Rattle.fst_nbest.specs.Totals.{AreFirstOf, AreFirstSoFar, HasTotals, wide_cmp}
use Rattle.fst_nbest.specs.Heap.{FirstLeaves}
use Rattle.fst_queue.specs.HeapOrder.{NotAfter}
use Rattle.fst_nbest.specs.PathWords.{AreDistances, HasSolidArcs}
use Rattle.fst_nbest.specs.FirstPaths.{AreFirstPaths, IsTraceable, traced}
use Rattle.fst_search.proofs.MachineHops.{arc_good}
use Rattle.fst_nbest.proofs.Searches.{Has-map, map_Has}
use Rattle.fst_nbest.proofs.PathWords.{no_better, one_path, reaches}
use Rattle.fst_nbest.proofs.BestHops.{final_low}
use Rattle.fst_nbest.proofs.Counted.{of_each}
use Rattle.fst_nbest.proofs.Covering.{Has-permutation}
use Rattle.fst_nbest.proofs.ClassWords.{class_says, name_low, path_ends, reached_of_name, says_class, state_of_name}
use Rattle.fst_nbest.proofs.TracedWords.{path_traceable, path_traced}
use Rattle.fst_nbest.proofs.Worst.{Meant, meant_step, step_meant, worse_above_right}

-- the one arc type in which factors do not cancel
pub not_cancelling : (kind : ArcType) → cancels kind ≡ false → kind ≡ MinMax
not_cancelling Boolean e = absurd (true≢false e)
not_cancelling Tropical e = absurd (true≢false e)
not_cancelling MinMax e = refl
not_cancelling Lexicographic e = absurd (true≢false e)

best_first : (c : Cost) → plus best c ≡ best
best_first best = refl
best_first (finite a b) = refl
best_first infinite = refl

-- a path of less weight comes first
path_less : {N : Type 0} (a b : WeightedPath N) → cost_cmp a.weight b.weight ≡ Less → path_cmp a b ≡ Less
path_less a b e = ap (λ (o : Ordering). ordering_then o (ordering_then (nat_cmp (length a.path) (length b.path)) (slice_cmp nat_cmp (arc_places a.path) (arc_places b.path)))) e

-- the word of a path of the one weight
abbrev pub unit_of : {N : Type 0} → WeightedPath N → WeightedWord
unit_of p = record { word = arc_places p.path; weight = unit }

-- paths of one weight compare as their words
path_cmp_unit : {N : Type 0} (a b : WeightedPath N) → a.weight ≡ b.weight → path_cmp a b ≡ word_cmp (unit_of a) (unit_of b)
path_cmp_unit a b e =
    ap₂ (λ (o : Ordering) (p : Ordering). ordering_then o p) (subst (λ (w : Cost). cost_cmp a.weight w ≡ Equal) e (cost_cmp_same a.weight) ∙ sym (cost_cmp_same unit))
    (ap₂ (λ (m n : ℕ). ordering_then (nat_cmp m n) (slice_cmp nat_cmp (arc_places a.path) (arc_places b.path))) (sym (length-map a.path (λ (t : Transition _). t.place))) (sym (length-map b.path (λ (t : Transition _). t.place))))

module _ {V : Type 0} (value : V → Cost) (m : Machine V) (good : IsMachine value m) (total : Cost) (solid : total ≡ infinite → ⊥) (counts : List ℕ)
    (least : (x : ℕ) → IsLeastCount (IsClassStop value m total) (Hops (class_links m) (IsClassLink value (length m.states) total)) x (count_of counts x))
    (start : ℕ) (starts : m.start ≡ Some start) (low : start < length m.states) where
  -- the words of the class
  abbrev pub Words : List ℕ → Cost → Type 0
  Words word v = Says Boolean (class_words (graph_of (valued value m)) (length m.states) total (is_counted counts)) (name_at (length m.states) start (reached_by total false best)) word v

  word_path : (word : List ℕ) (v : Cost) → Words word v → (p : WeightedPath ℕ) × (IsSuccessful MinMax (graph_of (valued value m)) p.path p.weight × (p.weight ≡ total)) × (record { word = word; weight = v } ≡ unit_of p)
  word_path word v says =
      let g = graph_of (valued value m) in
      let n = length m.states in
      let b = reached_by total false best in
      let r = says_class value m good total solid counts least word (name_at n start b) v says in
      let q = r.0 in
      let w = times MinMax (product MinMax (letters q.path)) (g.final q.last) in
      let meant : Meant total b w = subst (λ (c : Bool). Meant total c w) (reached_of_name n start b low) q.meant in
      let is : w ≡ total = sym (one_times MinMax w) ∙ step_meant total false best w (best_first total) meant in (
        record { path = q.path; weight = w },
        (record { first = start; last = q.last; starts = starts; leads = subst (λ (z : ℕ). IsPath g z q.path q.last) (state_of_name n start b low) q.leads; final = q.final; weight = refl }, is),
        (λ i. record { word = sym q.same i; weight = r.1 i }),
      )

  path_word : (p : WeightedPath ℕ) → IsSuccessful MinMax (graph_of (valued value m)) p.path p.weight → p.weight ≡ total → Words (arc_places p.path) unit
  path_word p h is =
      let g = graph_of (valued value m) in
      let n = length m.states in
      let b = reached_by total false best in
      let w = times MinMax (product MinMax (letters p.path)) (g.final h.last) in
      let same : w ≡ total = sym h.weight ∙ is in
      let first : h.first ≡ start = same_Some h.first start (sym h.starts ∙ starts) in
      let meant : Meant total b w = (meant_step total false best w (one_times MinMax w ∙ same)).1 in
      class_says value m good total solid counts least p.path (name_at n start b) h.last
      (subst (λ (z : ℕ). IsPath g z p.path h.last) (sym (state_of_name n start b low)) (subst (λ (z : ℕ). IsPath g z p.path h.last) first h.leads)) h.final (name_low n start b low)
      (subst (λ (c : Bool). Meant total c w) (sym (reached_of_name n start b low)) meant)

  -- The paths of words.
  record AreClassPaths (words : List WeightedWord) (paths : List (WeightedPath ℕ)) : Type 0 where
    pub same : map unit_of paths ≡ words
    pub successful : (a : WeightedPath ℕ) → Has paths a → IsSuccessful MinMax (graph_of (valued value m)) a.path a.weight × (a.weight ≡ total)

  paths_of : (words : List WeightedWord) → ((a : WeightedWord) → Has words a → Words a.word a.weight) → (paths : List (WeightedPath ℕ)) × AreClassPaths words paths
  paths_of [] says = ([], record { same = refl; successful = λ a none. absurd none })
  paths_of (a ∷ words) says =
      let one = word_path a.word a.weight (says a (inl refl)) in
      let rest = paths_of words (λ b there. says b (inr there)) in (
        one.0 ∷ rest.0,
        record {
          same = ap₂ (λ (w : WeightedWord) (ws : List WeightedWord). w ∷ ws) (sym one.2) rest.1.same;
          successful = λ b there. by one.0 one.1 rest.0 rest.1.successful b there;
        },
      )
    where
      by : (p : WeightedPath ℕ) → (IsSuccessful MinMax (graph_of (valued value m)) p.path p.weight × (p.weight ≡ total)) → (paths : List (WeightedPath ℕ))
          → ((b : WeightedPath ℕ) → Has paths b → IsSuccessful MinMax (graph_of (valued value m)) b.path b.weight × (b.weight ≡ total)) → (b : WeightedPath ℕ) → Has (p ∷ paths) b → IsSuccessful MinMax (graph_of (valued value m)) b.path b.weight × (b.weight ≡ total)
      by p here paths others b (inl e) = subst (λ (q : WeightedPath ℕ). IsSuccessful MinMax (graph_of (valued value m)) q.path q.weight × (q.weight ≡ total)) e here
      by p here paths others b (inr there) = others b there

  ascends_paths : (paths : List (WeightedPath ℕ)) → ((a : WeightedPath ℕ) → Has paths a → a.weight ≡ total) → WordsAscend (map unit_of paths) → Ascends paths
  ascends_paths [] weights h = tt
  ascends_paths (a ∷ paths) weights h = (
    (λ b there. path_cmp_unit a b (weights a (inl refl) ∙ sym (weights b (inr there))) ∙ h.0 (unit_of b) (map_Has unit_of paths b there)),
    ascends_paths paths (λ b there. weights b (inr there)) h.1,
  )

  -- the first words of the class are its first paths
  pub class_firsts : (n : ℕ) (words : List WeightedWord) → AreFirstWords Boolean (class_words (graph_of (valued value m)) (length m.states) total (is_counted counts)) (name_at (length m.states) start (reached_by total false best)) n words
      → (paths : List (WeightedPath ℕ)) × AreFirstOf MinMax (graph_of (valued value m)) total n paths × (map (λ (p : WeightedPath ℕ). arc_places p.path) paths ≡ map (λ (w : WeightedWord). w.word) words)
  class_firsts n words first =
      let made = paths_of words first.says in
      let same = made.1.same in
      let long : length made.0 ≡ length words = sym (length-map made.0 unit_of) ∙ ap length same in (
        made.0,
        record {
          few = (let f = first.few in omega (arith, long, f));
          ascends = ascends_paths made.0 (λ a there. (made.1.successful a there).1) (subst WordsAscend (sym same) first.ascends);
          successful = made.1.successful;
          others = λ b h is. by made.0 made.1 long b h is (first.others (unit_of b) (path_word b h is));
        },
        spelled made.0 ∙ ap (map (λ (w : WeightedWord). w.word)) same,
      )
    where
      spelled : (paths : List (WeightedPath ℕ)) → map (λ (p : WeightedPath ℕ). arc_places p.path) paths ≡ map (λ (w : WeightedWord). w.word) (map unit_of paths)
      spelled [] = refl
      spelled (p ∷ paths) = ap (λ (l : List (List ℕ)). arc_places p.path ∷ l) (spelled paths)

      by : (paths : List (WeightedPath ℕ)) → AreClassPaths words paths → length paths ≡ length words → (b : WeightedPath ℕ) → IsSuccessful MinMax (graph_of (valued value m)) b.path b.weight → b.weight ≡ total
          → Has words (unit_of b) ⊎ ((length words ≡ n) × ((a : WeightedWord) → Has words a → word_cmp a (unit_of b) ≡ Less)) → Has paths b ⊎ ((length paths ≡ n) × ((a : WeightedPath ℕ) → Has paths a → path_cmp a b ≡ Less))
      by paths made long b h is (inl here) =
          let from = Has-map unit_of paths (unit_of b) (subst (λ (ws : List WeightedWord). Has ws (unit_of b)) (sym made.same) here) in
          let was = made.successful from.0 from.1 in
          inl (subst (λ (p : WeightedPath ℕ). Has paths p) (one_path MinMax (graph_of (valued value m)) from.0 b was.0 h (ap (λ (w : WeightedWord). w.word) from.2) (was.1 ∙ sym is)) from.1)
      by paths made long b h is (inr (full, before)) =
          inr (long ∙ full, λ a there. path_cmp_unit a b ((made.successful a there).1 ∙ sym is) ∙ before (unit_of a) (subst (λ (ws : List WeightedWord). Has ws (unit_of a)) made.same (map_Has unit_of paths a there)))

-- no path has this total where the start is not counted
module _ {V : Type 0} (value : V → Cost) (m : Machine V) (good : IsMachine value m) (total : Cost) (solid : total ≡ infinite → ⊥) (counts : List ℕ)
    (least : (x : ℕ) → IsLeastCount (IsClassStop value m total) (Hops (class_links m) (IsClassLink value (length m.states) total)) x (count_of counts x))
    (start : ℕ) (starts : m.start ≡ Some start) (low : start < length m.states) where
  pub class_empty : (n : ℕ) → uncounted ≤ count_of counts (name_at (length m.states) start (reached_by total false best)) → AreFirstOf MinMax (graph_of (valued value m)) total n []
  class_empty n blank = record {
    few = omega arith;
    ascends = tt;
    successful = λ a none. absurd none;
    others = λ b h is. absurd (
        let g = graph_of (valued value m) in
        let n = length m.states in
        let r = reached_by total false best in
        let w = times MinMax (product MinMax (letters b.path)) (g.final h.last) in
        let first : h.first ≡ start = same_Some h.first start (sym h.starts ∙ starts) in
        let meant : Meant total r w = (meant_step total false best w (one_times MinMax w ∙ (sym h.weight ∙ is))).1 in
        let ends = path_ends value m good total solid b.path (name_at n start r) h.last
        (subst (λ (z : ℕ). IsPath g z b.path h.last) (sym (state_of_name n start r low)) (subst (λ (z : ℕ). IsPath g z b.path h.last) first h.leads)) h.final (name_low n start r low)
        (subst (λ (c : Bool). Meant total c w) (sym (reached_of_name n start r low)) meant) in
        let counted = ((least (name_at n start r)).least (length b.path) ends).0 in
        let small = (least (name_at n start r)).small in
        counted (omega (arith, small, blank)));
  }

Has_All : {X : Type 0} (P : X → Type 0) (xs : List X) → ((x : X) → Has xs x → P x) → All P xs
Has_All P [] all = All-nil P
Has_All P (x ∷ xs) all = All-cons P x xs (all x (inl refl)) (Has_All P xs (λ y there. all y (inr there)))

-- successful paths from a start, by the places of their arcs
module _ {N : Type 0} (kind : ArcType) (g : Graph N) (start : N) (starts : g.start ≡ Some start) where
  leads_from : (a : WeightedPath N) (h : IsSuccessful kind g a.path a.weight) → IsPath g start a.path h.last
  leads_from a h = subst (λ (q : N). IsPath g q a.path h.last) (same_Some h.first start (sym h.starts ∙ starts)) h.leads

  pub all_traced : (paths : List (WeightedPath N)) → ((a : WeightedPath N) → Has paths a → IsSuccessful kind g a.path a.weight) → map (traced g start) (map (λ (a : WeightedPath N). arc_places a.path) paths) ≡ map (λ (a : WeightedPath N). places a.path) paths
  all_traced [] all = refl
  all_traced (a ∷ paths) all = let h = all a (inl refl) in ap₂ (λ (s : List (N × ℕ)) (l : List (List (N × ℕ))). s ∷ l) (sym (path_traced g a.path start h.last (leads_from a h))) (all_traced paths (λ b there. all b (inr there)))

  pub all_traceable : (paths : List (WeightedPath N)) → ((a : WeightedPath N) → Has paths a → IsSuccessful kind g a.path a.weight) → All (IsTraceable g start) (map (λ (a : WeightedPath N). arc_places a.path) paths)
  all_traceable paths all = Has_All (IsTraceable g start) (map (λ (a : WeightedPath N). arc_places a.path) paths) (λ word there. (
      let from = Has-map (λ (a : WeightedPath N). arc_places a.path) paths word there in
      let h = all from.0 from.1 in
      subst (IsTraceable g start) from.2 (path_traceable g from.0.path start h.last (leads_from from.0 h))))

-- ---- the totals

module _ {V : Type 0} (value : V → Cost) (m : Machine V) (good : IsMachine value m) (dist : ℕ → Cost) (exact : AreDistances MinMax (graph_of (valued value m)) dist) (firm : HasSolidArcs MinMax (graph_of (valued value m))) (bound : Cost) (totals : List Cost)
    (all : (p : ℕ) → p < length m.states → HasTotals (graph_of (valued value m)) dist bound p totals) where
  path_total : (path : List (Transition ℕ)) (q last : ℕ) → exact.kept q ≡ true → IsPath (graph_of (valued value m)) q path last → ((graph_of (valued value m)).final last ≡ infinite → ⊥)
      → plus bound (times MinMax (product MinMax (letters path)) ((graph_of (valued value m)).final last)) ≡ bound → Has totals (times MinMax (product MinMax (letters path)) ((graph_of (valued value m)).final last))
  path_total [] q last there leads final low =
      let g = graph_of (valued value m) in
      let f : g.final q ≡ g.final last = ap g.final leads in
      let is = one_times MinMax (g.final last) in
      let final_q : g.final q ≡ infinite → ⊥ = λ none. final (sym f ∙ none) in
      subst (Has totals) (f ∙ sym is) ((all q (final_low value m q final_q)).final (reaches MinMax g dist exact firm q last [] there leads final) final_q
      (ap (plus bound) (f ∙ sym is) ∙ low))
  path_total (t ∷ path) q last there leads final low = by (worse_picks t.arc.weight (times MinMax (product MinMax (letters path)) ((graph_of (valued value m)).final last)))
      (path_total path t.arc.next last (exact.along q t.place t.arc there leads.0.1) leads.1 final)
    where
      a : Arc Cost ℕ
      a = t.arc

      rest : Cost
      rest = times MinMax (product MinMax (letters path)) ((graph_of (valued value m)).final last)

      assoc : times MinMax (product MinMax (letters (t ∷ path))) ((graph_of (valued value m)).final last) ≡ worse a.weight rest
      assoc = times_assoc MinMax a.weight (product MinMax (letters path)) ((graph_of (valued value m)).final last)

      next : exact.kept a.next ≡ true
      next = exact.along q t.place a there leads.0.1

      onward : dist a.next ≡ infinite → ⊥
      onward = reaches MinMax (graph_of (valued value m)) dist exact firm a.next last path next leads.1 final

      by : (worse a.weight rest ≡ a.weight) ⊎ (worse a.weight rest ≡ rest) → (plus bound rest ≡ bound → Has totals rest) → Has totals (times MinMax (product MinMax (letters (t ∷ path))) ((graph_of (valued value m)).final last))
      by (inl e) more =
          let g = graph_of (valued value m) in
          let under : plus rest a.weight ≡ rest = subst (λ (w : Cost). plus rest w ≡ rest) e (worse_above_right a.weight rest) in
          let nearest : plus (dist a.next) rest ≡ dist a.next = no_better MinMax g dist exact firm a.next rest onward (record { last = last; path = path; leads = leads.1; final = final; weight = refl }) in
          subst (Has totals) (sym (assoc ∙ e))
          ((all q (arc_good value m good q t.place a leads.0.1).0).arcs t.place a leads.0.1 (reaches MinMax g dist exact firm q last (t ∷ path) there leads final) (plus_trans (dist a.next) rest a.weight nearest under, ap (plus bound) (sym (assoc ∙ e)) ∙ low))
      by (inr e) more = subst (Has totals) (sym (assoc ∙ e)) (more (ap (plus bound) (sym (assoc ∙ e)) ∙ low))

  -- the weight of each successful path is among them
  pub total_there : (start : ℕ) → m.start ≡ Some start → dist start ≡ bound → (b : WeightedPath ℕ) → IsSuccessful MinMax (graph_of (valued value m)) b.path b.weight → Has totals b.weight
  total_there start starts is b h =
      let g = graph_of (valued value m) in
      let first : h.first ≡ start = same_Some h.first start (sym h.starts ∙ starts) in
      let reached : exact.kept h.first ≡ true = exact.start h.first h.starts in
      let here : dist h.first ≡ infinite → ⊥ = reaches MinMax g dist exact firm h.first h.last b.path reached h.leads h.final in
      let w = times MinMax (product MinMax (letters b.path)) (g.final h.last) in
      let least : plus (dist h.first) w ≡ dist h.first = no_better MinMax g dist exact firm h.first w here (record { last = h.last; path = b.path; leads = h.leads; final = h.final; weight = refl }) in
      let same : dist h.first ≡ bound = ap dist first ∙ is in
      subst (Has totals) (sym h.weight) (path_total b.path h.first h.last reached h.leads h.final (subst (λ (c : Cost). plus c w ≡ c) same least))

-- ---- one total after the other

-- A total leaves that is no worse than any other.
pub record TotalLeaves (old : List Cost) (total : Cost) (new : List Cost) : Type 0 where
  pub either : (v : Cost) → Has old v → (v ≡ total) ⊎ Has new v
  pub still : (v : Cost) → Has new v → Has old v
  pub first : (v : Cost) → Has old v → plus total v ≡ total

-- the first element of a heap of weights leaves
pub total_leaves : {D : Type 0} (wide : D → Cost) (old new : List D) (x : D) → FirstLeaves (wide_cmp wide) old x new → TotalLeaves (map wide old) (wide x) (map wide new)
total_leaves wide old new x h = record {
  either = λ v there. (let from = Has-map wide old v there in by v from.0 from.2 (Has-permutation (x ∷ new) old from.0 (IsPermutation-sym old (x ∷ new) h.same) from.1));
  still = λ v there. (let from = Has-map wide new v there in subst (Has (map wide old)) from.2 (map_Has wide old from.0 (Has-permutation old (x ∷ new) from.0 h.same (inr from.1))));
  first = λ v there. (let from = Has-map wide old v there in subst (λ (w : Cost). plus (wide x) w ≡ wide x) from.2 (not_after (wide x) (wide from.0) (of_each (NotAfter (wide_cmp wide) x) old from.0 h.first from.1)));
}
  where
    by : (v : Cost) (y : _) → wide y ≡ v → Has (x ∷ new) y → (v ≡ wide x) ⊎ Has (map wide new) v
    by v y e (inl same) = inl (sym e ∙ ap wide (sym same))
    by v y e (inr there) = inr (subst (Has (map wide new)) e (map_Has wide new y there))

    not_after : (a b : Cost) → is_gt (cost_cmp a b) ≡ false → plus a b ≡ a
    not_after a b e = by_order (cost_cmp a b) e
      where
        by_order : (o : Ordering) → is_gt o ≡ false → ranked o a b ≡ a
        by_order Less h = refl
        by_order Equal h = refl
        by_order Greater h = absurd (true≢false h)

Ascends-append : {N : Type 0} (xs ys : List (WeightedPath N)) → Ascends xs → Ascends ys → ((a b : WeightedPath N) → Has xs a → Has ys b → path_cmp a b ≡ Less) → Ascends (xs ++ ys)
Ascends-append [] ys one two across = two
Ascends-append (x ∷ xs) ys one two across = ((λ b there. by b (Has-append_cases xs ys b there)), Ascends-append xs ys one.1 two (λ a b here there. across a b (inr here) there))
  where
    by : (b : WeightedPath _) → Has xs b ⊎ Has ys b → path_cmp x b ≡ Less
    by b (inl there) = one.0 b there
    by b (inr there) = across x b (inl refl) there

module _ {N : Type 0} (kind : ArcType) (g : Graph N) (n : ℕ) where
  pub so_far_begins : (totals : List Cost) → ((b : WeightedPath N) → IsSuccessful kind g b.path b.weight → Has totals b.weight) → AreFirstSoFar kind g n None totals []
  so_far_begins totals all = record {
    few = omega arith;
    ascends = tt;
    successful = λ a none. absurd none;
    before = λ a none. absurd none;
    later = λ t w e there. absurd (cc);
    others = λ b h. inr (inr (all b h, λ e. cc));
  }

  pub so_far_skips : (last : Option Cost) (totals new : List Cost) (total : Cost) (paths : List (WeightedPath N)) → TotalLeaves totals total new → last ≡ Some total → AreFirstSoFar kind g n last totals paths → AreFirstSoFar kind g n last new paths
  so_far_skips last totals new total paths leaves same s = record {
    few = s.few;
    ascends = s.ascends;
    successful = s.successful;
    before = s.before;
    later = λ t w e there. s.later t w e (leaves.still w there);
    others = λ b h. by b (s.others b h);
  }
    where
      by : (b : WeightedPath N) → Has paths b ⊎ (((length paths ≡ n) × ((a : WeightedPath N) → Has paths a → path_cmp a b ≡ Less)) ⊎ (Has totals b.weight × (last ≢ Some b.weight)))
          → Has paths b ⊎ (((length paths ≡ n) × ((a : WeightedPath N) → Has paths a → path_cmp a b ≡ Less)) ⊎ (Has new b.weight × (last ≢ Some b.weight)))
      by b (inl here) = inl here
      by b (inr (inl full)) = inr (inl full)
      by b (inr (inr (there, other))) = left (leaves.either b.weight there)
        where
          left : (b.weight ≡ total) ⊎ Has new b.weight → Has paths b ⊎ (((length paths ≡ n) × ((a : WeightedPath N) → Has paths a → path_cmp a b ≡ Less)) ⊎ (Has new b.weight × (last ≢ Some b.weight)))
          left (inl e) = absurd (other (same ∙ ap Some (sym e)))
          left (inr still) = inr (inr (still, other))

  pub so_far_goes_on : (last : Option Cost) (totals new : List Cost) (total : Cost) (paths more : List (WeightedPath N)) → TotalLeaves totals total new → last ≢ Some total → Has totals total → length paths < n → AreFirstOf kind g total (n - length paths) more
      → AreFirstSoFar kind g n last totals paths → AreFirstSoFar kind g n (Some total) new (paths ++ more)
  so_far_goes_on last totals new total paths more leaves other has room firsts s = record {
    few = (let f = firsts.few in let l = length-append paths more in omega (arith, f, l, room));
    ascends = Ascends-append paths more s.ascends firsts.ascends (λ a b here there. path_less a b (ap (cost_cmp a.weight) (firsts.successful b there).1 ∙ below a here));
    successful = λ a there. by_success a (Has-append_cases paths more a there);
    before = λ a there. (total, refl, by_before a (Has-append_cases paths more a there));
    later = λ t w e there. subst (λ (c : Cost). plus c w ≡ c) (same_Some total t e) (leaves.first w (leaves.still w there));
    others = λ b h. by b h (s.others b h);
  }
    where
      low : (a : WeightedPath N) → Has paths a → plus a.weight total ≡ a.weight
      low a here = let r = s.before a here in plus_trans a.weight r.0 total r.2 (s.later r.0 total r.1 has)

      -- what is listed weighs less
      below : (a : WeightedPath N) → Has paths a → cost_cmp a.weight total ≡ Less
      below a here = by_order (cost_cmp a.weight total) refl
        where
          by_order : (o : Ordering) → cost_cmp a.weight total ≡ o → cost_cmp a.weight total ≡ Less
          by_order Less e = e
          by_order Equal e =
              let r = s.before a here in
              let same : a.weight ≡ total = cost_cmp_equal a.weight total e in
              absurd (other (r.1 ∙ ap Some (plus_antisym r.0 total (s.later r.0 total r.1 has) (subst (λ (c : Cost). plus c r.0 ≡ c) same r.2))))
          by_order Greater e = absurd (plus_least a.weight total (low a here) (cost_total.antisymm total a.weight ∙ ap ordering_reverse e))

      by_success : (a : WeightedPath N) → Has paths a ⊎ Has more a → IsSuccessful kind g a.path a.weight
      by_success a (inl here) = s.successful a here
      by_success a (inr here) = (firsts.successful a here).0

      by_before : (a : WeightedPath N) → Has paths a ⊎ Has more a → plus a.weight total ≡ a.weight
      by_before a (inl here) = low a here
      by_before a (inr here) = subst (λ (c : Cost). plus a.weight c ≡ a.weight) (firsts.successful a here).1 (plus_same a.weight)

      Placed : WeightedPath N → Type 0
      Placed b = Has (paths ++ more) b ⊎ (((length (paths ++ more) ≡ n) × ((a : WeightedPath N) → Has (paths ++ more) a → path_cmp a b ≡ Less)) ⊎ (Has new b.weight × (Some total ≢ Some b.weight)))

      in_class : (b : WeightedPath N) → b.weight ≡ total → Has more b ⊎ ((length more ≡ n - length paths) × ((a : WeightedPath N) → Has more a → path_cmp a b ≡ Less)) → Placed b
      in_class b is (inl here) = inl (Has-append_right paths more b here)
      in_class b is (inr (full, before)) = inr (inl ((let l = length-append paths more in omega (arith, l, full, room)), λ a there. either a (Has-append_cases paths more a there)))
        where
          either : (a : WeightedPath N) → Has paths a ⊎ Has more a → path_cmp a b ≡ Less
          either a (inl here) = path_less a b (ap (cost_cmp a.weight) is ∙ below a here)
          either a (inr here) = before a here

      by : (b : WeightedPath N) → IsSuccessful kind g b.path b.weight → Has paths b ⊎ (((length paths ≡ n) × ((a : WeightedPath N) → Has paths a → path_cmp a b ≡ Less)) ⊎ (Has totals b.weight × (last ≢ Some b.weight))) → Placed b
      by b h (inl here) = inl (Has-append_left paths more b here)
      by b h (inr (inl full)) = absurd (let f = full.0 in omega (arith, f, room))
      by b h (inr (inr (there, later))) = by_order (cost_cmp b.weight total) refl
        where
          apart : (b.weight ≡ total → ⊥) → Placed b
          apart differs = left (leaves.either b.weight there)
            where
              left : (b.weight ≡ total) ⊎ Has new b.weight → Placed b
              left (inl e) = absurd (differs e)
              left (inr still) = inr (inr (still, λ e. differs (sym (same_Some total b.weight e))))

          not_same : (o : Ordering) → cost_cmp b.weight total ≡ o → (o ≡ Equal → ⊥) → b.weight ≡ total → ⊥
          not_same o e differs same = differs (sym e ∙ subst (λ (c : Cost). cost_cmp b.weight c ≡ Equal) same (cost_cmp_same b.weight))

          by_order : (o : Ordering) → cost_cmp b.weight total ≡ o → Placed b
          by_order Equal e = in_class b (cost_cmp_equal b.weight total e) (firsts.others b h (cost_cmp_equal b.weight total e))
          by_order Less e = apart (not_same Less e (λ d. cc))
          by_order Greater e = apart (not_same Greater e (λ d. cc))

  pub so_far_ends : (last : Option Cost) (totals : List Cost) (paths : List (WeightedPath N)) → (totals ≡ []) ⊎ (n ≤ length paths) → AreFirstSoFar kind g n last totals paths → IsFirst kind g n paths
  so_far_ends last totals paths ended s = record { few = s.few; ascends = s.ascends; successful = s.successful; others = λ b h. by b h ended (s.others b h) }
    where
      by : (b : WeightedPath N) → IsSuccessful kind g b.path b.weight → (totals ≡ []) ⊎ (n ≤ length paths) → Has paths b ⊎ (((length paths ≡ n) × ((a : WeightedPath N) → Has paths a → path_cmp a b ≡ Less)) ⊎ (Has totals b.weight × (last ≢ Some b.weight)))
          → Has paths b ⊎ ((length paths ≡ n) × ((a : WeightedPath N) → Has paths a → path_cmp a b ≡ Less))
      by b h ended (inl here) = inl here
      by b h ended (inr (inl full)) = inr full
      by b h (inl none) (inr (inr (there, later))) = absurd (subst (λ (l : List Cost). Has l b.weight) none there)
      by b h (inr all) (inr (inr (there, later))) = inr ((let f = s.few in omega (arith, f, all)), λ a here. (let r = s.before a here in path_less a b (strictly a r.0 r.2 (s.later r.0 b.weight r.1 there) (λ e. later (r.1 ∙ ap Some e)))))
        where
          strictly : (a : WeightedPath N) (t : Cost) → plus a.weight t ≡ a.weight → plus t b.weight ≡ t → (t ≡ b.weight → ⊥) → cost_cmp a.weight b.weight ≡ Less
          strictly a t one two differs = by_order (cost_cmp a.weight b.weight) refl
            where
              by_order : (o : Ordering) → cost_cmp a.weight b.weight ≡ o → cost_cmp a.weight b.weight ≡ Less
              by_order Less e = e
              by_order Equal e = absurd (differs (plus_antisym t b.weight two (subst (λ (c : Cost). plus c t ≡ c) (cost_cmp_equal a.weight b.weight e) one)))
              by_order Greater e = absurd (plus_least a.weight b.weight (plus_trans a.weight t b.weight one two) (cost_total.antisymm b.weight a.weight ∙ ap ordering_reverse e))

-- ---- what a list of one total weight adds

module _ {V : Type 0} (kind : ArcType) (other : cancels kind ≡ false) (value : V → Cost) (m : Machine V) (good : IsMachine value m) (total : Cost) (solid : total ≡ infinite → ⊥) (counts : List ℕ)
    (least : (x : ℕ) → IsLeastCount (IsClassStop value m total) (Hops (class_links m) (IsClassLink value (length m.states) total)) x (count_of counts x))
    (start : ℕ) (starts : m.start ≡ Some start) (low : start < length m.states) (n : ℕ) where
  abbrev pub Adds : List (List (ℕ × ℕ)) → List (List (ℕ × ℕ)) → Type 0
  Adds old new = (more : List (WeightedPath ℕ)) × AreFirstOf kind (graph_of (valued value m)) total n more × (new ≡ old ++ map (λ a. places a.path) more)

  of_kind : (paths : List (WeightedPath ℕ)) → AreFirstOf MinMax (graph_of (valued value m)) total n paths → AreFirstOf kind (graph_of (valued value m)) total n paths
  of_kind paths h = subst (λ (k : ArcType). AreFirstOf k (graph_of (valued value m)) total n paths) (sym (not_cancelling kind other)) h

  pub adds_nothing : (name : ℕ) (old : List (List (ℕ × ℕ))) → name ≡ name_at (length m.states) start (reached_by total false best) → uncounted ≤ count_of counts name → Adds old old
  adds_nothing name old is blank = ([], of_kind [] (class_empty value m good total solid counts least start starts low n (subst (λ (x : ℕ). uncounted ≤ count_of counts x) is blank)), sym (append-nil old))

  module _ (name : ℕ) (is : name ≡ name_at (length m.states) start (reached_by total false best)) (words : List (List ℕ))
      (firsts : (listed : List WeightedWord) × AreFirstWords Boolean (class_words (graph_of (valued value m)) (length m.states) total (is_counted counts)) name n listed × (map (λ (w : WeightedWord). w.word) listed ≡ words)) where
    found : (paths : List (WeightedPath ℕ)) × AreFirstOf MinMax (graph_of (valued value m)) total n paths × (map (λ (p : WeightedPath ℕ). arc_places p.path) paths ≡ map (λ (w : WeightedWord). w.word) firsts.0)
    found = class_firsts value m good total solid counts least start starts low n firsts.0 (subst (λ (x : ℕ). AreFirstWords Boolean (class_words (graph_of (valued value m)) (length m.states) total (is_counted counts)) x n firsts.0) is firsts.1)

    in_words : map (λ (p : WeightedPath ℕ). arc_places p.path) found.0 ≡ words
    in_words = found.2 ∙ firsts.2

    succeed : (a : WeightedPath ℕ) → Has found.0 a → IsSuccessful MinMax (graph_of (valued value m)) a.path a.weight
    succeed a there = (found.1.successful a there).0

    pub class_traceable : All (IsTraceable (graph_of (valued value m)) start) words
    class_traceable = subst (All (IsTraceable (graph_of (valued value m)) start)) in_words (all_traceable MinMax (graph_of (valued value m)) start starts found.0 succeed)

    pub adds_words : (old new : List (List (ℕ × ℕ))) → new ≡ old ++ map (traced (graph_of (valued value m)) start) words → Adds old new
    adds_words old new put = (
      found.0,
      of_kind found.0 found.1,
      put ∙ ap (λ (l : List (List (ℕ × ℕ))). old ++ l) (ap (map (traced (graph_of (valued value m)) start)) (sym in_words) ∙ all_traced MinMax (graph_of (valued value m)) start starts found.0 succeed),
    )

-- ---- the search over the totals, with the paths as they are written down

module _ {N : Type 0} (kind : ArcType) (other : cancels kind ≡ false) (g : Graph N) (n : ℕ) where
  -- The paths so far, written down.
  pub record IsOnTotals (last : Option Cost) (totals : List Cost) (walks : List (List (N × ℕ))) : Type 0 where
    pub paths : List (WeightedPath N)
    pub first : AreFirstSoFar MinMax g n last totals paths
    pub written : walks ≡ map (λ a. places a.path) paths

  long : (last : Option Cost) (totals : List Cost) (walks : List (List (N × ℕ))) (s : IsOnTotals last totals walks) → length walks ≡ length s.paths
  long last totals walks s = ap length s.written ∙ length-map s.paths (λ (a : WeightedPath N). places a.path)

  pub totals_begin : (totals : List Cost) → ((b : WeightedPath N) → IsSuccessful MinMax g b.path b.weight → Has totals b.weight) → IsOnTotals None totals []
  totals_begin totals all = record { paths = []; first = so_far_begins MinMax g n totals all; written = refl }

  pub totals_skip : (last : Option Cost) (totals new : List Cost) (total : Cost) (walks : List (List (N × ℕ))) → TotalLeaves totals total new → last ≡ Some total → IsOnTotals last totals walks → IsOnTotals last new walks
  totals_skip last totals new total walks leaves same s = record { paths = s.paths; first = so_far_skips MinMax g n last totals new total s.paths leaves same s.first; written = s.written }

  pub totals_go_on : (last : Option Cost) (totals new : List Cost) (total : Cost) (walks after : List (List (N × ℕ))) → TotalLeaves totals total new → last ≢ Some total → Has totals total → length walks < n
      → (more : List (WeightedPath N)) × AreFirstOf kind g total (n - length walks) more × (after ≡ walks ++ map (λ a. places a.path) more) → IsOnTotals last totals walks → IsOnTotals (Some total) new after
  totals_go_on last totals new total walks after leaves differs has room (more, firsts, put) s =
      let many = long last totals walks s in
      record {
        paths = s.paths ++ more;
        first = so_far_goes_on MinMax g n last totals new total s.paths more leaves differs has (omega (arith, many, room))
            (subst (λ (k : ArcType). AreFirstOf k g total (n - length s.paths) more) (not_cancelling kind other) (subst (λ (j : ℕ). AreFirstOf kind g total (n - j) more) many firsts)) s.first;
        written = put ∙ (ap (λ (l : List (List (N × ℕ))). l ++ map (λ (a : WeightedPath N). places a.path) more) s.written ∙ sym (map-append (λ (a : WeightedPath N). places a.path) s.paths more));
      }

  pub totals_end : (last : Option Cost) (totals : List Cost) (walks : List (List (N × ℕ))) → (totals ≡ []) ⊎ (n ≤ length walks) → IsOnTotals last totals walks → AreFirstPaths kind g n walks
  totals_end last totals walks ended s = record {
    listed = s.paths;
    first = subst (λ (k : ArcType). IsFirst k g n s.paths) (sym (not_cancelling kind other)) (so_far_ends MinMax g n last totals s.paths (by ended) s.first);
    written = sym s.written;
  }
    where
      by : (totals ≡ []) ⊎ (n ≤ length walks) → (totals ≡ []) ⊎ (n ≤ length s.paths)
      by (inl none) = inl none
      by (inr all) = let many = long last totals walks s in inr (omega (arith, many, all))
