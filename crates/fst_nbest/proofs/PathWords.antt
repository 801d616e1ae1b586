-- The paths of a graph as words.
use Rattle.std.proofs.Common.{◌≡◌, ◌⊎◌, inl, inr, ℕ, true, false, List, [], ◌∷◌, Option, None, Some, length, map, slice_get, refl, sym, ap, ap₂, subst, ◌∙◌, arith}
use Rattle.std.proofs.Common.{Ordering, Less, Equal, Greater}
use Rattle.std.specs.Ordering.{nat_cmp, ordering_then, ordering_reverse}
use Rattle.std.specs.Cmp.Lexicographic.{slice_cmp}
use Rattle.std.proofs.lemmas.Option.{same_Some}
use Rattle.std.proofs.lemmas.Bool.{cases_Bool}
use Rattle.std.proofs.lemmas.List.{length-map}
use Rattle.fst_semiring.specs.Cost.{Cost, best, finite, infinite, cost_cmp, cost_total, plus}
use Rattle.fst_semiring.specs.declared.arc_type.ArcType.{ArcType}
use Rattle.fst_semiring.specs.Semiring.{one_of, times, IsCost}
use Rattle.fst_semiring.proofs.Laws.{one_times, times_assoc, times_only_zero}
use Rattle.fst_semiring.proofs.Order.{cost_cmp_equal, plus_least}
use Rattle.fst_machine.specs.Machine.{Arc}
use Rattle.fst_machine.specs.Graph.{Graph}
use Rattle.fst_machine.specs.Letters.{product}
use Rattle.fst_machine.specs.Paths.{Transition, IsPath, letters}
use Rattle.fst_machine.specs.Relation.{IsSuccessful}
use Rattle.fst_machine.specs.Distance.{Finishes, IsFinalDistance}
use Rattle.fst_machine.specs.BreadthFirst.{Has}
use Rattle.fst_machine.specs.PathOrder.{WeightedPath, arc_places, path_cmp, Ascends, IsFirst}
use Rattle.fst_machine.proofs.PathParts.{same_path}
use Rattle.fst_nbest.specs.Words.{WeightedWord, word_cmp, WordsAscend, Says, NoLess, AreFirstWords, AreWords, IsAhead}
use Rattle.fst_nbest.proofs.Searches.{Has-map, map_Has}
use Rattle.fst_nbest.specs.PathWords.{HasSolidArcs, IsCount, solid, toward, arc_step, path_words, AreDistances}

pub solid_some : (w v : Cost) → solid w ≡ Some v → (w ≡ v) × (w ≡ infinite → ⊥)
solid_some best v e = (same_Some best v e, λ f. cc)
solid_some (finite a b) v e = (same_Some (finite a b) v e, λ f. cc)
solid_some infinite v e = absurd (cc)

pub some_solid : (w : Cost) → (w ≡ infinite → ⊥) → solid w ≡ Some w
some_solid best h = refl
some_solid (finite a b) h = refl
some_solid infinite h = absurd (h refl)

pub toward_some : {N : Type 0} (d : Cost) (s t : Cost × N) → toward d s ≡ Some t → (s ≡ t) × (d ≡ infinite → ⊥)
toward_some best s t e = (same_Some s t e, λ f. cc)
toward_some (finite a b) s t e = (same_Some s t e, λ f. cc)
toward_some infinite s t e = absurd (cc)

pub some_toward : {N : Type 0} (d : Cost) (s : Cost × N) → (d ≡ infinite → ⊥) → toward d s ≡ Some s
some_toward best s h = refl
some_toward (finite a b) s h = refl
some_toward infinite s h = absurd (h refl)

module _ {N : Type 0} (kind : ArcType) (g : Graph N) (dist : N → Cost) where
  -- a step is an arc
  pub step_arc : (q : N) (k : ℕ) (w : Cost) (y : N) → (path_words g dist).step q k ≡ Some (w, y) → (a : Arc Cost N) × (slice_get (g.arcs q) k ≡ Some a) × (a.weight ≡ w) × (a.next ≡ y) × (dist y ≡ infinite → ⊥)
  step_arc q k w y e = by (slice_get (g.arcs q) k) refl e
    where
      by : (o : Option (Arc Cost N)) → slice_get (g.arcs q) k ≡ o → arc_step dist o ≡ Some (w, y) → (a : Arc Cost N) × (slice_get (g.arcs q) k ≡ Some a) × (a.weight ≡ w) × (a.next ≡ y) × (dist y ≡ infinite → ⊥)
      by None f h = absurd (cc)
      by (Some a) f h =
          let r = toward_some (dist a.next) (a.weight, a.next) (w, y) h in
          let next : a.next ≡ y = ap (λ (p : Cost × N). p.1) r.0 in
          (a, f, ap (λ (p : Cost × N). p.0) r.0, next, λ none. r.1 (ap dist next ∙ none))

  -- a word is a path, and its weight is the path's with the final weight
  pub says_path : (q : N) (word : List ℕ) (v : Cost) → Says kind (path_words g dist) q word v
      → (path : List (Transition N)) × (last : N) × IsPath g q path last × (g.final last ≡ infinite → ⊥) × (arc_places path ≡ word) × (v ≡ times kind (product kind (letters path)) (g.final last))
  says_path q [] v says =
      let stop = solid_some (g.final q) v says in
      ([], q, refl, stop.1, refl, sym stop.0 ∙ sym (one_times kind (g.final q)))
  says_path q (k ∷ word) v (w, y, u, step, says, weight) =
      let arc = step_arc q k w y step in
      let rest = says_path y word u says in
      let t : Transition N = record { state = q; place = k; arc = arc.0 } in (
        t ∷ rest.0,
        rest.1,
        ((refl, arc.1), subst (λ (n : N). IsPath g n rest.0 rest.1) (sym arc.3) rest.2),
        rest.3,
        ap (λ (l : List ℕ). k ∷ l) rest.4,
        weight ∙ (ap₂ (times kind) (sym arc.2) rest.5 ∙ sym (times_assoc kind arc.0.weight (product kind (letters rest.0)) (g.final rest.1))),
      )

  -- the weight of a path to a final name is not Zero
  pub not_zero : HasSolidArcs kind g → (path : List (Transition N)) (last q : N) → IsPath g q path last → (g.final last ≡ infinite → ⊥) → times kind (product kind (letters path)) (g.final last) ≡ infinite → ⊥
  not_zero firm [] last q leads final e = final (sym (one_times kind (g.final last)) ∙ e)
  not_zero firm (t ∷ path) last q leads final e = by (times_only_zero kind t.arc.weight (times kind (product kind (letters path)) (g.final last)) (sym (times_assoc kind t.arc.weight (product kind (letters path)) (g.final last)) ∙ e)) (λ f. not_zero firm path last t.arc.next leads.1 final f)
    where
      by : (t.arc.weight ≡ infinite) ⊎ (times kind (product kind (letters path)) (g.final last) ≡ infinite) → (times kind (product kind (letters path)) (g.final last) ≡ infinite → ⊥) → ⊥
      by (inl f) more = firm.solid q t.place t.arc leads.0.1 f
      by (inr f) more = more f

  module _ (exact : AreDistances kind g dist) (firm : HasSolidArcs kind g) where
    -- a name that the start reaches, and from which a path leads to a final name, is not at distance Zero
    pub reaches : (q last : N) (path : List (Transition N)) → exact.kept q ≡ true → IsPath g q path last → (g.final last ≡ infinite → ⊥) → dist q ≡ infinite → ⊥
    reaches q last path there leads final none = by (exact.here q there)
      where
        done : Finishes kind g q (times kind (product kind (letters path)) (g.final last))
        done = record { last = last; path = path; leads = leads; final = final; weight = refl }

        by : IsFinalDistance kind g q (dist q) → ⊥
        by (inl nothing) = nothing.0 _ done
        by (inr least) = not_zero firm least.0.path least.0.last q least.0.leads least.0.final (sym least.0.weight ∙ none)

    pub path_says : (q last : N) (path : List (Transition N)) → exact.kept q ≡ true → IsPath g q path last → (g.final last ≡ infinite → ⊥) → Says kind (path_words g dist) q (arc_places path) (times kind (product kind (letters path)) (g.final last))
    path_says q last [] there here final =
        subst (λ (n : N). Says kind (path_words g dist) q [] (times kind (one_of kind) (g.final n))) here
        (some_solid (g.final q) (λ none. final (ap g.final (sym here) ∙ none)) ∙ ap Some (sym (one_times kind (g.final q))))
    path_says q last (t ∷ path) there leads final =
        let next : exact.kept t.arc.next ≡ true = exact.along q t.place t.arc there leads.0.1 in (
          t.arc.weight,
          t.arc.next,
          times kind (product kind (letters path)) (g.final last),
          ap (arc_step dist) leads.0.1 ∙ some_toward (dist t.arc.next) (t.arc.weight, t.arc.next) (reaches t.arc.next last path next leads.1 final),
          path_says t.arc.next last path next leads.1 final,
          times_assoc kind t.arc.weight (product kind (letters path)) (g.final last),
        )

    -- a name that is not at distance Zero is reached, and a path from it has this weight
    pub best_path : (q : N) → (dist q ≡ infinite → ⊥) → (exact.kept q ≡ true) × Finishes kind g q (dist q)
    best_path q some = by (cases_Bool (exact.kept q))
      where
        shortest : IsFinalDistance kind g q (dist q) → Finishes kind g q (dist q)
        shortest (inl nothing) = absurd (some nothing.1)
        shortest (inr least) = least.0

        by : (exact.kept q ≡ true) ⊎ (exact.kept q ≡ false) → (exact.kept q ≡ true) × Finishes kind g q (dist q)
        by (inl is) = (is, shortest (exact.here q is))
        by (inr apart) = absurd (some (exact.others q apart))

    -- and no path from it weighs less
    pub no_better : (q : N) (v : Cost) → (dist q ≡ infinite → ⊥) → Finishes kind g q v → plus (dist q) v ≡ dist q
    no_better q v some done = by (exact.here q (best_path q some).0)
      where
        by : IsFinalDistance kind g q (dist q) → plus (dist q) v ≡ dist q
        by (inl nothing) = absurd (some nothing.1)
        by (inr least) = least.1 v done

    -- a best path is a word
    pub best_says : (q : N) → (dist q ≡ infinite → ⊥) → (word : List ℕ) × Says kind (path_words g dist) q word (dist q)
    best_says q some =
        let best = best_path q some in
        let done = best.1 in
        (arc_places done.path, subst (λ (w : Cost). Says kind (path_words g dist) q (arc_places done.path) w) (sym done.weight) (path_says q done.last done.path best.0 done.leads done.final))

    -- a word is a path to a final name
    pub says_finishes : (q : N) (word : List ℕ) (v : Cost) → Says kind (path_words g dist) q word v → Finishes kind g q v
    says_finishes q word v says = let p = says_path q word v says in record { last = p.1; path = p.0; leads = p.2; final = p.3; weight = p.5 }

    -- what is ahead of a name where words go on
    pub name_ahead : (q : N) (c : ℕ) → (dist q ≡ infinite → ⊥) → IsCount kind (path_words g dist) q (dist q) c → IsAhead kind (path_words g dist) q (dist q) c
    name_ahead q c some h = record { word = h.word; says = h.says; long = h.long; least = least }
      where
        least : (other : List ℕ) (v : Cost) → Says kind (path_words g dist) q other v → NoLess (dist q) c v (length other)
        least other v says = by_order (cost_cmp (dist q) v) refl (no_better q v some (says_finishes q other v says))
          where
            by_order : (o : Ordering) → cost_cmp (dist q) v ≡ o → plus (dist q) v ≡ dist q → NoLess (dist q) c v (length other)
            by_order Less e better = inl e
            by_order Equal e better =
                let same : dist q ≡ v = cost_cmp_equal (dist q) v e in
                inr (same, h.least other (subst (λ (w : Cost). Says kind (path_words g dist) q other w) (sym same) says))
            by_order Greater e better = absurd (plus_least (dist q) v better (cost_total.antisymm v (dist q) ∙ ap ordering_reverse e))

    -- the words of a graph with its distances and counts are a system
    pub paths_are_words : (count : N → ℕ) → ((q : N) → (dist q ≡ infinite → ⊥) → IsCount kind (path_words g dist) q (dist q) (count q)) → AreWords kind (path_words g dist) dist count
    paths_are_words count counts = record {
      cost = λ x y k w step. (let arc = step_arc x k w y step in subst (λ (z : Cost). IsCost kind z) arc.2 (firm.cost x k arc.0 arc.1));
      solid = λ x y k w step none. (let arc = step_arc x k w y step in firm.solid x k arc.0 arc.1 (arc.2 ∙ none));
      ahead = λ x y k w step. (let arc = step_arc x k w y step in name_ahead y (count y) arc.4 (counts y arc.4));
    }

-- ---- the first words are the first paths

-- a path as a word
abbrev pub word_of_path : {N : Type 0} → WeightedPath N → WeightedWord
word_of_path a = record { word = arc_places a.path; weight = a.weight }

path_cmp_word : {N : Type 0} (a b : WeightedPath N) → path_cmp a b ≡ word_cmp (word_of_path a) (word_of_path b)
path_cmp_word a b =
    ap₂ (λ (m n : ℕ). ordering_then (cost_cmp a.weight b.weight) (ordering_then (nat_cmp m n) (slice_cmp nat_cmp (arc_places a.path) (arc_places b.path))))
    (sym (length-map a.path (λ (t : Transition _). t.place))) (sym (length-map b.path (λ (t : Transition _). t.place)))

-- two successful paths of one word are one path
pub one_path : {N : Type 0} (kind : ArcType) (g : Graph N) (a b : WeightedPath N) → IsSuccessful kind g a.path a.weight → IsSuccessful kind g b.path b.weight → arc_places a.path ≡ arc_places b.path → a.weight ≡ b.weight → a ≡ b
one_path kind g a b h k word weight =
    let first : h.first ≡ k.first = same_Some h.first k.first (sym h.starts ∙ k.starts) in
    let same = same_path g a.path b.path h.first h.last k.last h.leads (subst (λ (n : _). IsPath g n b.path k.last) (sym first) k.leads) word in
    λ i. record { path = same.0 i; weight = weight i }

module _ {N : Type 0} (kind : ArcType) (g : Graph N) (dist : N → Cost) (exact : AreDistances kind g dist) (firm : HasSolidArcs kind g) (start : N) (starts : g.start ≡ Some start) where
  -- the paths of words
  record ArePathsOf (words : List WeightedWord) (paths : List (WeightedPath N)) : Type 0 where
    pub same : map word_of_path paths ≡ words
    pub successful : (a : WeightedPath N) → Has paths a → IsSuccessful kind g a.path a.weight

  paths_of : (words : List WeightedWord) → ((a : WeightedWord) → Has words a → Says kind (path_words g dist) start a.word a.weight) → (paths : List (WeightedPath N)) × ArePathsOf words paths
  paths_of [] says = ([], record { same = refl; successful = λ a none. absurd none })
  paths_of (a ∷ words) says =
      let one = says_path kind g dist start a.word a.weight (says a (inl refl)) in
      let rest = paths_of words (λ b there. says b (inr there)) in
      let p : WeightedPath N = record { path = one.0; weight = a.weight } in (
        p ∷ rest.0,
        record {
          same = ap₂ (λ (w : List ℕ) (ws : List WeightedWord). record { word = w; weight = a.weight } ∷ ws) one.4 rest.1.same;
          successful = λ b there. by p one.1 rest.0 (record { first = start; last = one.1; starts = starts; leads = one.2; final = one.3; weight = one.5 }) rest.1.successful b there;
        },
      )
    where
      by : (p : WeightedPath N) (last : N) (paths : List (WeightedPath N)) → IsSuccessful kind g p.path p.weight → ((b : WeightedPath N) → Has paths b → IsSuccessful kind g b.path b.weight) → (b : WeightedPath N) → Has (p ∷ paths) b → IsSuccessful kind g b.path b.weight
      by p last paths here others b (inl e) = subst (λ (q : WeightedPath N). IsSuccessful kind g q.path q.weight) e here
      by p last paths here others b (inr there) = others b there

  -- a successful path is a word from the start
  success_says : (b : WeightedPath N) → IsSuccessful kind g b.path b.weight → Says kind (path_words g dist) start (arc_places b.path) b.weight
  success_says b h =
      let first : h.first ≡ start = same_Some h.first start (sym h.starts ∙ starts) in
      subst (λ (w : Cost). Says kind (path_words g dist) start (arc_places b.path) w) (sym h.weight)
      (path_says kind g dist exact firm start h.last b.path (exact.start start starts) (subst (λ (n : N). IsPath g n b.path h.last) first h.leads) h.final)

  ascends_paths : (paths : List (WeightedPath N)) → WordsAscend (map word_of_path paths) → Ascends paths
  ascends_paths [] h = tt
  ascends_paths (a ∷ paths) h = ((λ b there. path_cmp_word a b ∙ h.0 (word_of_path b) (map_Has word_of_path paths b there)), ascends_paths paths h.1)

  pub first_paths : (n : ℕ) (words : List WeightedWord) → AreFirstWords kind (path_words g dist) start n words → (paths : List (WeightedPath N)) × IsFirst kind g n paths × (map word_of_path paths ≡ words)
  first_paths n words first =
      let made = paths_of words first.says in
      let same = made.1.same in
      let long : length made.0 ≡ length words = sym (length-map made.0 word_of_path) ∙ ap length same in (
        made.0,
        record {
          few = omega (arith, long, first.few);
          ascends = ascends_paths made.0 (subst WordsAscend (sym same) first.ascends);
          successful = made.1.successful;
          others = λ b h. by made.0 made.1 long b h (first.others (word_of_path b) (success_says b h));
        },
        same,
      )
    where
      by : (paths : List (WeightedPath N)) → ArePathsOf words paths → length paths ≡ length words → (b : WeightedPath N) → IsSuccessful kind g b.path b.weight → Has words (word_of_path b) ⊎ ((length words ≡ n) × ((a : WeightedWord) → Has words a → word_cmp a (word_of_path b) ≡ Less))
          → Has paths b ⊎ ((length paths ≡ n) × ((a : WeightedPath N) → Has paths a → path_cmp a b ≡ Less))
      by paths made long b h (inl here) =
          let from = Has-map word_of_path paths (word_of_path b) (subst (λ (ws : List WeightedWord). Has ws (word_of_path b)) (sym made.same) here) in
          inl (subst (λ (p : WeightedPath N). Has paths p) (one_path kind g from.0 b (made.successful from.0 from.1) h (ap (λ (w : WeightedWord). w.word) from.2) (ap (λ (w : WeightedWord). w.weight) from.2)) from.1)
      by paths made long b h (inr (full, before)) =
          inr (long ∙ full, λ a there. path_cmp_word a b ∙ before (word_of_path a) (subst (λ (ws : List WeightedWord). Has ws (word_of_path a)) made.same (map_Has word_of_path paths a there)))
