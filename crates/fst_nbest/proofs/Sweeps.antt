-- What is ahead of the states of a machine, step by step.
use Rattle.std.proofs.Common.{◌≡◌, ◌⊎◌, inl, inr, ℕ, ◌+◌, ◌*◌, ◌<◌, ◌≤◌, zero, suc, true, List, [], ◌∷◌, ◌++◌, Some, length, map, get_or, set, slice_get, refl, sym, ap, subst, ◌∙◌, arith, ltb-true, ltb-false, lt-ltb, nat_lt, replicate}
use Rattle.std.proofs.Common.{Less}
use Rattle.std.specs.List.{All}
use Rattle.std.specs.Option.{option_map}
use Rattle.std.proofs.lemmas.Bool.{cases_eq, cases_lt}
use Rattle.std.proofs.lemmas.List.{get_or-set_same, get_or-set_other, get_or_default, get_or_past, length-map, length-set}
use Rattle.std.proofs.lemmas.Option.{same_Some, slice_get_within}
use Rattle.fst_semiring.specs.Cost.{Cost, best, finite, infinite, cost_cmp, plus}
use Rattle.fst_semiring.specs.declared.arc_type.ArcType.{ArcType}
use Rattle.fst_semiring.specs.Semiring.{cancels, one_of, times, IsCost, Within}
use Rattle.fst_semiring.proofs.Laws.{one_times, times_assoc, times_comm, times_one, times_zero}
use Rattle.fst_semiring.proofs.Order.{plus_less, plus_same}
use Rattle.fst_semiring.proofs.Ranges.{Within-more, Within-times}
use Rattle.fst_machine.specs.Cycles.{IsImprovingCycle, IsUseful}
use Rattle.fst_machine.specs.Distance.{Finishes, IsFinalDistance}
use Rattle.fst_machine.specs.Graph.{Graph, graph_of}
use Rattle.fst_machine.specs.Letters.{product}
use Rattle.fst_machine.specs.Machine.{Arc, IsMachine, Machine, valued, valued_arc}
use Rattle.fst_machine.specs.Paths.{Transition, IsPath, letters}
use Rattle.fst_machine.proofs.Arcs.{at_mapped}
use Rattle.fst_machine.proofs.Letters.{letters-append, product-append}
use Rattle.fst_machine.proofs.PathParts.{IsPath-append}
use Rattle.fst_search.proofs.Links.{arcs_in_graph}
use Rattle.fst_search.proofs.MachineHops.{arc_good}
use Rattle.fst_nbest.specs.Counts.{count_of, uncounted}
use Rattle.fst_nbest.specs.declared.sweeping.Near.{Near}
use Rattle.fst_nbest.specs.PathWords.{AreDistances, HasSolidArcs, IsCount, path_words}
use Rattle.fst_nbest.specs.Ready.{IsReady, count_in, dist_in, most_distance}
use Rattle.fst_nbest.specs.Sweep.{BeginsBelow, Ends, IsAheadBelow, IsNear, IsNearBelow, IsSwept}
use Rattle.fst_nbest.specs.Words.{NoLess, Says}
use Rattle.fst_nbest.proofs.Counted.{item_at}
use Rattle.fst_nbest.proofs.Gathered.{arcs_length, arcs_read}
use Rattle.fst_nbest.proofs.PathWords.{not_zero, path_says, reaches, says_path}
use Rattle.fst_nbest.proofs.Ranks.{NoLess-suc, NoLess-trans, cost_itself, cost_less_trans, less_times}

-- a value is Zero or it is not
zero_or_not : (v : Cost) → (v ≡ infinite) ⊎ (v ≡ infinite → ⊥)
zero_or_not best = inr (λ e. cc)
zero_or_not (finite a b) = inr (λ e. cc)
zero_or_not infinite = inl refl

-- Zero is better than nothing
zero_less : (w : Cost) → cost_cmp infinite w ≡ Less → ⊥
zero_less best e = cc
zero_less (finite a b) e = cc
zero_less infinite e = cc

module _ {N : Type 0} (kind : ArcType) (g : Graph N) where
  -- before its arcs, a name has its final weight ahead
  pub near_begins : (q : N) → IsNearBelow kind g 0 q (g.final q) 0
  near_begins q = record {
    some = λ final. record { path = []; last = q; leads = refl; final = final; weight = sym (one_times kind (g.final q)); long = refl };
    least = least;
  }
    where
      least : (path : List (Transition N)) (last : N) → BeginsBelow 0 path → IsPath g q path last → (g.final last ≡ infinite → ⊥) → NoLess (g.final q) 0 (times kind (product kind (letters path)) (g.final last)) (length path)
      least [] last begins leads final = inr (ap g.final leads ∙ sym (one_times kind (g.final last)), omega arith)
      least (t ∷ path) last begins leads final = absurd (omega (arith, begins))

  -- a further arc
  pub near_further : cancels kind ≡ true → (k : ℕ) (q : N) (v w : Cost) (c d : ℕ) (a : Arc Cost N) (u : Cost) (n : ℕ) → IsNearBelow kind g k q v c → slice_get (g.arcs q) k ≡ Some a → IsCost kind a.weight → (a.weight ≡ infinite → ⊥) → IsNear kind g a.next u n
      → ((w ≡ v) × (d ≡ c)) ⊎ ((w ≡ times kind a.weight u) × (d ≡ suc n)) → NoLess w d v c → NoLess w d (times kind a.weight u) (suc n) → IsNearBelow kind g (k + 1) q w d
  near_further cancel k q v w c d a u n before at cost solid next picks first second = record { some = some picks; least = least }
    where
      some : ((w ≡ v) × (d ≡ c)) ⊎ ((w ≡ times kind a.weight u) × (d ≡ suc n)) → (w ≡ infinite → ⊥) → Ends kind g q w d
      some (inl e) solid_w =
          let r = before.some (λ none. solid_w (e.0 ∙ none)) in
          record { path = r.path; last = r.last; leads = r.leads; final = r.final; weight = e.0 ∙ r.weight; long = r.long ∙ sym e.1 }
      some (inr e) solid_w =
          let r = (next 0).some (λ none. solid_w (e.0 ∙ (ap (times kind a.weight) none ∙ times_zero kind a.weight))) in
          let t : Transition N = record { state = q; place = k; arc = a } in
          record {
            path = t ∷ r.path;
            last = r.last;
            leads = ((refl, at), r.leads);
            final = r.final;
            weight = e.0 ∙ (ap (times kind a.weight) r.weight ∙ sym (times_assoc kind a.weight (product kind (letters r.path)) (g.final r.last)));
            long = ap suc r.long ∙ sym e.1;
          }

      least : (path : List (Transition N)) (last : N) → BeginsBelow (k + 1) path → IsPath g q path last → (g.final last ≡ infinite → ⊥) → NoLess w d (times kind (product kind (letters path)) (g.final last)) (length path)
      least [] last begins leads final = NoLess-trans w v (times kind (one_of kind) (g.final last)) d c 0 first (before.least [] last tt leads final)
      least (t ∷ path) last begins leads final = by (cases_eq t.place k)
        where
          by : (t.place ≡ k) ⊎ (t.place ≡ k → ⊥) → NoLess w d (times kind (product kind (letters (t ∷ path))) (g.final last)) (suc (length path))
          by (inl e) =
              let same : a ≡ t.arc = same_Some a t.arc (sym at ∙ (ap (slice_get (g.arcs q)) (sym e) ∙ leads.0.1)) in
              let rest = times kind (product kind (letters path)) (g.final last) in
              let ahead : NoLess u n rest (length path) = (next (suc (bound path))).least path last (below path) (subst (λ (b : Arc Cost N). IsPath g b.next path last) (sym same) leads.1) final in
              let whole : NoLess (times kind a.weight u) (suc n) (times kind a.weight rest) (suc (length path)) = NoLess-suc kind a.weight u rest n (length path) cancel cost solid ahead in
              let is : times kind a.weight rest ≡ times kind (product kind (letters (t ∷ path))) (g.final last) =
              ap (λ (b : Arc Cost N). times kind b.weight rest) same ∙ sym (times_assoc kind t.arc.weight (product kind (letters path)) (g.final last)) in
              subst (λ (z : Cost). NoLess w d z (suc (length path))) is (NoLess-trans w (times kind a.weight u) (times kind a.weight rest) d (suc n) (suc (length path)) second whole)
            where
              bound : List (Transition N) → ℕ
              bound [] = 0
              bound (s ∷ path) = s.place

              below : (path : List (Transition N)) → BeginsBelow (suc (bound path)) path
              below [] = tt
              below (s ∷ path) = omega arith
          by (inr other) = NoLess-trans w v _ d c _ first (before.least (t ∷ path) last (let l : (t.place ≡ k → ⊥) = other in omega (arith, begins, l)) leads final)

  -- with all its arcs
  pub near_all : (k : ℕ) (q : N) (v : Cost) (c : ℕ) → IsNearBelow kind g k q v c → length (g.arcs q) ≤ k → IsNear kind g q v c
  near_all k q v c near all j = record { some = near.some; least = λ path last begins leads final. near.least path last (within path last leads) leads final }
    where
      within : (path : List (Transition N)) (last : N) → IsPath g q path last → BeginsBelow k path
      within [] last leads = tt
      within (t ∷ path) last leads = let low = slice_get_within (g.arcs q) t.place t.arc leads.0.1 in omega (arith, low, all)

  module _ (firm : HasSolidArcs kind g) where
    -- what is ahead is the distance
    pub near_distance : (q : N) (v : Cost) (c : ℕ) → IsNear kind g q v c → IsFinalDistance kind g q v
    near_distance q v c near = by (zero_or_not v)
      where
        ahead : (path : List (Transition N)) (last : N) → IsPath g q path last → (g.final last ≡ infinite → ⊥) → NoLess v c (times kind (product kind (letters path)) (g.final last)) (length path)
        ahead [] last leads final = (near 0).least [] last tt leads final
        ahead (t ∷ path) last leads final = (near (suc t.place)).least (t ∷ path) last (omega arith) leads final

        kept : (w : Cost) (n : ℕ) → NoLess v c w n → plus v w ≡ v
        kept w n (inl less) = plus_less v w less
        kept w n (inr same) = subst (λ (z : Cost). plus v z ≡ v) same.0 (plus_same v)

        nothing : v ≡ infinite → (w : Cost) → Finishes kind g q w → ⊥
        nothing is w done = by_rank (ahead done.path done.last done.leads done.final)
          where
            whole : Cost
            whole = times kind (product kind (letters done.path)) (g.final done.last)

            by_rank : NoLess v c whole (length done.path) → ⊥
            by_rank (inl less) = zero_less whole (subst (λ (z : Cost). cost_cmp z whole ≡ Less) is less)
            by_rank (inr same) = not_zero kind g (λ n. v) firm done.path done.last q done.leads done.final (sym same.0 ∙ is)

        by : (v ≡ infinite) ⊎ (v ≡ infinite → ⊥) → IsFinalDistance kind g q v
        by (inl is) = inl (nothing is, is)
        by (inr solid) =
            let r = (near 0).some solid in
            inr (
              record { last = r.last; path = r.path; leads = r.leads; final = r.final; weight = r.weight },
              λ w done. kept w (length done.path) (subst (λ (z : Cost). NoLess v c z (length done.path)) (sym done.weight) (ahead done.path done.last done.leads done.final)),
            )

    -- and no cycle is better than One where something is ahead
    pub near_no_cycle : cancels kind ≡ true → (q : N) (v : Cost) (c : ℕ) → IsNear kind g q v c → IsCost kind v → (v ≡ infinite → ⊥) → (cycle : List (Transition N)) → IsImprovingCycle g kind q cycle → ⊥
    near_no_cycle cancel q v c near cost solid cycle improves = by_rank (ahead (cycle ++ r.path) r.last (IsPath-append g cycle r.path q q r.last improves.leads r.leads) r.final)
      where
        r : Ends kind g q v c
        r = (near 0).some solid

        ahead : (path : List (Transition N)) (last : N) → IsPath g q path last → (g.final last ≡ infinite → ⊥) → NoLess v c (times kind (product kind (letters path)) (g.final last)) (length path)
        ahead [] last leads final = (near 0).least [] last tt leads final
        ahead (t ∷ path) last leads final = (near (suc t.place)).least (t ∷ path) last (omega arith) leads final

        round : Cost
        round = product kind (letters cycle)

        whole : Cost
        whole = times kind (product kind (letters (cycle ++ r.path))) (g.final r.last)

        is : whole ≡ times kind v round
        is =
            ap (λ (z : Cost). times kind z (g.final r.last)) (ap (product kind) (letters-append cycle r.path) ∙ product-append kind (letters cycle) (letters r.path))
            ∙ (times_assoc kind round (product kind (letters r.path)) (g.final r.last) ∙ (ap (times kind round) (sym r.weight) ∙ times_comm kind round v))

        better : cost_cmp whole v ≡ Less
        better = subst (λ (z : Cost). cost_cmp whole z ≡ Less) (times_one kind v) (subst (λ (z : Cost). cost_cmp z (times kind v (one_of kind)) ≡ Less) (sym is) (less_times kind v round (one_of kind) cancel cost solid improves.better))

        by_rank : NoLess v c whole (length (cycle ++ r.path)) → ⊥
        by_rank (inl less) = cost_itself v (cost_less_trans v whole v less better)
        by_rank (inr same) = cost_itself v (subst (λ (z : Cost). cost_cmp z v ≡ Less) (sym same.0) better)

module _ {V D : Type 0} (kind : ArcType) (value : V → Cost) (wide : D → Cost) (m : Machine V) where
  -- nothing is swept yet
  pub sweep_begins : (dist : List D) (count : List ℕ) → length dist ≡ length m.states → length count ≡ length m.states → ((q : ℕ) → dist_in wide dist q ≡ infinite) → ((q : ℕ) → count_of count q ≡ uncounted) → IsSwept kind value wide m 0 dist count
  sweep_begins dist count dist_size count_size none blank = record {
    dist_size = dist_size;
    count_size = count_size;
    near = λ q done. absurd (omega (arith, done, blank q));
    along = λ q k a done there. absurd (omega (arith, done, blank q));
    others = λ q past. none q;
    few = λ q done. absurd (omega (arith, done, blank q));
    numbers = λ q. subst (Within 0) (sym (none q)) tt;
    kinds = λ q. subst (IsCost kind) (sym (none q)) (zero_kind kind);
  }
    where
      zero_kind : (k : ArcType) → IsCost k infinite
      zero_kind k = tt

  module _ (steps : ℕ) (dist : List D) (count : List ℕ) (s : IsSwept kind value wide m steps dist count) where
    -- before its arcs, a state has its final weight ahead
    pub ahead_begins : (q : ℕ) (v : Cost) → (graph_of (valued value m)).final q ≡ v → Within 1180591620717411303424 v → IsCost kind v → IsAheadBelow kind value m steps count 0 q v 0
    ahead_begins q v is range cost = record {
      near = subst (λ (z : Cost). IsNearBelow kind (graph_of (valued value m)) 0 q z 0) is (near_begins kind (graph_of (valued value m)) q);
      onward = λ j a low there. absurd (omega (arith, low));
      few = omega arith;
      number = Within-more 1180591620717411303424 (steps * 1180591620717411303424 + 1180591620717411303424) v (omega arith) range;
      kind_of = cost;
    }

    -- a further arc
    pub ahead_further : cancels kind ≡ true → HasSolidArcs kind (graph_of (valued value m)) → (k q : ℕ) (v w : Cost) (c d : ℕ) (a : Arc Cost ℕ) → IsAheadBelow kind value m steps count k q v c → slice_get ((graph_of (valued value m)).arcs q) k ≡ Some a
        → count_of count a.next < uncounted → Within 1180591620717411303424 a.weight → IsCost kind w
        → ((w ≡ v) × (d ≡ c)) ⊎ ((w ≡ times kind a.weight (dist_in wide dist a.next)) × (d ≡ suc (count_of count a.next)))
        → NoLess w d v c → NoLess w d (times kind a.weight (dist_in wide dist a.next)) (suc (count_of count a.next)) → IsAheadBelow kind value m steps count (k + 1) q w d
    ahead_further cancel firm k q v w c d a before at done range cost picks first second = record {
      near = near_further kind g cancel k q v w c d a (dist_in wide dist a.next) (count_of count a.next) before.near at (firm.cost q k a at) (firm.solid q k a at) (s.near a.next done) picks first second;
      onward = onward;
      few = few picks;
      number = number picks;
      kind_of = cost;
    }
      where
        g : Graph ℕ
        g = graph_of (valued value m)

        onward : (j : ℕ) (b : Arc Cost ℕ) → j < k + 1 → slice_get (g.arcs q) j ≡ Some b → count_of count b.next < uncounted
        onward j b low there = by (cases_eq j k)
          where
            by : (j ≡ k) ⊎ (j ≡ k → ⊥) → count_of count b.next < uncounted
            by (inl e) = subst (λ (x : Arc Cost ℕ). count_of count x.next < uncounted) (same_Some a b (sym at ∙ (ap (slice_get (g.arcs q)) (sym e) ∙ there))) done
            by (inr other) = before.onward j b (let l : (j ≡ k → ⊥) = other in omega (arith, low, l)) there

        few : ((w ≡ v) × (d ≡ c)) ⊎ ((w ≡ times kind a.weight (dist_in wide dist a.next)) × (d ≡ suc (count_of count a.next))) → d ≤ steps
        few (inl e) = omega (arith, e.1, before.few)
        few (inr e) = let low = s.few a.next done in omega (arith, e.1, low)

        number : ((w ≡ v) × (d ≡ c)) ⊎ ((w ≡ times kind a.weight (dist_in wide dist a.next)) × (d ≡ suc (count_of count a.next))) → Within (steps * 1180591620717411303424 + 1180591620717411303424) w
        number (inl e) = subst (Within (steps * 1180591620717411303424 + 1180591620717411303424)) (sym e.0) before.number
        number (inr e) = subst (Within (steps * 1180591620717411303424 + 1180591620717411303424)) (sym e.0)
            (Within-more (1180591620717411303424 + steps * 1180591620717411303424) (steps * 1180591620717411303424 + 1180591620717411303424) _ (omega arith) (Within-times kind 1180591620717411303424 (steps * 1180591620717411303424) a.weight (dist_in wide dist a.next) range (s.numbers a.next)))

    -- a state that is left out
    pub sweep_waits : IsSwept kind value wide m (steps + 1) dist count
    sweep_waits = record {
      dist_size = s.dist_size;
      count_size = s.count_size;
      near = s.near;
      along = s.along;
      others = s.others;
      few = λ p done. let before = s.few p done in omega (arith, before);
      numbers = λ p. Within-more (steps * 1180591620717411303424) ((steps + 1) * 1180591620717411303424) (dist_in wide dist p) (omega arith) (s.numbers p);
      kinds = s.kinds;
    }

    -- a further state
    pub sweep_further : (q : ℕ) (x : D) (c : ℕ) → q < length m.states → steps < uncounted → IsAheadBelow kind value m steps count (length ((graph_of (valued value m)).arcs q)) q (wide x) c → IsSwept kind value wide m (steps + 1) (set dist q x) (set count q c)
    sweep_further q x c low small h = record {
      dist_size = length-set dist q x ∙ s.dist_size;
      count_size = length-set count q c ∙ s.count_size;
      near = λ p done. near p done (cases_eq p q);
      along = λ p k a done there. along p k a done there (cases_eq p q);
      others = λ p blank. others p blank (cases_eq p q);
      few = λ p done. few p done (cases_eq p q);
      numbers = λ p. numbers p (cases_eq p q);
      kinds = λ p. kinds p (cases_eq p q);
    }
      where
        g : Graph ℕ
        g = graph_of (valued value m)

        map_set : (xs : List D) (i : ℕ) → map wide (set xs i x) ≡ set (map wide xs) i (wide x)
        map_set [] zero = refl
        map_set [] (suc i) = refl
        map_set (y ∷ xs) zero = refl
        map_set (y ∷ xs) (suc i) = ap (λ (l : List Cost). wide y ∷ l) (map_set xs i)

        dist_here : dist_in wide (set dist q x) q ≡ wide x
        dist_here = ap (λ (l : List Cost). get_or l q infinite) (map_set dist q) ∙ get_or-set_same (map wide dist) q (wide x) infinite (let n = length-map dist wide in let e = s.dist_size in omega (arith, n, e, low))

        dist_other : (p : ℕ) → (p ≡ q → ⊥) → dist_in wide (set dist q x) p ≡ dist_in wide dist p
        dist_other p other = ap (λ (l : List Cost). get_or l p infinite) (map_set dist q) ∙ get_or-set_other (map wide dist) q p (wide x) infinite other

        count_here : count_of (set count q c) q ≡ c
        count_here = get_or-set_same count q c uncounted (let e = s.count_size in omega (arith, e, low))

        count_other : (p : ℕ) → (p ≡ q → ⊥) → count_of (set count q c) p ≡ count_of count p
        count_other p other = get_or-set_other count q p c uncounted other

        -- what was swept stays so
        still : (p : ℕ) → count_of count p < uncounted → count_of (set count q c) p < uncounted
        still p done = by (cases_eq p q)
          where
            by : (p ≡ q) ⊎ (p ≡ q → ⊥) → count_of (set count q c) p < uncounted
            by (inl e) = subst (λ (z : ℕ). count_of (set count q c) z < uncounted) (sym e) (let few = h.few in omega (arith, count_here, few, small))
            by (inr other) = let same = count_other p other in omega (arith, same, done)

        near : (p : ℕ) → count_of (set count q c) p < uncounted → (p ≡ q) ⊎ (p ≡ q → ⊥) → IsNear kind g p (dist_in wide (set dist q x) p) (count_of (set count q c) p)
        near p done (inl e) =
            subst (λ (z : ℕ). IsNear kind g z (dist_in wide (set dist q x) z) (count_of (set count q c) z)) (sym e)
            (subst (λ (v : Cost). IsNear kind g q v (count_of (set count q c) q)) (sym dist_here) (subst (λ (n : ℕ). IsNear kind g q (wide x) n) (sym count_here) (near_all kind g (length (g.arcs q)) q (wide x) c h.near (omega arith))))
        near p done (inr other) =
            subst (λ (v : Cost). IsNear kind g p v (count_of (set count q c) p)) (sym (dist_other p other))
            (subst (λ (n : ℕ). IsNear kind g p (dist_in wide dist p) n) (sym (count_other p other)) (s.near p (let same = count_other p other in omega (arith, same, done))))

        along : (p k : ℕ) (a : Arc Cost ℕ) → count_of (set count q c) p < uncounted → slice_get (g.arcs p) k ≡ Some a → (p ≡ q) ⊎ (p ≡ q → ⊥) → count_of (set count q c) a.next < uncounted
        along p k a done there (inl e) =
            let here : slice_get (g.arcs q) k ≡ Some a = ap (λ (z : ℕ). slice_get (g.arcs z) k) (sym e) ∙ there in
            still a.next (h.onward k a (slice_get_within (g.arcs q) k a here) here)
        along p k a done there (inr other) = still a.next (s.along p k a (let same = count_other p other in omega (arith, same, done)) there)

        others : (p : ℕ) → uncounted ≤ count_of (set count q c) p → (p ≡ q) ⊎ (p ≡ q → ⊥) → dist_in wide (set dist q x) p ≡ infinite
        others p blank (inl e) = absurd (let few = h.few in let here : count_of (set count q c) p ≡ c = ap (count_of (set count q c)) e ∙ count_here in omega (arith, here, few, small, blank))
        others p blank (inr other) = dist_other p other ∙ s.others p (let same = count_other p other in omega (arith, same, blank))

        few : (p : ℕ) → count_of (set count q c) p < uncounted → (p ≡ q) ⊎ (p ≡ q → ⊥) → count_of (set count q c) p < steps + 1
        few p done (inl e) = let few = h.few in let here : count_of (set count q c) p ≡ c = ap (count_of (set count q c)) e ∙ count_here in omega (arith, here, few)
        few p done (inr other) = let same = count_other p other in let before = s.few p (omega (arith, same, done)) in omega (arith, same, before)

        numbers : (p : ℕ) → (p ≡ q) ⊎ (p ≡ q → ⊥) → Within ((steps + 1) * 1180591620717411303424) (dist_in wide (set dist q x) p)
        numbers p (inl e) = subst (λ (z : ℕ). Within ((steps + 1) * 1180591620717411303424) (dist_in wide (set dist q x) z)) (sym e)
            (subst (Within ((steps + 1) * 1180591620717411303424)) (sym dist_here) (Within-more (steps * 1180591620717411303424 + 1180591620717411303424) ((steps + 1) * 1180591620717411303424) (wide x) (omega arith) h.number))
        numbers p (inr other) = subst (Within ((steps + 1) * 1180591620717411303424)) (sym (dist_other p other))
            (Within-more (steps * 1180591620717411303424) ((steps + 1) * 1180591620717411303424) (dist_in wide dist p) (omega arith) (s.numbers p))

        kinds : (p : ℕ) → (p ≡ q) ⊎ (p ≡ q → ⊥) → IsCost kind (dist_in wide (set dist q x) p)
        kinds p (inl e) = subst (λ (z : ℕ). IsCost kind (dist_in wide (set dist q x) z)) (sym e) (subst (IsCost kind) (sym dist_here) h.kind_of)
        kinds p (inr other) = subst (IsCost kind) (sym (dist_other p other)) (s.kinds p)

    module _ (known : V → Type 0) (firm : HasSolidArcs kind (graph_of (valued value m))) (started : (q : ℕ) → m.start ≡ Some q → count_of count q < uncounted) where
      -- the distances that a sweep gives
      abbrev swept_exact : AreDistances kind (graph_of (valued value m)) (dist_in wide dist)
      swept_exact = record {
        kept = λ q. nat_lt (count_of count q) uncounted;
        start = λ q is. lt-ltb (count_of count q) uncounted (started q is);
        along = λ q k a kept there. lt-ltb (count_of count a.next) uncounted (s.along q k a (ltb-true (count_of count q) uncounted kept) there);
        here = λ q kept. near_distance kind (graph_of (valued value m)) firm q (dist_in wide dist q) (count_of count q) (s.near q (ltb-true (count_of count q) uncounted kept));
        others = λ q apart. s.others q (ltb-false (count_of count q) uncounted apart);
      }

      -- a state at a distance that is not Zero was swept
      swept_some : (q : ℕ) → (dist_in wide dist q ≡ infinite → ⊥) → count_of count q < uncounted
      swept_some q some = by (cases_lt (count_of count q) uncounted)
        where
          by : (count_of count q < uncounted) ⊎ (uncounted ≤ count_of count q) → count_of count q < uncounted
          by (inl done) = done
          by (inr past) = absurd (some (s.others q past))

      -- what a sweep gives
      pub swept_ready : steps ≤ 4194304 → All (λ t. All (λ a. known a.weight) t.arcs) m.states → All (λ t. known t.final) m.states → IsReady kind value wide known m dist count
      swept_ready few weights finals = record {
        measured = record {
          dist_size = s.dist_size;
          exact = swept_exact;
          firm = firm;
          numbers = λ q. Within-more (steps * 1180591620717411303424) most_distance (dist_in wide dist q) (omega (arith, few)) (s.numbers q);
          kinds = s.kinds;
          weights = weights;
          finals = finals;
        };
        count_size = s.count_size;
        counts = counts;
      }
        where
          g : Graph ℕ
          g = graph_of (valued value m)

          counts : (q : ℕ) → (dist_in wide dist q ≡ infinite → ⊥) → IsCount kind (path_words g (dist_in wide dist)) q (dist_in wide dist q) (count_in count q)
          counts q some =
              let done = swept_some q some in
              let low : q < length count = by (cases_lt q (length count)) done in
              let read : count_of count q ≡ count_in count q = get_or_default count q uncounted 0 low in
              let near = s.near q done in
              let r = (near 0).some some in
              record {
                word = map (λ (t : Transition ℕ). t.place) r.path;
                says = subst (λ (v : Cost). Says kind (path_words g (dist_in wide dist)) q (map (λ (t : Transition ℕ). t.place) r.path) v) (sym r.weight)
                    (path_says kind g (dist_in wide dist) swept_exact firm q r.last r.path (lt-ltb (count_of count q) uncounted done) r.leads r.final);
                long = length-map r.path (λ (t : Transition ℕ). t.place) ∙ (r.long ∙ read);
                least = λ other says. least near other says read;
              }
            where
              by : (q < length count) ⊎ (length count ≤ q) → count_of count q < uncounted → q < length count
              by (inl low) done = low
              by (inr past) done = absurd (let e = get_or_past count q uncounted past in omega (arith, e, done))

              least : IsNear kind g q (dist_in wide dist q) (count_of count q) → (other : List ℕ) → Says kind (path_words g (dist_in wide dist)) q other (dist_in wide dist q) → count_of count q ≡ count_in count q → count_in count q ≤ length other
              least near other says read =
                  let p = says_path kind g (dist_in wide dist) q other (dist_in wide dist q) says in
                  let long : length p.0 ≡ length other = sym (length-map p.0 (λ (t : Transition ℕ). t.place)) ∙ ap length p.4 in
                  by_rank (subst (λ (z : Cost). NoLess (dist_in wide dist q) (count_of count q) z (length p.0)) (sym p.5) (ahead p.0 p.1 p.2 p.3)) long
                where
                  ahead : (path : List (Transition ℕ)) (last : ℕ) → IsPath g q path last → (g.final last ≡ infinite → ⊥) → NoLess (dist_in wide dist q) (count_of count q) (times kind (product kind (letters path)) (g.final last)) (length path)
                  ahead [] last leads final = (near 0).least [] last tt leads final
                  ahead (t ∷ path) last leads final = (near (suc t.place)).least (t ∷ path) last (omega arith) leads final

                  by_rank : {n : ℕ} → NoLess (dist_in wide dist q) (count_of count q) (dist_in wide dist q) n → n ≡ length other → count_in count q ≤ length other
                  by_rank (inl less) long = absurd (cost_itself (dist_in wide dist q) less)
                  by_rank (inr same) long = let low = same.1 in omega (arith, low, long, read)

      -- no cycle is better than One
      pub swept_none : cancels kind ≡ true → (p : ℕ) (cycle : List (Transition ℕ)) → IsUseful (graph_of (valued value m)) p → IsImprovingCycle (graph_of (valued value m)) kind p cycle → ⊥
      swept_none cancel p cycle useful improves =
          near_no_cycle kind g firm cancel p (dist_in wide dist p) (count_of count p) (s.near p done) (s.kinds p)
          (reaches kind g (dist_in wide dist) swept_exact firm p useful.1.last useful.1.path (lt-ltb (count_of count p) uncounted done) useful.1.leads useful.1.final) cycle improves
        where
          g : Graph ℕ
          g = graph_of (valued value m)

          onward : (path : List (Transition ℕ)) (q last : ℕ) → IsPath g q path last → count_of count q < uncounted → count_of count last < uncounted
          onward [] q last leads there = subst (λ (z : ℕ). count_of count z < uncounted) leads there
          onward (t ∷ path) q last leads there = onward path t.arc.next last leads.1 (s.along q t.place t.arc there leads.0.1)

          done : count_of count p < uncounted
          done = onward useful.0.path useful.0.first p useful.0.leads (started useful.0.first useful.0.starts)

-- ---- what the program reads

-- an arc that was read is one of the graph
pub arc_at : {V : Type 0} (value : V → Cost) (m : Machine V) (q : ℕ) (arcs : List (Arc V ℕ)) → option_map (λ s. s.arcs) (slice_get m.states q) ≡ Some arcs → (k : ℕ) (x : Arc V ℕ) → slice_get arcs k ≡ Some x → slice_get ((graph_of (valued value m)).arcs q) k ≡ Some (valued_arc value x)
arc_at value m q arcs read k x there =
    ap (λ (l : List (Arc Cost ℕ)). slice_get l k) (arcs_in_graph value m.states q ∙ ap (λ (l : List (Arc _ ℕ)). map (valued_arc value) l) (arcs_read m.states q arcs read)) ∙ at_mapped (valued_arc value) arcs k x there

-- one of two is picked
pub picked : {D : Type 0} (wide : D → Cost) (a b r : Near D) (u : Cost) (n : ℕ) → wide b.total ≡ u → b.arcs ≡ n → (r ≡ a) ⊎ (r ≡ b) → ((wide r.total ≡ wide a.total) × (r.arcs ≡ a.arcs)) ⊎ ((wide r.total ≡ u) × (r.arcs ≡ n))
picked wide a b r u n total arcs (inl e) = inl (ap (λ (x : Near _). wide x.total) e, ap (λ (x : Near _). x.arcs) e)
picked wide a b r u n total arcs (inr e) = inr (ap (λ (x : Near _). wide x.total) e ∙ total, ap (λ (x : Near _). x.arcs) e ∙ arcs)

-- and is no worse than the second
pub second_is : {D : Type 0} (wide : D → Cost) (b r : Near D) (u : Cost) (n : ℕ) → wide b.total ≡ u → b.arcs ≡ n → NoLess (wide r.total) r.arcs (wide b.total) b.arcs → NoLess (wide r.total) r.arcs u n
second_is wide b r u n total arcs less = subst (λ (v : Cost). NoLess (wide r.total) r.arcs v n) total (subst (λ (k : ℕ). NoLess (wide r.total) r.arcs (wide b.total) k) arcs less)

-- all arcs
pub ahead_all : {V D : Type 0} (kind : ArcType) (value : V → Cost) (wide : D → Cost) (m : Machine V) (steps : ℕ) (dist : List D) (count : List ℕ) → IsSwept kind value wide m steps dist count → (q k : ℕ) (v : Cost) (c : ℕ) (arcs : List (Arc V ℕ)) → option_map (λ s. s.arcs) (slice_get m.states q) ≡ Some arcs
    → IsAheadBelow kind value m steps count k q v c → length arcs ≤ k → IsAheadBelow kind value m steps count (length ((graph_of (valued value m)).arcs q)) q v c
ahead_all kind value wide m steps dist count s q k v c arcs read h all =
    let many = arcs_length value m q arcs read in
    record {
      near = near_all kind (graph_of (valued value m)) k q v c h.near (omega (arith, many, all)) (length ((graph_of (valued value m)).arcs q));
      onward = λ j a low there. h.onward j a (omega (arith, low, many, all)) there;
      few = h.few;
      number = h.number;
      kind_of = h.kind_of;
    }

-- one that was read leads to a state
pub low_arc : {V : Type 0} (value : V → Cost) (m : Machine V) → IsMachine value m → (q : ℕ) (arcs : List (Arc V ℕ)) → option_map (λ s. s.arcs) (slice_get m.states q) ≡ Some arcs → (k : ℕ) (d : Arc V ℕ) → k < length arcs → (get_or arcs k d).next < length m.states
low_arc value m good q arcs read k d low =
    let x = get_or arcs k d in
    (arc_good value m good q k (valued_arc value x) (arc_at value m q arcs read k x (item_at arcs k x low (get_or_default arcs k d x low)))).1

-- Zero for one more state
pub zeros_more : {D : Type 0} (wide : D → Cost) (xs new : List D) (x : D) → new ≡ xs ++ x ∷ [] → wide x ≡ infinite → ((q : ℕ) → dist_in wide xs q ≡ infinite) → (q : ℕ) → dist_in wide new q ≡ infinite
zeros_more {D} wide xs new x is e none q = ap (λ (l : List D). dist_in wide l q) is ∙ all xs none q
  where
    all : (ys : List D) → ((p : ℕ) → dist_in wide ys p ≡ infinite) → (p : ℕ) → dist_in wide (ys ++ x ∷ []) p ≡ infinite
    all [] h zero = e
    all [] h (suc p) = refl
    all (y ∷ ys) h zero = h zero
    all (y ∷ ys) h (suc p) = all ys (λ r. h (suc r)) p

-- no state is counted in a blank list
pub blank_counts : (n q : ℕ) → count_of (replicate n uncounted) q ≡ uncounted
blank_counts zero q = refl
blank_counts (suc n) zero = refl
blank_counts (suc n) (suc q) = blank_counts n q

-- no arc has weight Zero, and each has a weight of the arc type
pub firm_arcs : {V : Type 0} (kind : ArcType) (value : V → Cost) (m : Machine V) → IsMachine value m → ((q k : ℕ) (a : Arc Cost ℕ) → slice_get ((graph_of (valued value m)).arcs q) k ≡ Some a → IsCost kind a.weight) → HasSolidArcs kind (graph_of (valued value m))
firm_arcs kind value m good costs = record { solid = λ q k a there. (arc_good value m good q k a there).2; cost = costs }
