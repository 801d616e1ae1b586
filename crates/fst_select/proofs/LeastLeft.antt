-- The least count of the tight members of a prefix is that of the labels that are left.
use Rattle.std.proofs.Common.{◌≡◌, ◌≢◌, ◌⊎◌, inl, inr, ℕ, ◌+◌, ◌≤◌, true, false, true≢false, List, [], ◌∷◌, ◌++◌, Some, take, slice_get, refl, sym, ap, ap₂, subst, ◌∙◌, arith}
use Rattle.std.proofs.lemmas.Bool.{cases_Bool}
use Rattle.std.proofs.lemmas.List.{get_or_default, take_more}
use Rattle.std.proofs.lemmas.Option.{get_or_from_slice_get, slice_get_within}
use Rattle.fst_semiring.specs.Cost.{Cost, infinite, plus, worse}
use Rattle.fst_semiring.specs.declared.arc_type.ArcType.{ArcType}
use Rattle.fst_semiring.specs.declared.arc_type.ArcType.TheVariants.{Boolean, Tropical, MinMax, Lexicographic}
use Rattle.fst_semiring.specs.Semiring.{cancels, times}
use Rattle.fst_semiring.proofs.Order.{plus_antisym, plus_trans}
use Rattle.fst_machine.specs.BreadthFirst.{Has}
use Rattle.fst_machine.specs.Distance.{Finishes}
use Rattle.fst_machine.specs.Graph.{Graph, graph_of}
use Rattle.fst_machine.specs.Machine.{valued}
use Rattle.fst_machine.proofs.Elements.{Has-append_cases, Has-append_left, Has-append_right}
use Rattle.fst_determinize.specs.Subsets.{IsSubset, Member}
use Rattle.fst_determinize.specs.Ways.{best_by}
use Rattle.fst_determinize.proofs.Best.{Weighs, best_least, least_reached}
use Rattle.fst_determinize.proofs.Forms.{best_push}
use Rattle.fst_nbest.specs.Counts.{count_of, uncounted}
use Rattle.fst_nbest.specs.Ready.{count_in, dist_in}
use Rattle.fst_nbest.proofs.ClassLists.{not_cancelling}
use Rattle.fst_nbest.proofs.PathWords.{best_path}
use Rattle.fst_nbest.proofs.Worst.{worse_above, worse_above_right, worse_under}
use Rattle.fst_select.specs.Counting.{IsFewest, IsStateCount}
use Rattle.fst_select.specs.Keys.{IsShortest, best_total}
use Rattle.fst_select.specs.Outlook.{IsDue, IsLeastTight, IsOutlook, IsTight, OutlookAs}
use Rattle.fst_select.proofs.Countings.{count_cancelling, count_worst}
use Rattle.fst_select.proofs.StateCounts.{class_state_count, distant_low, far, not_zero_below, ready_counts}

-- members, with the one that follows
member_more : (members : List Member) (i : ℕ) (m : Member) → slice_get members i ≡ Some m → take (i + 1) members ≡ take i members ++ m ∷ []
member_more members i m at = take_more members i m (slice_get_within members i m at) ∙ ap (λ (n : Member). take i members ++ n ∷ []) (get_or_from_slice_get members i m m at)

-- the best total of members, with that of one more
pub total_more : (kind : ArcType) (ahead : ℕ → Cost) (by : Cost) (members : List Member) (i : ℕ) (m : Member) (so_far own new : Cost) → slice_get members i ≡ Some m
    → so_far ≡ best_total kind ahead by (take i members) → own ≡ times kind by (times kind m.residual (ahead m.state)) → new ≡ plus so_far own → new ≡ best_total kind ahead by (take (i + 1) members)
total_more kind ahead by members i m so_far own new at before made more =
    let weigh : Member → Cost = λ n. times kind by (times kind n.residual (ahead n.state)) in
    more ∙ (ap₂ plus before made ∙ (sym (best_push weigh (take i members) m) ∙ ap (best_by weigh) (sym (member_more members i m at))))

-- ---- the least count of tight members

module _ (kind : ArcType) (d : ℕ → Cost) (by total : Cost) (count : ℕ → ℕ) where
  module _ (members : List Member) (i : ℕ) (m : Member) (c : ℕ) (at : slice_get members i ≡ Some m) (before : IsLeastTight kind d by total count (take i members) c) where
    -- what holds of the first members and of the one that follows
    of_more : (P : Member → Type 0) → ((n : Member) → Has (take i members) n → P n) → P m → (n : Member) → Has (take (i + 1) members) n → P n
    of_more P old own n there = part (Has-append_cases (take i members) (m ∷ []) n (subst (λ (ns : List Member). Has ns n) (member_more members i m at) there))
      where
        part : Has (take i members) n ⊎ Has (m ∷ []) n → P n
        part (inl was) = old n was
        part (inr (inl e)) = subst P e own
        part (inr (inr none)) = absurd none

    one_of_more : (n : Member) → Has (take i members) n → Has (take (i + 1) members) n
    one_of_more n was = subst (λ (ns : List Member). Has ns n) (sym (member_more members i m at)) (Has-append_left (take i members) (m ∷ []) n was)

    last_of_more : Has (take (i + 1) members) m
    last_of_more = subst (λ (ns : List Member). Has ns m) (sym (member_more members i m at)) (Has-append_right (take i members) (m ∷ []) m (inl refl))

    still : (c ≡ 4294967295) ⊎ ((n : Member) × Has (take i members) n × IsTight kind d by total n × (count n.state ≡ c))
        → (c ≡ 4294967295) ⊎ ((n : Member) × Has (take (i + 1) members) n × IsTight kind d by total n × (count n.state ≡ c))
    still (inl full) = inl full
    still (inr (n, was, tight, is)) = inr (n, one_of_more n was, tight, is)

    -- one member more that is not tight
    pub tight_passed : (IsTight kind d by total m → ⊥) → IsLeastTight kind d by total count (take (i + 1) members) c
    tight_passed other = record {
      least = of_more (λ n. IsTight kind d by total n → c ≤ count n.state) before.least (λ tight. absurd (other tight));
      few = of_more (λ n. IsTight kind d by total n → count n.state ≤ 4294967295) before.few (λ tight. absurd (other tight));
      one = still before.one;
    }

    -- one that has a count of at least as many
    pub tight_kept : (e : ℕ) → e ≡ c → count m.state ≤ 4294967295 → c ≤ count m.state → IsLeastTight kind d by total count (take (i + 1) members) e
    tight_kept e same low more = subst (λ (n : ℕ). IsLeastTight kind d by total count (take (i + 1) members) n) (sym same) (record {
      least = of_more (λ n. IsTight kind d by total n → c ≤ count n.state) before.least (λ tight. more);
      few = of_more (λ n. IsTight kind d by total n → count n.state ≤ 4294967295) before.few (λ tight. low);
      one = still before.one;
    })

    -- one that is tight, and has a lesser count
    pub tight_less : (e : ℕ) → e ≡ count m.state → IsTight kind d by total m → count m.state ≤ 4294967295 → count m.state ≤ c → IsLeastTight kind d by total count (take (i + 1) members) e
    tight_less e same tight low less = subst (λ (n : ℕ). IsLeastTight kind d by total count (take (i + 1) members) n) (sym same) (record {
      least = of_more (λ n. IsTight kind d by total n → count m.state ≤ count n.state) (λ n was t. (let l = before.least n was t in omega (arith, l, less))) (λ t. omega arith);
      few = of_more (λ n. IsTight kind d by total n → count n.state ≤ 4294967295) before.few (λ t. low);
      one = inr (m, last_of_more, tight, refl);
    })

-- where a product is the worst of three weights
worst_parts : (kind : ArcType) (a b c w : Cost) → cancels kind ≡ false → times kind a (times kind b c) ≡ w → (plus a w ≡ a) × (plus b w ≡ b) × (plus c w ≡ c)
worst_parts Boolean a b c w other is = absurd (true≢false other)
worst_parts Tropical a b c w other is = absurd (true≢false other)
worst_parts Lexicographic a b c w other is = absurd (true≢false other)
worst_parts MinMax a b c w other is =
    let inner : plus (worse b c) w ≡ worse b c = subst (λ (z : Cost). plus (worse b c) z ≡ worse b c) is (worse_above_right a (worse b c)) in (
      subst (λ (z : Cost). plus a z ≡ a) is (worse_above a (worse b c)),
      plus_trans b (worse b c) w (worse_above b c) inner,
      plus_trans c (worse b c) w (worse_above_right b c) inner,
    )

worst_under : (kind : ArcType) (a b c w : Cost) → cancels kind ≡ false → plus a w ≡ a → plus b w ≡ b → plus c w ≡ c → plus (times kind a (times kind b c)) w ≡ times kind a (times kind b c)
worst_under Boolean a b c w other one two three = absurd (true≢false other)
worst_under Tropical a b c w other one two three = absurd (true≢false other)
worst_under Lexicographic a b c w other one two three = absurd (true≢false other)
worst_under MinMax a b c w other one two three = worse_under a (worse b c) w one (worse_under b c w two three)

-- The members with their best total.
module _ (kind : ArcType) (d : ℕ → Cost) (by : Cost) (members : List Member) (solid : best_total kind d by members ≢ infinite) where
  abbrev weigh : Member → Cost
  weigh m = times kind by (times kind m.residual (d m.state))

  -- some member is tight
  tight_one : (m : Member) × Has members m × IsTight kind d by (best_total kind d by members) m
  tight_one = let r = least_reached (Weighs weigh members) (best_by weigh members) (best_least weigh members) solid in (r.0.0, r.0.1, sym r.0.2)

  -- and none is better
  total_below : (m : Member) → Has members m → plus (best_total kind d by members) (weigh m) ≡ best_total kind d by members
  total_below m there = (least_reached (Weighs weigh members) (best_by weigh members) (best_least weigh members) solid).1 (weigh m) (m, there, refl)

  tight_fewest : (count : ℕ → ℕ) (c : ℕ) → IsLeastTight kind d by (best_total kind d by members) count members c → IsFewest count (λ m. IsTight kind d by (best_total kind d by members) m) members c
  tight_fewest count c h = part h.one
    where
      part : (c ≡ 4294967295) ⊎ ((n : Member) × Has members n × IsTight kind d by (best_total kind d by members) n × (count n.state ≡ c))
          → IsFewest count (λ m. IsTight kind d by (best_total kind d by members) m) members c
      part (inl full) =
          let m = tight_one in
          let low = h.least m.0 m.1 m.2 in
          let few = h.few m.0 m.1 m.2 in
          record { member = m.0; there = m.1; passes = m.2; same = omega (arith, low, few, full); least = h.least }
      part (inr (m, there, tight, is)) = record { member = m; there = there; passes = tight; same = is; least = h.least }

  -- where a product is the worse of two weights, a member is tight just where its residual and its distance are no worse
  -- than the total
  worst_fewest : cancels kind ≡ false → (count : ℕ → ℕ) (c : ℕ) → IsFewest count (λ m. IsTight kind d by (best_total kind d by members) m) members c
      → IsFewest count (λ m. (plus m.residual (best_total kind d by members) ≡ m.residual) × (plus (d m.state) (best_total kind d by members) ≡ d m.state)) members c
  worst_fewest other count c h =
      let total = best_total kind d by members in
      let one = tight_one in
      let front = (worst_parts kind by one.0.residual (d one.0.state) total other one.2).0 in
      let own = worst_parts kind by h.member.residual (d h.member.state) total other h.passes in
      record {
        member = h.member;
        there = h.there;
        passes = (own.1, own.2);
        same = h.same;
        least = λ m there passes. h.least m there (plus_antisym (weigh m) total (worst_under kind by m.residual (d m.state) total other front passes.0 passes.1) (total_below m there));
      }

-- ---- what the program knows

module _ {V D : Type 0} (kind : ArcType) (value : V → Cost) (wide : D → Cost) (o : OutlookAs V D) (is : IsOutlook kind value wide o) where
  abbrev g : Graph ℕ
  g = graph_of (valued value o.machine)

  abbrev d : ℕ → Cost
  d = dist_in wide o.dist

  -- the counts of a total that is due, where factors do not cancel
  worst_counts : (other : cancels kind ≡ false) (total : Cost) → total ≢ infinite → total ≡ o.due → (q : ℕ) → plus (d q) total ≡ d q
      → IsStateCount kind g (λ u. plus u total ≡ u) q (count_in o.count q)
  worst_counts other total solid due q under =
      let class = is.class other (λ e. solid (due ∙ e)) in
      let some = not_zero_below (d q) total under solid in
      let low = distant_low kind value wide (λ w. Unit {0}) o.machine o.dist is.measured q some in
      let done = (best_path kind g d is.measured.exact is.measured.firm q some).1 in
      let worst = not_cancelling kind other in
      let counted = class_state_count value (λ w. Unit {0}) o.machine is.weighed.machine o.due o.count class q low (d q)
      (subst (λ (k : ArcType). Finishes k g q (d q)) worst done) (subst (λ (t : Cost). plus (d q) t ≡ d q) due under) in
      let size = class.size in
      let read : count_of o.count q ≡ count_in o.count q = get_or_default o.count q uncounted 0 (omega (arith, size, low)) in
      subst (λ (n : ℕ). IsStateCount kind g (λ u. plus u total ≡ u) q n) read
      (subst (λ (t : Cost). IsStateCount kind g (λ u. plus u t ≡ u) q (count_of o.count q)) (sym due)
      (subst (λ (k : ArcType). IsStateCount k g (λ u. plus u o.due ≡ u) q (count_of o.count q)) (sym worst) counted))

  module _ (by : Cost) (members : List Member) (x : List ℕ) (sub : IsSubset kind g x by members) where
    left_best : best_total kind d by members ≢ infinite → IsDue kind o.due (best_total kind d by members)
        → (c : ℕ) → IsLeastTight kind d by (best_total kind d by members) (count_in o.count) members c → IsShortest kind g by (best_total kind d by members) members c
    left_best solid due c tight = part (cases_Bool (cancels kind))
      where
        fewest : IsFewest (count_in o.count) (λ m. IsTight kind d by (best_total kind d by members) m) members c
        fewest = tight_fewest kind d by members solid (count_in o.count) c tight

        due_one : IsDue kind o.due (best_total kind d by members) → cancels kind ≡ false → best_total kind d by members ≡ o.due
        due_one (inl cancel) not = absurd (true≢false (sym cancel ∙ not))
        due_one (inr same) not = same

        part : (cancels kind ≡ true) ⊎ (cancels kind ≡ false) → IsShortest kind g by (best_total kind d by members) members c
        part (inl cancel) =
            count_cancelling kind g is.weighed.weighted d (far kind g d is.measured.exact) x by members sub (count_in o.count) c cancel solid
            (λ m there some. ready_counts kind value wide (λ w. Unit {0}) o.machine o.dist o.count (is.ready cancel) m.state some) fewest
        part (inr other) =
            count_worst kind g is.weighed.weighted d (far kind g d is.measured.exact) x by members sub (count_in o.count) c other solid
            (λ m there under. worst_counts other (best_total kind d by members) solid (due_one due other) m.state under)
            (worst_fewest kind d by members solid other (count_in o.count) c fewest)

    -- the least count of the tight members is the least number of labels left
    pub left_shortest : (total : Cost) → total ≡ best_total kind d by members → total ≢ infinite → IsDue kind o.due total
        → (c : ℕ) → IsLeastTight kind d by total (count_in o.count) members c → IsShortest kind g by total members c
    left_shortest total same solid due c tight =
        subst (λ (t : Cost). IsShortest kind g by t members c) (sym same)
        (left_best (λ e. solid (same ∙ e)) (subst (λ (t : Cost). IsDue kind o.due t) same due) c
        (subst (λ (t : Cost). IsLeastTight kind d by t (count_in o.count) members c) same tight))
