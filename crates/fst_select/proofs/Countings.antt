-- The least number of labels ahead of a prefix, by the counts of its members.
use Rattle.std.proofs.Common.{◌≡◌, ◌≢◌, ◌⊎◌, inl, inr, sym, refl, ap, ◌∙◌, subst, ℕ, List, true, false, arith}
use Rattle.fst_semiring.specs.Cost.{Cost, infinite, plus, worse}
use Rattle.fst_semiring.specs.declared.arc_type.ArcType.{ArcType}
use Rattle.fst_semiring.specs.declared.arc_type.ArcType.TheVariants.{Boolean, Tropical, MinMax, Lexicographic}
use Rattle.fst_semiring.specs.Semiring.{cancels, times}
use Rattle.fst_semiring.proofs.Cancelling.{times_cancels}
use Rattle.fst_semiring.proofs.Laws.{times_assoc, times_comm, times_keeps, times_zero}
use Rattle.fst_semiring.proofs.Order.{plus_antisym, plus_trans, worse_picks}
use Rattle.fst_machine.specs.BreadthFirst.{Has}
use Rattle.fst_machine.specs.Graph.{Graph}
use Rattle.fst_machine.specs.Cycles.{IsAccessible}
use Rattle.fst_machine.specs.Distance.{Finishes, IsFinalDistance}
use Rattle.fst_trim.specs.Weighed.{IsWeighted}
use Rattle.fst_trim.specs.WordWeights.{Weighs}
use Rattle.fst_determinize.specs.Subsets.{IsSubset, Member}
use Rattle.fst_determinize.proofs.Best.{best_least, least_reached}
use Rattle.fst_determinize.proofs.Dividing.{times_worsens}
use Rattle.fst_determinize.proofs.Spelling.{spells_weighs}
use Rattle.fst_select.specs.Keys.{IsShortest, best_total}
use Rattle.fst_select.specs.Counting.{IsFewest, IsStateCount}
use Rattle.fst_select.proofs.SubsetKeys.{least_below, member_accessible, member_spells}

-- in min-max, where two factors are no worse than a value, their product is not either
both_no_worse : (kind : ArcType) (a b w : Cost) → cancels kind ≡ false → plus a w ≡ a → plus b w ≡ b → plus (times kind a b) w ≡ times kind a b
both_no_worse Boolean a b w e h k = absurd (cc)
both_no_worse Tropical a b w e h k = absurd (cc)
both_no_worse Lexicographic a b w e h k = absurd (cc)
both_no_worse MinMax a b w e h k = by_part (worse_picks a b)
  where
    by_part : (worse a b ≡ a) ⊎ (worse a b ≡ b) → plus (worse a b) w ≡ worse a b
    by_part (inl f) = subst (λ (z : Cost). plus z w ≡ z) (sym f) h
    by_part (inr f) = subst (λ (z : Cost). plus z w ≡ z) (sym f) k

module _ (kind : ArcType) (g : Graph ℕ) (weighted : IsWeighted kind g) (d : ℕ → Cost) (far : (q : ℕ) → IsAccessible g q → IsFinalDistance kind g q (d q))
    (x : List ℕ) (by : Cost) (members : List Member) (is : IsSubset kind g x by members) where
  abbrev total : Cost
  total = best_total kind d by members

  -- the weight of a member with what is ahead of its state
  abbrev weigh : Member → Cost
  weigh m = times kind by (times kind m.residual (d m.state))

  -- a state's distance is no worse than each way to go on
  ahead_below : (m : Member) (rest : List ℕ) (u : Cost) → Has members m → Weighs kind g m.state rest u → plus (d m.state) u ≡ d m.state
  ahead_below m rest u has c =
      least_below (Finishes kind g m.state) (d m.state) u (far m.state (member_accessible kind g weighted x by members is m.state _ (member_spells kind g weighted x by members is m has)))
      (record { last = c.last; path = c.path; leads = c.leads; final = c.final; weight = c.weight })

  -- nor is the best weight worse than what a member weighs
  total_below : (m : Member) → Has members m → plus total (weigh m) ≡ total
  total_below m has = least_below _ total (weigh m) (best_least weigh members) (m, has, refl)

  through_below : (m : Member) (rest : List ℕ) (u : Cost) → Has members m → Weighs kind g m.state rest u → plus total (times kind by (times kind m.residual u)) ≡ total
  through_below m rest u has c = plus_trans _ (weigh m) _ (total_below m has) (times_keeps kind by _ _ (times_keeps kind m.residual (d m.state) u (ahead_below m rest u has c)))

  -- where factors cancel: the least count of the members that go on to the best weight, of their states' best words
  pub count_cancelling : (count : ℕ → ℕ) (c : ℕ) → cancels kind ≡ true → best_total kind d by members ≢ infinite
      → ((m : Member) → Has members m → d m.state ≢ infinite → IsStateCount kind g (λ u. u ≡ d m.state) m.state (count m.state))
      → IsFewest count (λ m. times kind by (times kind m.residual (d m.state)) ≡ best_total kind d by members) members c
      → IsShortest kind g by (best_total kind d by members) members c
  count_cancelling count c cancel not counts h =
      let s = counts h.member h.there (lives h.member h.passes) in
      record {
        member = h.member;
        there = h.there;
        rest = s.rest;
        goes = (s.weight, s.completes, ap (λ (u : Cost). times kind by (times kind h.member.residual u)) s.counts ∙ h.passes);
        long = s.long ∙ h.same;
        least = λ m other has goes.
            let solid = spells_weighs kind g weighted x m.state _ (member_spells kind g weighted x by members is m has) in
            let one : plus (weigh m) total ≡ weigh m
            = subst (λ (z : Cost). plus (weigh m) z ≡ weigh m) goes.2 (times_keeps kind by _ _ (times_keeps kind m.residual (d m.state) goes.0 (ahead_below m other goes.0 has goes.1))) in
            let tight : weigh m ≡ total = plus_antisym _ _ one (total_below m has) in
            let equal : times kind (times kind by m.residual) (d m.state) ≡ times kind (times kind by m.residual) goes.0
            = times_assoc kind by m.residual (d m.state) ∙ (tight ∙ (sym goes.2 ∙ sym (times_assoc kind by m.residual goes.0))) in
            let same : d m.state ≡ goes.0 = times_cancels kind (times kind by m.residual) (d m.state) goes.0 cancel solid.0 solid.1 equal in
            let own = counts m has (lives m tight) in
            let low = own.least other goes.0 goes.1 (sym same) in
            let first = h.least m has tight in
            omega (arith, low, first);
      }
    where
      lives : (m : Member) → weigh m ≡ total → d m.state ≢ infinite
      lives m e none = not (sym e ∙ (ap (λ (z : Cost). times kind by (times kind m.residual z)) none ∙ (ap (times kind by) (times_zero kind m.residual) ∙ times_zero kind by)))

  -- where they do not: the least count of the members that are no worse than the best weight, of words no worse than it
  pub count_worst : (count : ℕ → ℕ) (c : ℕ) → cancels kind ≡ false → best_total kind d by members ≢ infinite
      → ((m : Member) → Has members m → plus (d m.state) (best_total kind d by members) ≡ d m.state → IsStateCount kind g (λ u. plus u (best_total kind d by members) ≡ u) m.state (count m.state))
      → IsFewest count (λ m. (plus m.residual (best_total kind d by members) ≡ m.residual) × (plus (d m.state) (best_total kind d by members) ≡ d m.state)) members c
      → IsShortest kind g by (best_total kind d by members) members c
  count_worst count c cancel not counts h =
      let s = counts h.member h.there h.passes.1 in
      let up : plus (times kind by (times kind h.member.residual s.weight)) total ≡ times kind by (times kind h.member.residual s.weight)
      = both_no_worse kind by _ _ cancel front (both_no_worse kind h.member.residual s.weight _ cancel h.passes.0 s.counts) in
      record {
        member = h.member;
        there = h.there;
        rest = s.rest;
        goes = (s.weight, s.completes, plus_antisym _ _ up (through_below h.member s.rest s.weight h.there s.completes));
        long = s.long ∙ h.same;
        least = λ m other has goes.
            let inner : plus (times kind m.residual goes.0) total ≡ times kind m.residual goes.0
            = subst (λ (z : Cost). plus (times kind m.residual goes.0) z ≡ times kind m.residual goes.0) (times_comm kind (times kind m.residual goes.0) by ∙ goes.2)
            (times_worsens kind (times kind m.residual goes.0) by cancel) in
            let res : plus m.residual total ≡ m.residual = plus_trans _ _ _ (times_worsens kind m.residual goes.0 cancel) inner in
            let rest : plus goes.0 total ≡ goes.0
            = plus_trans _ (times kind m.residual goes.0) _
            (subst (λ (z : Cost). plus goes.0 z ≡ goes.0) (times_comm kind goes.0 m.residual) (times_worsens kind goes.0 m.residual cancel)) inner in
            let far_on : plus (d m.state) total ≡ d m.state = plus_trans _ goes.0 _ (ahead_below m other goes.0 has goes.1) rest in
            let own = counts m has far_on in
            let low = own.least other goes.0 goes.1 rest in
            let first = h.least m has (res, far_on) in
            omega (arith, low, first);
      }
    where
      front : plus by total ≡ by
      front = let some = (least_reached _ total (best_least weigh members) not).0 in subst (λ (z : Cost). plus by z ≡ by) (sym some.2) (times_worsens kind by _ cancel)
