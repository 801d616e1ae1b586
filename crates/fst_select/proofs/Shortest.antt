-- Where strings go on from a prefix, the shortest of the best of them has some number of labels, also where it is not counted.
use Rattle.std.proofs.Common.{◌≡◌, ◌≢◌, ◌⊎◌, inl, inr, ℕ, ◌<◌, ◌≤◌, zero, suc, Bool, true, false, List, [], ◌∷◌, length, map, refl, sym, ap, ◌∙◌, subst, arith}
use Rattle.std.specs.List.{flat_map}
use Rattle.std.proofs.lemmas.Bool.{cases_eq, cases_lt, false≢true}
use Rattle.fst_semiring.specs.Cost.{Cost, best, finite, infinite}
use Rattle.fst_semiring.specs.Semiring.{times}
use Rattle.fst_semiring.specs.declared.arc_type.ArcType.{ArcType}
use Rattle.fst_semiring.proofs.Laws.{one_times, times_assoc, times_zero}
use Rattle.fst_machine.specs.BreadthFirst.{Has}
use Rattle.fst_machine.specs.Cycles.{IsAccessible}
use Rattle.fst_machine.specs.Distance.{Finishes, IsFinalDistance}
use Rattle.fst_machine.specs.Graph.{Graph}
use Rattle.fst_machine.specs.Letters.{label_word, product}
use Rattle.fst_machine.specs.Machine.{Arc}
use Rattle.fst_machine.specs.Paths.{IsPath, Transition, letters}
use Rattle.fst_machine.proofs.Elements.{Has_at, at_Has}
use Rattle.fst_trim.specs.Weighed.{IsWeighted}
use Rattle.fst_trim.specs.WordWeights.{Weighs}
use Rattle.fst_determinize.specs.KeyLaws.{cost_decides}
use Rattle.fst_determinize.specs.Kept.{same_cost}
use Rattle.fst_determinize.specs.Subsets.{IsSubset, Member}
use Rattle.fst_determinize.proofs.Best as bests
use Rattle.fst_determinize.proofs.Elements.{Has_flat_map, Has_map, flat_map_Has, map_Has}
use Rattle.fst_determinize.proofs.Spelling.{word_length}
use Rattle.fst_select.specs.Keys.{GoesTo, IsShortest, best_total}
use Rattle.fst_select.proofs.SubsetKeys.{member_accessible, member_spells}

-- the least number with a property that can be told, where some number has it
module _ (P : ℕ → Type 0) (told : (n : ℕ) → P n ⊎ (P n → ⊥)) where
  abbrev IsFirst : ℕ → Type 0
  IsFirst n = P n × ((k : ℕ) → P k → n ≤ k)

  first_below : (n : ℕ) → ((c : ℕ) × IsFirst c) ⊎ ((k : ℕ) → k < n → P k → ⊥)
  first_below zero = inr (λ k low. absurd (omega (arith, low)))
  first_below (suc n) = by_case (first_below n) (told n)
    where
      least : ((k : ℕ) → k < n → P k → ⊥) → (k : ℕ) → P k → (k < n) ⊎ (n ≤ k) → n ≤ k
      least none k p (inl low) = absurd (none k low p)
      least none k p (inr high) = high

      by_end : ((k : ℕ) → k < n → P k → ⊥) → (P n → ⊥) → (k : ℕ) → k < suc n → P k → (k ≡ n) ⊎ (k ≡ n → ⊥) → ⊥
      by_end none not k low p (inl same) = not (subst P same p)
      by_end none not k low p (inr other) = none k (omega arith) p

      by_case : ((c : ℕ) × IsFirst c) ⊎ ((k : ℕ) → k < n → P k → ⊥) → P n ⊎ (P n → ⊥) → ((c : ℕ) × IsFirst c) ⊎ ((k : ℕ) → k < suc n → P k → ⊥)
      by_case (inl found) p = inl found
      by_case (inr none) (inl here) = inl (n, (here, λ k p. least none k p (cases_lt k n)))
      by_case (inr none) (inr not) = inr (λ k low p. by_end none not k low p (cases_eq k n))

  first_of : (n : ℕ) → P n → (c : ℕ) × IsFirst c
  first_of n p = by_case (first_below (suc n))
    where
      by_case : ((c : ℕ) × IsFirst c) ⊎ ((k : ℕ) → k < suc n → P k → ⊥) → (c : ℕ) × IsFirst c
      by_case (inl found) = found
      by_case (inr none) = absurd (none n (omega arith) p)

-- whether a weight stands in a list
told_weight : (ws : List Cost) (w : Cost) → Has ws w ⊎ (Has ws w → ⊥)
told_weight [] w = inr (λ h. h)
told_weight (v ∷ ws) w = by_head (same_cost v w) refl (told_weight ws w)
  where
    neither : same_cost v w ≡ false → (Has ws w → ⊥) → Has (v ∷ ws) w → ⊥
    neither e none (inl same) = false≢true (sym e ∙ (cost_decides v w).1 same)
    neither e none (inr there) = none there

    by_head : (b : Bool) → same_cost v w ≡ b → Has ws w ⊎ (Has ws w → ⊥) → Has (v ∷ ws) w ⊎ (Has (v ∷ ws) w → ⊥)
    by_head true e rest = inl (inl ((cost_decides v w).0 e))
    by_head false e (inl there) = inl (inr there)
    by_head false e (inr none) = inr (λ h. neither e none h)

-- a weight alone, unless it is Zero
abbrev solid_only : Cost → List Cost
solid_only infinite = []
solid_only best = best ∷ []
solid_only (finite a b) = finite a b ∷ []

solid_Has : (w u : Cost) → Has (solid_only w) u → (w ≡ u) × (w ≢ infinite)
solid_Has infinite u h = absurd h
solid_Has best u (inl e) = (e, λ z. cc)
solid_Has best u (inr h) = absurd h
solid_Has (finite a b) u (inl e) = (e, λ z. cc)
solid_Has (finite a b) u (inr h) = absurd h

Has_solid : (w : Cost) → w ≢ infinite → Has (solid_only w) w
Has_solid infinite not = absurd (not refl)
Has_solid best not = inl refl
Has_solid (finite a b) not = inl refl

module _ (kind : ArcType) (g : Graph ℕ) where
  -- the weights of the ways of so many arcs from a state to the final ones
  abbrev weights_of : ℕ → ℕ → List Cost
  weights_of zero q = solid_only (g.final q)
  weights_of (suc n) q = flat_map (λ a. map (times kind a.weight) (weights_of n a.next)) (g.arcs q)

  weights_Weighs : (n q : ℕ) (u : Cost) → Has (weights_of n q) u → (rest : List ℕ) × Weighs kind g q rest u × (length rest ≡ n)
  weights_Weighs zero q u h =
      let f = solid_Has (g.final q) u h in
      ([], record { path = []; last = q; leads = refl; final = f.1; word = refl; weight = sym f.0 ∙ sym (one_times kind (g.final q)) }, refl)
  weights_Weighs (suc n) q u h =
      let one = flat_map_Has (λ (a : Arc Cost ℕ). map (times kind a.weight) (weights_of n a.next)) (g.arcs q) u h in
      let two = map_Has (times kind one.0.weight) (weights_of n one.0.next) u one.2 in
      let at = Has_at (g.arcs q) one.0 one.1 in
      let rest = weights_Weighs n one.0.next two.0 two.1 in
      let t : Transition ℕ = record { state = q; place = at.0; arc = one.0 } in (
        one.0.ilabel ∷ rest.0,
        record {
          path = t ∷ rest.1.path;
          last = rest.1.last;
          leads = ((refl, at.1), rest.1.leads);
          final = rest.1.final;
          word = ap (λ (l : List ℕ). one.0.ilabel ∷ l) rest.1.word;
          weight = sym two.2 ∙ (ap (times kind one.0.weight) rest.1.weight ∙ sym (times_assoc kind one.0.weight (product kind (letters rest.1.path)) (g.final rest.1.last)));
        },
        ap suc rest.2,
      )

  path_weight : (path : List (Transition ℕ)) (q last : ℕ) → IsPath g q path last → g.final last ≢ infinite → Has (weights_of (length path) q) (times kind (product kind (letters path)) (g.final last))
  path_weight [] q last here final =
      subst (λ (v : Cost). Has (solid_only (g.final q)) v) (ap g.final here ∙ sym (one_times kind (g.final last))) (Has_solid (g.final q) (λ none. final (ap g.final (sym here) ∙ none)))
  path_weight (t ∷ path) q last leads final =
      let rest = path_weight path t.arc.next last leads.1 final in
      subst (λ (v : Cost). Has (weights_of (suc (length path)) q) v) (sym (times_assoc kind t.arc.weight (product kind (letters path)) (g.final last)))
      (Has_flat_map (λ (a : Arc Cost ℕ). map (times kind a.weight) (weights_of (length path) a.next)) (g.arcs q) t.arc _ (at_Has (g.arcs q) t.place t.arc leads.0.1)
      (Has_map (times kind t.arc.weight) (weights_of (length path) t.arc.next) _ rest))

  Weighs_weights : (q : ℕ) (rest : List ℕ) (u : Cost) → Weighs kind g q rest u → Has (weights_of (length rest) q) u
  Weighs_weights q rest u w =
      let long : length w.path ≡ length rest = sym (word_length w.path) ∙ ap length (sym w.word) in
      subst (λ (v : Cost). Has (weights_of (length rest) q) v) (sym w.weight)
      (subst (λ (n : ℕ). Has (weights_of n q) (times kind (product kind (letters w.path)) (g.final w.last))) long (path_weight w.path q w.last w.leads w.final))

  module _ (by total : Cost) (members : List Member) where
    -- a member goes on to the total by so many labels
    abbrev GoesBy : ℕ → Type 0
    GoesBy n = (m : Member) × Has members m × (rest : List ℕ) × GoesTo kind g by total m rest × (length rest ≡ n)

    abbrev totals_from : ℕ → Member → List Cost
    totals_from n m = map (λ u. times kind by (times kind m.residual u)) (weights_of n m.state)

    told_goes : (n : ℕ) → GoesBy n ⊎ (GoesBy n → ⊥)
    told_goes n = by_case (told_weight (flat_map (totals_from n) members) total)
      where
        found : Has (flat_map (totals_from n) members) total → GoesBy n
        found h =
            let one = flat_map_Has (totals_from n) members total h in
            let two = map_Has (λ (u : Cost). times kind by (times kind one.0.residual u)) (weights_of n one.0.state) total one.2 in
            let way = weights_Weighs n one.0.state two.0 two.1 in
            (one.0, one.1, way.0, (two.0, way.1, two.2), way.2)

        back : GoesBy n → Has (flat_map (totals_from n) members) total
        back (m, there, rest, (u, way, same), long) =
            Has_flat_map (totals_from n) members m total there
            (subst (λ (v : Cost). Has (totals_from n m) v) same
            (Has_map (λ (u : Cost). times kind by (times kind m.residual u)) (weights_of n m.state) u (subst (λ (k : ℕ). Has (weights_of k m.state) u) long (Weighs_weights m.state rest u way))))

        by_case : Has (flat_map (totals_from n) members) total ⊎ (Has (flat_map (totals_from n) members) total → ⊥) → GoesBy n ⊎ (GoesBy n → ⊥)
        by_case (inl h) = inl (found h)
        by_case (inr none) = inr (λ h. none (back h))

    -- where a member goes on to the total, the shortest way has some number of labels
    some_shortest : (n : ℕ) → GoesBy n → (count : ℕ) × IsShortest kind g by total members count
    some_shortest n goes =
        let first = first_of GoesBy told_goes n goes in
        let way = first.1.0 in (
          first.0,
          record {
            member = way.0;
            there = way.1;
            rest = way.2;
            goes = way.3;
            long = way.4;
            least = λ m other has on. first.1.1 (length other) (m, has, other, on, refl);
          },
        )

    -- of which there is one
    pub shortest_once : (b c : ℕ) → IsShortest kind g by total members b → IsShortest kind g by total members c → b ≡ c
    shortest_once b c one two =
        let up = one.least two.member two.rest two.there two.goes in
        let down = two.least one.member one.rest one.there one.goes in
        omega (arith, up, down, one.long, two.long)

-- Where a string with a weight begins with the prefix, the shortest of the best of these has some number of labels.
pub shortest_exists : (kind : ArcType) (g : Graph ℕ) (weighted : IsWeighted kind g) (d : ℕ → Cost) (far : (q : ℕ) → IsAccessible g q → IsFinalDistance kind g q (d q))
    (x : List ℕ) (by : Cost) (members : List Member) → IsSubset kind g x by members → best_total kind d by members ≢ infinite
    → (count : ℕ) × IsShortest kind g by (best_total kind d by members) members count
shortest_exists kind g weighted d far x by members is not =
    let weigh : Member → Cost = λ m. times kind by (times kind m.residual (d m.state)) in
    let some = bests.least_reached (bests.Weighs weigh members) (best_total kind d by members) (bests.best_least weigh members) not in
    let m = some.0.0 in
    let has = some.0.1 in
    let ahead : d m.state ≢ infinite = λ z. not (some.0.2 ∙ (ap (λ (v : Cost). times kind by (times kind m.residual v)) z ∙ (ap (times kind by) (times_zero kind m.residual) ∙ times_zero kind by))) in
    let near = member_accessible kind g weighted x by members is m.state (times kind by m.residual) (member_spells kind g weighted x by members is m has) in
    let f = (bests.least_reached (Finishes kind g m.state) (d m.state) (far m.state near) ahead).0 in
    let rest = label_word (letters f.path) in
    let way : Weighs kind g m.state rest (d m.state) = record { path = f.path; last = f.last; leads = f.leads; final = f.final; word = refl; weight = f.weight } in
    some_shortest kind g by (best_total kind d by members) members (length rest) (m, has, rest, (d m.state, way, sym some.0.2), refl)
