-- Under pushed weights the distance from each name to the final names is One.
use Rattle.std.proofs.Common.{◌≡◌, ◌≢◌, ◌⊎◌, inl, inr, ℕ, ◌<◌, zero, suc, Bool, true, false, List, [], ◌∷◌, Some, slice_get, Ordering, Less, Equal, Greater, sym, refl, ap, ◌∙◌, subst, arith}
use Rattle.fst_semiring.specs.Cost.{Cost, infinite, cost_cmp, plus, ranked}
use Rattle.fst_semiring.specs.declared.arc_type.ArcType.{ArcType}
use Rattle.fst_semiring.specs.Semiring.{cancels, one_of, times, IsCost}
use Rattle.fst_semiring.specs.Division.{push_quotient}
use Rattle.fst_semiring.proofs.Laws.{times_assoc, one_times, times_one, one_not_zero, times_keeps, keeps_times}
use Rattle.fst_semiring.proofs.Order.{cost_cmp_equal, plus_same, plus_trans, plus_antisym, plus_least, plus_unless}
use Rattle.fst_semiring.proofs.Cancelling.{times_cancels, one_best}
use Rattle.fst_semiring.proofs.Dividing.{push_either, push_one, quotient_no_better}
use Rattle.fst_machine.specs.Machine.{Arc}
use Rattle.fst_machine.specs.Graph.{Graph}
use Rattle.fst_machine.specs.Letters.{product}
use Rattle.fst_machine.specs.Paths.{Transition, IsPath, letters}
use Rattle.fst_machine.specs.Distance.{Finishes, IsFinalDistance}
use Rattle.fst_distance.specs.Pushing.{pushed_arc, Pushes}
use Rattle.fst_distance.specs.PushLaws.{IsPotential, IsRank}
use Rattle.fst_distance.proofs.Potential.{finishes_before}
use Rattle.fst_distance.proofs.PushedPaths.{pushed_path, arc_there, arc_back, path_there, finish_undone, final_there}

-- a value that is no worse than another is better or the same
pub same_or_better : (a b : Cost) → plus a b ≡ a → (b ≡ a) ⊎ (cost_cmp a b ≡ Less)
same_or_better a b h = by (cost_cmp a b) refl
  where
    by : (o : Ordering) → cost_cmp a b ≡ o → (b ≡ a) ⊎ (cost_cmp a b ≡ Less)
    by Less e = inr e
    by Equal e = inl (sym (cost_cmp_equal a b e))
    by Greater e = inl (sym (ap (λ o. ranked o a b) e) ∙ h)

-- what is better than a value is better than those that this is no worse than
pub better_then : (a b c : Cost) → cost_cmp a b ≡ Less → plus b c ≡ b → cost_cmp a c ≡ Less
better_then a b c less h = by (cost_cmp a c) refl
  where
    worse : (cost_cmp a c ≡ Less → ⊥) → ⊥
    worse none = plus_least b a (plus_trans b c a h (plus_unless c a none)) less

    by : (o : Ordering) → cost_cmp a c ≡ o → cost_cmp a c ≡ Less
    by Less e = e
    by Equal e = absurd (worse (λ f. absurd (let g : Less ≡ Equal = sym f ∙ e in cc)))
    by Greater e = absurd (worse (λ f. absurd (let g : Less ≡ Greater = sym f ∙ e in cc)))

-- a product of values that are no better than One is none
pub both_no_better : (kind : ArcType) (a b : Cost) → plus (one_of kind) a ≡ one_of kind → plus (one_of kind) b ≡ one_of kind → plus (one_of kind) (times kind a b) ≡ one_of kind
both_no_better kind a b one two =
    let kept : plus (times kind a (one_of kind)) (times kind a b) ≡ times kind a (one_of kind) = times_keeps kind a (one_of kind) b two in
    let same = times_one kind a in
    plus_trans (one_of kind) a (times kind a b) one (ap (λ z. plus z (times kind a b)) (sym same) ∙ (kept ∙ same))

module _ {N : Type 0} (kind : ArcType) (d : N → Cost) (g h : Graph N) (D : N → Type 0) (pushes : Pushes kind d g h D) (pot : IsPotential kind d g D)
    (attained : (p : N) → D p → Finishes kind g p (d p) × ((v : Cost) → Finishes kind g p v → plus (d p) v ≡ d p)) where
  -- no pushed weight is better than One
  pushed_no_better : (a p : Cost) → IsCost kind p → p ≢ infinite → plus p a ≡ p → plus (one_of kind) (push_quotient kind a p) ≡ one_of kind
  pushed_no_better a p of_kind some no_worse = push_either kind a p (λ v. plus (one_of kind) v ≡ one_of kind) (λ e. plus_same (one_of kind)) (quotient_no_better kind a p of_kind some no_worse)

  path_no_better : (path : List (Transition N)) (p q : N) → D p → IsPath h p path q → plus (one_of kind) (times kind (product kind (letters path)) (h.final q)) ≡ one_of kind
  path_no_better [] p q here leads =
      let inside = subst D leads here in
      let last = pushed_no_better (g.final q) (d q) (pot.of_kind q inside) (pot.not_zero q inside) (pot.final q inside) in
      ap (plus (one_of kind)) (one_times kind (h.final q) ∙ pushes.final q inside) ∙ last
  path_no_better (t ∷ path) p q here leads =
      let a = arc_back kind d g h D pushes p t.place t.arc here leads.0.1 in
      let next : a.0.next ≡ t.arc.next = ap (λ (b : Arc Cost N). b.next) a.2 in
      let inside : D t.arc.next = subst D next (pushes.within p t.place a.0 here a.1) in
      let one = pushed_no_better (times kind a.0.weight (d a.0.next)) (d p) (pot.of_kind p here) (pot.not_zero p here) (pot.arc p t.place a.0 here a.1) in
      let first : plus (one_of kind) t.arc.weight ≡ one_of kind = subst (λ (b : Arc Cost N). plus (one_of kind) b.weight ≡ one_of kind) a.2 one in
      let rest = path_no_better path t.arc.next q inside leads.1 in
      ap (plus (one_of kind)) (times_assoc kind t.arc.weight (product kind (letters path)) (h.final q))
      ∙ both_no_better kind t.arc.weight (times kind (product kind (letters path)) (h.final q)) first rest

  -- where factors cancel, a best path weighs One
  one_cancels : cancels kind ≡ true → (p : N) → D p → Finishes kind h p (one_of kind)
  one_cancels cancel p here =
      let f = (attained p here).0 in
      let leads = path_there kind d g h D pushes f.path p f.last here f.leads in
      let new = times kind (product kind (letters (pushed_path kind d f.path))) (h.final f.last) in
      let undone : times kind (d p) new ≡ d p = finish_undone kind d g h D pushes pot f.path p f.last here f.leads ∙ sym f.weight in
      let one : new ≡ one_of kind = times_cancels kind (d p) new (one_of kind) cancel (pot.of_kind p here) (pot.not_zero p here) (undone ∙ sym (times_one kind (d p))) in
      record { last = f.last; path = pushed_path kind d f.path; leads = leads.0; final = final_there kind d g h D pushes pot f.last leads.1 f.final; weight = sym one }

  -- the first arc of a best path weighs One
  first_one : (p : N) (k : ℕ) (a : Arc Cost N) (rest : Cost) → D p → slice_get (g.arcs p) k ≡ Some a → Finishes kind g a.next rest → d p ≡ times kind a.weight rest → (pushed_arc kind d p a).weight ≡ one_of kind
  first_one p k a rest here has f best =
      let inside = pushes.within p k a here has in
      let least = (attained a.next inside).1 rest f in
      let kept : plus (times kind a.weight (d a.next)) (times kind a.weight rest) ≡ times kind a.weight (d a.next) = times_keeps kind a.weight (d a.next) rest least in
      let one : plus (times kind a.weight (d a.next)) (d p) ≡ times kind a.weight (d a.next) = ap (plus (times kind a.weight (d a.next))) best ∙ kept in
      push_one kind (times kind a.weight (d a.next)) (d p) (plus_antisym (times kind a.weight (d a.next)) (d p) one (pot.arc p k a here has))

  -- an arc of weight One before a path of weight One
  one_before : (p : N) (k : ℕ) (a : Arc Cost N) → D p → slice_get (g.arcs p) k ≡ Some a → (pushed_arc kind d p a).weight ≡ one_of kind → Finishes kind h a.next (one_of kind) → Finishes kind h p (one_of kind)
  one_before p k a here has one f =
      subst (Finishes kind h p) (ap (λ w. times kind w (one_of kind)) one ∙ one_times kind (one_of kind))
      (finishes_before kind h p k (pushed_arc kind d p a) (one_of kind) (arc_there kind d g h D pushes p k a here has) f)

  -- a final name whose value is its final weight
  one_here : (p : N) → D p → (g.final p ≡ infinite → ⊥) → d p ≡ times kind (one_of kind) (g.final p) → Finishes kind h p (one_of kind)
  one_here p here final best =
      let same : g.final p ≡ d p = sym (best ∙ one_times kind (g.final p)) in
      let one : h.final p ≡ one_of kind = pushes.final p here ∙ push_one kind (g.final p) (d p) same in
      record { last = p; path = []; leads = refl; final = (λ e. one_not_zero kind (sym one ∙ e)); weight = sym (one_times kind (h.final p) ∙ one) }

  module _ (rank : N → ℕ) (ranks : IsRank d D rank) (worse : cancels kind ≡ false) where
    -- where factors do not cancel, a factor makes no value better
    factor_no_better : (w rest : Cost) → plus rest (times kind w rest) ≡ rest
    factor_no_better w rest =
        let one : plus (one_of kind) w ≡ one_of kind = plus_unless (one_of kind) w (one_best kind w worse) in
        let same = one_times kind rest in
        ap (λ z. plus z (times kind w rest)) (sym same) ∙ (keeps_times kind rest (one_of kind) w one ∙ same)

    -- Follow a best path as long as its rest is best for its name; where it is not, the name there has a better value, and
    -- a best path of its own.
    reach : (k : ℕ) (path : List (Transition N)) (p q : N) → D p → rank p < k → IsPath g p path q → (g.final q ≡ infinite → ⊥) → d p ≡ times kind (product kind (letters path)) (g.final q) → Finishes kind h p (one_of kind)
    reach zero path p q here low leads final best = absurd (omega arith)
    reach (suc k) path p q here low leads final best = follow (λ p here low. let f = (attained p here).0 in reach k f.path p f.last here low f.leads f.final f.weight) path p here low leads best
      where
        follow : ((p : N) → D p → rank p < k → Finishes kind h p (one_of kind)) → (path : List (Transition N)) (p : N) → D p → rank p < suc k → IsPath g p path q → d p ≡ times kind (product kind (letters path)) (g.final q) → Finishes kind h p (one_of kind)
        follow other [] p here low leads best =
            let final_p : g.final p ≡ infinite → ⊥ = λ e. final (ap g.final (sym leads) ∙ e) in
            one_here p here final_p (best ∙ ap (λ s. times kind (one_of kind) (g.final s)) (sym leads))
        follow other (t ∷ path) p here low leads best =
            let rest = times kind (product kind (letters path)) (g.final q) in
            let whole : d p ≡ times kind t.arc.weight rest = best ∙ times_assoc kind t.arc.weight (product kind (letters path)) (g.final q) in
            let inside = pushes.within p t.place t.arc here leads.0.1 in
            let f : Finishes kind g t.arc.next rest = record { last = q; path = path; leads = leads.1; final = final; weight = refl } in
            let one = first_one p t.place t.arc rest here leads.0.1 f whole in
            let no_worse : plus rest (d p) ≡ rest = ap (plus rest) whole ∙ factor_no_better t.arc.weight rest in
            one_before p t.place t.arc here leads.0.1 one (on rest inside no_worse (same_or_better (d t.arc.next) rest ((attained t.arc.next inside).1 rest f)) (λ low e. follow other path t.arc.next inside low leads.1 e))
          where
            on : (tail : Cost) → D t.arc.next → plus tail (d p) ≡ tail → (tail ≡ d t.arc.next) ⊎ (cost_cmp (d t.arc.next) tail ≡ Less)
                → (rank t.arc.next < suc k → d t.arc.next ≡ tail → Finishes kind h t.arc.next (one_of kind)) → Finishes kind h t.arc.next (one_of kind)
            on tail inside no_worse (inl same) further =
                let order = ranks.no_worse t.arc.next p inside here (subst (λ r. plus r (d p) ≡ r) same no_worse) in
                further (omega arith) (sym same)
            on tail inside no_worse (inr better) further =
                let order = ranks.better t.arc.next p inside here (better_then (d t.arc.next) tail (d p) better no_worse) in
                other t.arc.next inside (omega arith)

    one_worse : (p : N) → D p → Finishes kind h p (one_of kind)
    one_worse p here = let f = (attained p here).0 in let low : rank p < suc (rank p) = omega arith in reach (suc (rank p)) f.path p f.last here low f.leads f.final f.weight

  -- the distance is One
  pub distance_one : (rank : N → ℕ) → IsRank d D rank → (p : N) → D p → IsFinalDistance kind h p (one_of kind)
  distance_one rank ranks p here = inr (by (cancels kind) refl, (λ v f. ap (plus (one_of kind)) f.weight ∙ path_no_better f.path p f.last here f.leads))
    where
      by : (b : Bool) → cancels kind ≡ b → Finishes kind h p (one_of kind)
      by true e = one_cancels e p here
      by false e = one_worse rank ranks e p here
