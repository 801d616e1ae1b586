-- One cause refuses an intersection, and one a difference.
use Rattle.std.proofs.Common.{◌≡◌, ◌⊎◌, inl, inr, ℕ, ◌<◌, ◌≤◌, Bool, true, false, List, Some, refl, sym, ap, ◌∙◌, arith}
use Rattle.std.proofs.lemmas.Bool.{cases_lt}
use Rattle.fst_semiring.specs.Cost.{Cost}
use Rattle.fst_semiring.specs.declared.arc_type.ArcType.{ArcType}
use Rattle.fst_machine.specs.Graph.{graph_of}
use Rattle.fst_machine.specs.Machine.{Arc, Machine}
use Rattle.fst_machine.specs.declared.path.Step.{Step}
use Rattle.fst_trim.specs.FirstArcs.{HasTwoLabels, Repeats}
use Rattle.fst_trim.proofs.OneAnswer.{one_first_arc}
use Rattle.fst_walk.specs.Answers.{Stops}
use Rattle.fst_walk.specs.declared.fault.WalkFault.TheVariants as walk
use Rattle.fst_walk.proofs.OneAnswer.{one_stop}
use Rattle.fst_compose.specs.Answers.{IsSorted, Refuses}
use Rattle.fst_compose.specs.declared.fault.ComposeFault.{ComposeFault}
use Rattle.fst_compose.specs.declared.fault.ComposeFault.TheVariants as compositions
use Rattle.fst_compose.proofs.OneAnswer.{one_refusal}
use Rattle.fst_setops.specs.Answers.{AreAcceptors, IsFirst, IsSplit, RefusesDifference, RefusesIntersection, cause_of}
use Rattle.fst_setops.specs.Difference.{difference}
use Rattle.fst_setops.specs.Unweighted.{IsFirstWeighted, ReadsEpsilon}
use Rattle.fst_setops.specs.declared.fault.DifferenceFault.{DifferenceFault}
use Rattle.fst_setops.specs.declared.fault.DifferenceFault.TheVariants as differences
use Rattle.fst_setops.specs.declared.fault.IntersectFault.{IntersectFault}
use Rattle.fst_setops.specs.declared.fault.IntersectFault.TheVariants as intersections

-- the first arc with a property is one
pub one_first : {F : Type 0} (P : List (Arc Cost ℕ) → ℕ → Type 0) (m : Machine Cost) (f : ℕ → ℕ → F) (s p t q : ℕ) → IsFirst P m s p → IsFirst P m t q → f s p ≡ f t q
one_first {F} P m f s p t q one two = by_step (one_first_arc P m (Some (step s p)) (Some (step t q)) one two)
  where
    step : ℕ → ℕ → Step
    step state place = record { state = state; place = place }

    by_step : Some (step s p) ≡ Some (step t q) → f s p ≡ f t q
    by_step e = let same : step s p ≡ step t q = cc in ap (λ (x : Step). f x.state x.place) same

module _ (a b : Machine Cost) where
  -- an arc with two labels stands against acceptors
  pub unsplit : (second : Bool) (s p : ℕ) → IsSplit a b second s p → AreAcceptors a b → ⊥
  unsplit false s p split both = both.0 s p split.0
  unsplit true s p split both = both.1 s p split.1.0

  -- and there is one first
  pub one_split : {F : Type 0} (f : Bool → ℕ → ℕ → F) (c d : Bool) (s p t q : ℕ) → IsSplit a b c s p → IsSplit a b d t q → f c s p ≡ f d t q
  one_split f false false s p t q one two = one_first HasTwoLabels a (f false) s p t q one two
  one_split f false true s p t q one two = absurd (two.0 s p one.0)
  one_split f true false s p t q one two = absurd (one.0 t q two.0)
  one_split f true true s p t q one two = one_first HasTwoLabels b (f true) s p t q one.1 two.1

  module _ (kind : ArcType) (most : ℕ) where
    -- An intersection is refused by an arc with two labels, or as the composition is.
    record ByArc (f : IntersectFault) : Type 0 where
      second : Bool
      state : ℕ
      place : ℕ
      is : intersections.NotAcceptor second state place ≡ f
      sorted : IsSorted a b
      split : IsSplit a b second state place

    record ByComposition (f : IntersectFault) : Type 0 where
      cause : ComposeFault
      is : cause_of cause ≡ f
      refuses : Refuses kind a b most cause
      acceptors : IsSorted a b → AreAcceptors a b

    by_cause : (f : IntersectFault) → RefusesIntersection kind a b most f → ByArc f ⊎ ByComposition f
    by_cause intersections.NotSorted r = inr (record { cause = compositions.NotSorted; is = refl; refuses = r; acceptors = λ sorted. absurd (r sorted) })
    by_cause (intersections.NotAcceptor second state place) r = inl (record { second = second; state = state; place = place; is = refl; sorted = r.0; split = r.1 })
    by_cause (intersections.StateLimit limit) r = inr (record { cause = compositions.StateLimit limit; is = refl; refuses = r.1; acceptors = λ sorted. r.0 })
    by_cause intersections.TooManyArcs r = inr (record { cause = compositions.TooManyArcs; is = refl; refuses = r.1; acceptors = λ sorted. r.0 })
    by_cause (intersections.Overflow place) r = inr (record { cause = compositions.Overflow place; is = refl; refuses = r.1; acceptors = λ sorted. r.0 })
    by_cause intersections.Memory r = absurd r

    pub one_intersection : (f h : IntersectFault) → RefusesIntersection kind a b most f → RefusesIntersection kind a b most h → f ≡ h
    one_intersection f h one two = by (by_cause f one) (by_cause h two)
      where
        by : ByArc f ⊎ ByComposition f → ByArc h ⊎ ByComposition h → f ≡ h
        by (inl x) (inl y) = sym x.is ∙ (one_split intersections.NotAcceptor x.second y.second x.state x.place y.state y.place x.split y.split ∙ y.is)
        by (inl x) (inr y) = absurd (unsplit x.second x.state x.place x.split (y.acceptors x.sorted))
        by (inr x) (inl y) = absurd (unsplit y.second y.state y.place y.split (x.acceptors y.sorted))
        by (inr x) (inr y) = sym x.is ∙ (ap cause_of (one_refusal kind a b most x.cause y.cause x.refuses y.refuses) ∙ y.is)

    -- the least state with weights is one
    one_weighted : (s t : ℕ) → IsFirstWeighted kind b (Some s) → IsFirstWeighted kind b (Some t) → s ≡ t
    one_weighted s t one two = by_place (cases_lt s t) (cases_lt t s)
      where
        by_place : (s < t) ⊎ (t ≤ s) → (t < s) ⊎ (s ≤ t) → s ≡ t
        by_place (inl low) more = absurd (two.1 s low one.0)
        by_place (inr high) (inl low) = absurd (one.1 t low two.0)
        by_place (inr high) (inr low) = omega (arith, high, low)

    -- more names than the limit are not those that have too many arcs
    few_or_more : (n : ℕ) → Stops (difference (graph_of a) (graph_of b)) most (walk.StateLimit n) → Stops (difference (graph_of a) (graph_of b)) most walk.TooManyArcs → ⊥
    few_or_more n more many = let wrong = one_stop (difference (graph_of a) (graph_of b)) most (walk.StateLimit n) walk.TooManyArcs more many in cc

    pub one_difference : (f h : DifferenceFault) → RefusesDifference kind a b most f → RefusesDifference kind a b most h → f ≡ h
    one_difference (differences.NotAcceptor c s p) (differences.NotAcceptor d t q) one two = one_split differences.NotAcceptor c d s p t q one two
    one_difference (differences.NotAcceptor c s p) (differences.NotDeterministic t q) one two = absurd (unsplit c s p one two.0)
    one_difference (differences.NotAcceptor c s p) (differences.HasEpsilon t q) one two = absurd (unsplit c s p one two.0)
    one_difference (differences.NotAcceptor c s p) (differences.NotUnweighted t) one two = absurd (unsplit c s p one two.0)
    one_difference (differences.NotAcceptor c s p) (differences.StateLimit m) one two = absurd (unsplit c s p one two.0.acceptors)
    one_difference (differences.NotAcceptor c s p) differences.TooManyArcs one two = absurd (unsplit c s p one two.0.acceptors)
    one_difference (differences.NotAcceptor c s p) differences.Memory one two = absurd two
    one_difference (differences.NotDeterministic s p) (differences.NotAcceptor d t q) one two = absurd (unsplit d t q two one.0)
    one_difference (differences.NotDeterministic s p) (differences.NotDeterministic t q) one two = one_first Repeats b differences.NotDeterministic s p t q one.1 two.1
    one_difference (differences.NotDeterministic s p) (differences.HasEpsilon t q) one two = absurd (two.1 s p one.1.0)
    one_difference (differences.NotDeterministic s p) (differences.NotUnweighted t) one two = absurd (two.1 s p one.1.0)
    one_difference (differences.NotDeterministic s p) (differences.StateLimit m) one two = absurd (two.0.deterministic s p one.1.0)
    one_difference (differences.NotDeterministic s p) differences.TooManyArcs one two = absurd (two.0.deterministic s p one.1.0)
    one_difference (differences.NotDeterministic s p) differences.Memory one two = absurd two
    one_difference (differences.HasEpsilon s p) (differences.NotAcceptor d t q) one two = absurd (unsplit d t q two one.0)
    one_difference (differences.HasEpsilon s p) (differences.NotDeterministic t q) one two = absurd (one.1 t q two.1.0)
    one_difference (differences.HasEpsilon s p) (differences.HasEpsilon t q) one two = one_first ReadsEpsilon b differences.HasEpsilon s p t q one.2 two.2
    one_difference (differences.HasEpsilon s p) (differences.NotUnweighted t) one two = absurd (two.2 s p one.2.0)
    one_difference (differences.HasEpsilon s p) (differences.StateLimit m) one two = absurd (two.0.free s p one.2.0)
    one_difference (differences.HasEpsilon s p) differences.TooManyArcs one two = absurd (two.0.free s p one.2.0)
    one_difference (differences.HasEpsilon s p) differences.Memory one two = absurd two
    one_difference (differences.NotUnweighted s) (differences.NotAcceptor d t q) one two = absurd (unsplit d t q two one.0)
    one_difference (differences.NotUnweighted s) (differences.NotDeterministic t q) one two = absurd (one.1 t q two.1.0)
    one_difference (differences.NotUnweighted s) (differences.HasEpsilon t q) one two = absurd (one.2 t q two.2.0)
    one_difference (differences.NotUnweighted s) (differences.NotUnweighted t) one two = ap differences.NotUnweighted (one_weighted s t one.3 two.3)
    one_difference (differences.NotUnweighted s) (differences.StateLimit m) one two = absurd (two.0.unweighted s one.3.0)
    one_difference (differences.NotUnweighted s) differences.TooManyArcs one two = absurd (two.0.unweighted s one.3.0)
    one_difference (differences.NotUnweighted s) differences.Memory one two = absurd two
    one_difference (differences.StateLimit n) (differences.NotAcceptor d t q) one two = absurd (unsplit d t q two one.0.acceptors)
    one_difference (differences.StateLimit n) (differences.NotDeterministic t q) one two = absurd (one.0.deterministic t q two.1.0)
    one_difference (differences.StateLimit n) (differences.HasEpsilon t q) one two = absurd (one.0.free t q two.2.0)
    one_difference (differences.StateLimit n) (differences.NotUnweighted t) one two = absurd (one.0.unweighted t two.3.0)
    one_difference (differences.StateLimit n) (differences.StateLimit m) one two = ap differences.StateLimit (one.1 ∙ sym two.1)
    one_difference (differences.StateLimit n) differences.TooManyArcs one two = absurd (few_or_more n (one.1, one.2) two.1)
    one_difference (differences.StateLimit n) differences.Memory one two = absurd two
    one_difference differences.TooManyArcs (differences.NotAcceptor d t q) one two = absurd (unsplit d t q two one.0.acceptors)
    one_difference differences.TooManyArcs (differences.NotDeterministic t q) one two = absurd (one.0.deterministic t q two.1.0)
    one_difference differences.TooManyArcs (differences.HasEpsilon t q) one two = absurd (one.0.free t q two.2.0)
    one_difference differences.TooManyArcs (differences.NotUnweighted t) one two = absurd (one.0.unweighted t two.3.0)
    one_difference differences.TooManyArcs (differences.StateLimit m) one two = absurd (few_or_more m (two.1, two.2) one.1)
    one_difference differences.TooManyArcs differences.TooManyArcs one two = refl
    one_difference differences.TooManyArcs differences.Memory one two = absurd two
    one_difference differences.Memory h one two = absurd one
