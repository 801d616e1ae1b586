-- When a walk makes no machine: no two causes hold together.
use Rattle.std.proofs.Common.{◌≡◌, ◌⊎◌, inl, inr, ℕ, ◌<◌, ◌≤◌, List, Option, length, None, Some, Ok, Err, slice_get, refl, sym, ap, subst, ◌∙◌, arith}
use Rattle.std.specs.Prelude.{IfErr, IfOk, Result}
use Rattle.std.specs.List.{All}
use Rattle.std.proofs.lemmas.Bool.{cases_lt}
use Rattle.std.proofs.lemmas.Option.{get_or_from_slice_get, slice_get_within}
use Rattle.fst_machine.specs.BreadthFirst.{Apart, Has, IsBreadthFirst}
use Rattle.fst_machine.specs.Graph.{Graph}
use Rattle.fst_machine.specs.Machine.{most_arcs}
use Rattle.fst_machine.specs.Paths.{IsPath, Transition}
use Rattle.fst_machine.proofs.BreadthFirst.{one_breadth_first, walked_of_breadth_first}
use Rattle.fst_machine.proofs.Elements.{Apart_within}
use Rattle.fst_machine.proofs.Walks.{walked_from_start}
use Rattle.fst_walk.specs.Answers.{HasManyArcs, IsExactly, IsFine, IsOut, ReachesMore, Stops}
use Rattle.fst_walk.specs.Making.{Fits, IsReached, arcs_of}
use Rattle.fst_walk.specs.declared.fault.WalkFault.{WalkFault}
use Rattle.fst_walk.specs.declared.fault.WalkFault.TheVariants.{StateLimit, TooManyArcs, Overflow}

-- different names that paths from the start reach are no more than the finished list has
pub reached_few : {N : Type 0} (g : Graph N) (start : N) (names xs : List N) → IsBreadthFirst g start names → Apart xs → ((x : N) → Has xs x → (path : List (Transition N)) × IsPath g start path x) → length xs ≤ length names
reached_few g start names xs listed apart reached = Apart_within xs names apart (λ x h. let r = reached x h in walked_from_start g start names (walked_of_breadth_first g start names listed) r.0 x r.1)

-- there is one start
one_start : {N : Type 0} (o : Option N) (p q : N) → o ≡ Some p → o ≡ Some q → p ≡ q
one_start o p q one two = let e : ◌≡◌ {A = Option _} (Some p) (Some q) = sym one ∙ two in cc

module _ {N : Type 0} (g : Graph N) (most : ℕ) where
  -- there is one list of them
  one_reached : (xs ys : List N) → IsReached g most xs → IsReached g most ys → xs ≡ ys
  one_reached xs ys one two = one_breadth_first g one.start xs ys one.listed (subst (λ p. IsBreadthFirst g p ys) (one_start g.start two.start one.start two.starts one.starts) two.listed)

  -- which has not more than there can be
  not_more : (names : List N) → IsReached g most names → ReachesMore g most → ⊥
  not_more names h more =
      let same = one_start g.start more.start h.start more.starts h.starts in
      let few = reached_few g h.start names more.names h.listed more.apart (λ z has. let path = more.reached z has in (path.0, subst (λ p. IsPath g p path.0 z) same path.1)) in
      let low = h.few in
      let over = more.more in
      omega (arith, few, low, over)

  -- not too many and too many arcs
  not_many : (names : List N) → IsReached g most names → arcs_of g names ≤ most_arcs → HasManyArcs g most → ⊥
  not_many names h few many =
      let same = one_reached many.names names many.reached h in
      let over : most_arcs < arcs_of g names = subst (λ ns. most_arcs < arcs_of g ns) same many.many in
      omega (arith, few, over)

  -- none and one out of range
  not_out : (names : List N) (place : ℕ) → IsReached g most names → All (Fits g) names → IsOut g most place → ⊥
  not_out names place h all out =
      let there : slice_get names place ≡ Some out.out.name = ap (λ ns. slice_get ns place) (one_reached names out.names h out.reached) ∙ out.out.there in
      out.out.out (subst (Fits g) (get_or_from_slice_get names place out.out.name out.out.name there) (all place out.out.name (slice_get_within names place out.out.name there)))

  -- there is one first place out of range
  one_out : (i j : ℕ) → IsOut g most i → IsOut g most j → i ≡ j
  one_out i j one two = by_order (cases_lt i j) (cases_lt j i)
    where
      same : one.names ≡ two.names
      same = one_reached one.names two.names one.reached two.reached

      by_order : (i < j) ⊎ (j ≤ i) → (j < i) ⊎ (i ≤ j) → i ≡ j
      by_order (inl low) h = absurd (one.out.out (two.out.first i one.out.name low (ap (λ ns. slice_get ns i) (sym same) ∙ one.out.there)))
      by_order (inr high) (inl low) = absurd (two.out.out (one.out.first j two.out.name low (ap (λ ns. slice_get ns j) same ∙ two.out.there)))
      by_order (inr high) (inr low) = omega (arith, high, low)

  -- a machine is made
  made_exactly : {X : Type 0} (x : X) (names : List N) → IsFine g most names → IsExactly g {X = X} most (Ok x)
  made_exactly x names h (StateLimit limit) = ((λ e. absurd (cc)), (λ r. absurd (not_more names h.reached r.1)))
  made_exactly x names h TooManyArcs = ((λ e. absurd (cc)), (λ r. absurd (not_many names h.reached h.few r)))
  made_exactly x names h (Overflow place) = ((λ e. absurd (cc)), (λ r. absurd (not_out names place h.reached h.range r)))

  -- there is a cause
  cause_exactly : {X : Type 0} (fault : WalkFault) → Stops g most fault → IsExactly g {X = X} most (Err fault)
  cause_exactly {X} (StateLimit l) h (StateLimit limit) = (
    λ e. (let z : ◌≡◌ {A = Result X WalkFault} (Err (StateLimit l)) (Err (StateLimit limit)) = e in let same : l ≡ limit = cc in sym same ∙ h.0, h.1),
    λ r. ap (λ (n : ℕ). Err (StateLimit n)) (h.0 ∙ sym r.0),
  )
  cause_exactly (StateLimit l) h TooManyArcs = ((λ e. absurd (cc)), (λ r. absurd (not_more r.names r.reached h.1)))
  cause_exactly (StateLimit l) h (Overflow place) = ((λ e. absurd (cc)), (λ r. absurd (not_more r.names r.reached h.1)))
  cause_exactly TooManyArcs h (StateLimit limit) = ((λ e. absurd (cc)), (λ r. absurd (not_more h.names h.reached r.1)))
  cause_exactly TooManyArcs h TooManyArcs = ((λ e. h), (λ r. refl))
  cause_exactly TooManyArcs h (Overflow place) = ((λ e. absurd (cc)), (λ r. absurd (not_many r.names r.reached r.few h)))
  cause_exactly (Overflow i) h (StateLimit limit) = ((λ e. absurd (cc)), (λ r. absurd (not_more h.names h.reached r.1)))
  cause_exactly (Overflow i) h TooManyArcs = ((λ e. absurd (cc)), (λ r. absurd (not_many h.names h.reached h.few r)))
  cause_exactly {X} (Overflow i) h (Overflow place) = (
    λ e. subst (IsOut g most) (let z : ◌≡◌ {A = Result X WalkFault} (Err (Overflow i)) (Err (Overflow place)) = e in cc) h,
    λ r. ap (λ (n : ℕ). Err (Overflow n)) (one_out i place h r),
  )

  -- whatever is answered
  pub answered_exactly : {X : Type 0} (names : X → List N) (r : Result X WalkFault) → IfOk r (λ x. IsFine g most (names x)) → IfErr r (Stops g most) → IsExactly g most r
  answered_exactly names (Ok x) fine cause = made_exactly x (names x) fine
  answered_exactly {X} names (Err fault) fine cause = cause_exactly {X = X} fault cause

  -- nothing starts
  pub nothing_exactly : {X : Type 0} (x : X) → g.start ≡ None → IsExactly g {X = X} most (Ok x)
  nothing_exactly {X} x none = by_fault where
    not_there : (p : N) → g.start ≡ Some p → ⊥
    not_there p some = absurd (let wrong : ◌≡◌ {A = Option N} None (Some p) = sym none ∙ some in cc)

    by_fault : IsExactly g {X = X} most (Ok x)
    by_fault (StateLimit limit) = ((λ e. absurd (cc)), (λ r. absurd (not_there r.1.start r.1.starts)))
    by_fault TooManyArcs = ((λ e. absurd (cc)), (λ r. absurd (not_there r.reached.start r.reached.starts)))
    by_fault (Overflow place) = ((λ e. absurd (cc)), (λ r. absurd (not_there r.reached.start r.reached.starts)))

  -- with memory apart
  pub answered_apart : {X E : Type 0} (names : X → List N) (r : Result (Result X WalkFault) E) → IfOk r (λ x. IfOk x (λ w. IsFine g most (names w))) → IfOk r (λ x. IfErr x (Stops g most)) → IfOk r (IsExactly g most)
  answered_apart names (Ok x) fine cause = answered_exactly names x fine cause
  answered_apart names (Err e) fine cause = tt
