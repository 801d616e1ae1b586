-- What pushing makes is determined by the machine, and so is why it makes nothing.
use Rattle.std.proofs.Common.{◌≡◌, ◌⊎◌, inl, inr, ℕ, ◌<◌, ◌≤◌, suc, Bool, true, false, List, [], ◌∷◌, Option, None, Some, length, map, slice_get, take, sym, refl, ap, ap₂, ◌∙◌, subst, arith}
use Rattle.std.proofs.lemmas.Bool.{cases_lt}
use Rattle.fst_semiring.specs.Cost.{Cost}
use Rattle.fst_semiring.specs.declared.arc_type.ArcType.{ArcType}
use Rattle.fst_semiring.specs.Semiring.{times}
use Rattle.fst_semiring.specs.Division.{push_quotient}
use Rattle.fst_machine.specs.Machine.{Machine}
use Rattle.fst_machine.specs.Graph.{graph_of}
use Rattle.fst_machine.specs.Cycles.{IsUseful}
use Rattle.fst_machine.specs.Distance.{IsFinalDistance}
use Rattle.fst_machine.specs.Narrowing.{IsFirstPast, IsInRange}
use Rattle.fst_machine.proofs.BreadthFirst.{at_take}
use Rattle.fst_machine.proofs.Narrowing.{all_at}
use Rattle.fst_machine.proofs.OneMachine.{one_connected, one_machine}
use Rattle.fst_machine.proofs.Weights.{one_least}
use Rattle.fst_search.specs.Distances.{NoneImproves}
use Rattle.fst_distance.specs.Pushing.{IsPushed, pushed_arc, value_at}
use Rattle.fst_distance.specs.Totals.{IsEntered, IsPlace, IsPlaceFor, IsPast, IsPushFault, IsTotalled, IsWithin, OneAnswer, Passes, push_text, put_on}
use Rattle.fst_distance.specs.declared.fault.PushFault.{PushFault}
use Rattle.fst_distance.specs.declared.fault.PushFault.TheVariants.{ImprovingCycle, TooManyStates, TooManyArcs, Overflow, Memory}
use Rattle.fst_distance.specs.declared.placing.Place.{Place}
use Rattle.fst_distance.specs.declared.placing.Place.TheVariants.{Nowhere, OnStart, OnCopy}

-- functions that agree on the elements of a list
map_same : {X Y : Type 0} (f g : X → Y) (xs : List X) → ((k : ℕ) (x : X) → slice_get xs k ≡ Some x → f x ≡ g x) → map f xs ≡ map g xs
map_same f g [] same = refl
map_same f g (x ∷ xs) same = ap₂ (◌∷◌) (same 0 x refl) (map_same f g xs (λ k y has. same (suc k) y has))

one_some : {X : Type 0} (o : Option X) (p q : X) → o ≡ Some p → o ≡ Some q → p ≡ q
one_some o p q e f = let same : Some p ≡ Some q = sym e ∙ f in cc

none_some : {X : Type 0} (o : Option X) (p : X) → o ≡ None → o ≡ Some p → ⊥
none_some o p e f = let same : None ≡ Some p = sym e ∙ f in cc

module _ (kind : ArcType) (m r q : Machine Cost) (total other : Cost) (h : IsPushed kind m r total) (k : IsPushed kind m q other) where
  connected : h.connected ≡ k.connected
  connected = one_connected m h.connected k.connected h.trims k.trims

  size : length h.connected.states ≡ length k.connected.states
  size = ap (λ (c : Machine Cost). length c.states) connected

  distances : (p : ℕ) → p < length h.connected.states → h.distances p ≡ k.distances p
  distances p low = one_least _ (h.distances p) (k.distances p) (h.distance p low)
      (subst (λ (c : Machine Cost). IsFinalDistance kind (graph_of c) p (k.distances p)) (sym connected) (k.distance p (omega (arith, low, size))))

  at : (p : ℕ) → p < length r.states → ((graph_of r).final p ≡ (graph_of q).final p) × ((graph_of r).arcs p ≡ (graph_of q).arcs p)
  at p low =
      let here : p < length h.connected.states = omega (arith, low, h.states) in
      let there : p < length k.connected.states = omega (arith, here, size) in
      let old : (graph_of h.connected).arcs p ≡ (graph_of k.connected).arcs p = ap (λ (c : Machine Cost). (graph_of c).arcs p) connected in
      let arcs : map (pushed_arc kind h.distances p) ((graph_of h.connected).arcs p) ≡ map (pushed_arc kind k.distances p) ((graph_of h.connected).arcs p) =
      map_same (pushed_arc kind h.distances p) (pushed_arc kind k.distances p) ((graph_of h.connected).arcs p) (λ i a has.
      ap₂ (λ (end own : Cost). record { ilabel = a.ilabel; olabel = a.olabel; weight = push_quotient kind (times kind a.weight end) own; next = a.next })
      (distances a.next (h.pushes.within p i a here has)) (distances p here)) in (
        h.pushes.final p here ∙ (ap₂ (λ (c : Machine Cost) (d : Cost). push_quotient kind ((graph_of c).final p) d) connected (distances p here) ∙ sym (k.pushes.final p there)),
        h.pushes.arcs p here ∙ (arcs ∙ (ap (map (pushed_arc kind k.distances p)) old ∙ sym (k.pushes.arcs p there))),
      )

  pub one_pushed : r ≡ q
  one_pushed = one_machine r q (h.pushes.start ∙ (ap (λ (c : Machine Cost). c.start) connected ∙ sym k.pushes.start)) (omega (arith, h.states, k.states, size)) at

  pub one_total : total ≡ other
  one_total = by h.connected.start refl
    where
      by : (o : Option ℕ) → h.connected.start ≡ o → total ≡ other
      by None e =
          let f : k.connected.start ≡ None = ap (λ (c : Machine Cost). c.start) (sym connected) ∙ e in
          (h.start ∙ ap (value_at h.distances) e) ∙ sym (k.start ∙ ap (value_at k.distances) f)
      by (Some s) e =
          let f : k.connected.start ≡ Some s = ap (λ (c : Machine Cost). c.start) (sym connected) ∙ e in
          (h.start ∙ ap (value_at h.distances) e) ∙ (distances s (h.pushes.begins s e) ∙ sym (k.start ∙ ap (value_at k.distances) f))

-- the first state past the range is one
one_first : (m : Machine Cost) (i j : ℕ) → IsFirstPast m i → IsFirstPast m j → i ≡ j
one_first m i j one two = by (cases_lt i j) (cases_lt j i)
  where
    never : (p q : ℕ) → p < q → IsFirstPast m p → IsFirstPast m q → ⊥
    never p q low first second = first.past (all_at IsInRange (take q m.states) p first.here (at_take m.states q p first.here first.there low) second.before)

    by : (i < j) ⊎ (j ≤ i) → (j < i) ⊎ (i ≤ j) → i ≡ j
    by (inl low) other = absurd (never i j low one two)
    by (inr high) (inl low) = absurd (never j i low two one)
    by (inr high) (inr low) = omega (arith, high, low)

-- the place of the total is one
one_place : (kind : ArcType) (total : Cost) (m : Machine Cost) (a b : Place) → IsPlace kind total m a → IsPlace kind total m b → a ≡ b
one_place kind total m Nowhere Nowhere one two = refl
one_place kind total m Nowhere (OnStart s) (inl none) two = absurd (none_some m.start s none two.0)
one_place kind total m Nowhere (OnStart s) (inr one) two = absurd (two.1 one)
one_place kind total m Nowhere (OnCopy s) (inl none) two = absurd (none_some m.start s none two.0)
one_place kind total m Nowhere (OnCopy s) (inr one) two = absurd (two.1 one)
one_place kind total m (OnStart s) Nowhere one (inl none) = absurd (none_some m.start s none one.0)
one_place kind total m (OnStart s) Nowhere one (inr two) = absurd (one.1 two)
one_place kind total m (OnStart s) (OnStart t) one two = ap OnStart (one_some m.start s t one.0 two.0)
one_place kind total m (OnStart s) (OnCopy t) one two = absurd (one.2 (subst (λ (p : ℕ). IsEntered m p) (one_some m.start t s two.0 one.0) two.2))
one_place kind total m (OnCopy s) Nowhere one (inl none) = absurd (none_some m.start s none one.0)
one_place kind total m (OnCopy s) Nowhere one (inr two) = absurd (one.1 two)
one_place kind total m (OnCopy s) (OnStart t) one two = absurd (two.2 (subst (λ (p : ℕ). IsEntered m p) (one_some m.start s t one.0 two.0) one.2))
one_place kind total m (OnCopy s) (OnCopy t) one two = ap OnCopy (one_some m.start s t one.0 two.0)

one_place_for : (removed : Bool) (kind : ArcType) (total : Cost) (m : Machine Cost) (a b : Place) → IsPlaceFor removed kind total m a → IsPlaceFor removed kind total m b → a ≡ b
one_place_for true kind total m a b one two = one ∙ sym two
one_place_for false kind total m a b one two = one_place kind total m a b one two

module _ (kind : ArcType) (removed : Bool) (m : Machine Cost) where
  pub one_totalled : (r q : Machine Cost) → IsTotalled kind removed m r → IsTotalled kind removed m q → r ≡ q
  one_totalled r q h k =
      let pushed : h.pushed ≡ k.pushed = one_pushed kind m h.pushed k.pushed h.total k.total h.pushes k.pushes in
      let total : h.total ≡ k.total = one_total kind m h.pushed k.pushed h.total k.total h.pushes k.pushes in
      let placed : IsPlaceFor removed kind k.total k.pushed h.place = subst (λ (n : Machine Cost). IsPlaceFor removed kind k.total n h.place) pushed (subst (λ t. IsPlaceFor removed kind t h.pushed h.place) total h.placed) in
      let place : h.place ≡ k.place = one_place_for removed kind k.total k.pushed h.place k.place placed k.placed in
      h.same ∙ (ap (λ t. put_on kind t h.pushed h.place) total ∙ (ap (λ (n : Machine Cost). put_on kind k.total n h.place) pushed ∙ (ap (put_on kind k.total k.pushed) place ∙ sym k.same)))

  -- a machine passes one limit first
  one_limit : (r : Machine Cost) (f h : PushFault) → Passes r f → Passes r h → push_text f ≡ push_text h
  one_limit r (ImprovingCycle c) h one two = absurd one
  one_limit r TooManyStates (ImprovingCycle c) one two = absurd two
  one_limit r TooManyStates TooManyStates one two = refl
  one_limit r TooManyStates TooManyArcs one two = absurd (omega (arith, one, two.0))
  one_limit r TooManyStates (Overflow s) one two = absurd (omega (arith, one, two.0))
  one_limit r TooManyStates Memory one two = absurd two
  one_limit r TooManyArcs (ImprovingCycle c) one two = absurd two
  one_limit r TooManyArcs TooManyStates one two = absurd (omega (arith, two, one.0))
  one_limit r TooManyArcs TooManyArcs one two = refl
  one_limit r TooManyArcs (Overflow s) one two = absurd (omega (arith, one.1, two.1))
  one_limit r TooManyArcs Memory one two = absurd two
  one_limit r (Overflow s) (ImprovingCycle c) one two = absurd two
  one_limit r (Overflow s) TooManyStates one two = absurd (omega (arith, two, one.0))
  one_limit r (Overflow s) TooManyArcs one two = absurd (omega (arith, two.1, one.1))
  one_limit r (Overflow s) (Overflow t) one two = ap (λ (n : ℕ). push_text (Overflow n)) (one_first r s t one.2 two.2)
  one_limit r (Overflow s) Memory one two = absurd two
  one_limit r Memory h one two = absurd one

  -- a fault is a cycle, or a limit that the machine passes
  sorted : (f : PushFault) → IsPushFault kind removed m f → ((NoneImproves kind (graph_of m) (IsUseful (graph_of m)) → ⊥) × (push_text f ≡ push_text (ImprovingCycle []))) ⊎ IsPast kind removed m f
  sorted (ImprovingCycle c) is = inl ((λ none. none is.state is.cycle is.counts is.improves), refl)
  sorted TooManyStates is = inr is
  sorted TooManyArcs is = inr is
  sorted (Overflow s) is = inr is
  sorted Memory is = absurd is

  -- a limit that the machine passes is a fault
  pub past_fault : (f : PushFault) → IsPast kind removed m f → IsPushFault kind removed m f
  past_fault (ImprovingCycle c) is = absurd is.passes
  past_fault TooManyStates is = is
  past_fault TooManyArcs is = is
  past_fault (Overflow s) is = is
  past_fault Memory is = absurd is.passes

  pub one_fault : (f h : PushFault) → IsPushFault kind removed m f → IsPushFault kind removed m h → push_text f ≡ push_text h
  one_fault f h one two = by (sorted f one) (sorted h two)
    where
      by : ((NoneImproves kind (graph_of m) (IsUseful (graph_of m)) → ⊥) × (push_text f ≡ push_text (ImprovingCycle []))) ⊎ IsPast kind removed m f
          → ((NoneImproves kind (graph_of m) (IsUseful (graph_of m)) → ⊥) × (push_text h ≡ push_text (ImprovingCycle []))) ⊎ IsPast kind removed m h → push_text f ≡ push_text h
      by (inl x) (inl y) = x.1 ∙ sym y.1
      by (inl x) (inr y) = absurd (x.0 y.none)
      by (inr x) (inl y) = absurd (y.0 x.none)
      by (inr x) (inr y) = one_limit y.machine f h (subst (λ (r : Machine Cost). Passes r f) (one_totalled x.machine y.machine x.totalled y.totalled) x.passes) y.passes

  -- a machine within the limits passes none
  no_limit : (r : Machine Cost) (f : PushFault) → IsWithin r → Passes r f → ⊥
  no_limit r (ImprovingCycle c) within passes = passes
  no_limit r TooManyStates within passes = omega (arith, within.states, passes)
  no_limit r TooManyArcs within passes = omega (arith, within.arcs, passes.1)
  no_limit r (Overflow s) within passes = passes.2.past (all_at IsInRange r.states s passes.2.here passes.2.there within.range)
  no_limit r Memory within passes = passes

  pub no_fault : (r : Machine Cost) (f : PushFault) → NoneImproves kind (graph_of m) (IsUseful (graph_of m)) → IsTotalled kind removed m r → IsWithin r → IsPushFault kind removed m f → ⊥
  no_fault r f none totalled within is = by (sorted f is)
    where
      by : ((NoneImproves kind (graph_of m) (IsUseful (graph_of m)) → ⊥) × (push_text f ≡ push_text (ImprovingCycle []))) ⊎ IsPast kind removed m f → ⊥
      by (inl x) = x.0 none
      by (inr x) = no_limit r f within (subst (λ (q : Machine Cost). Passes q f) (one_totalled x.machine r x.totalled totalled) x.passes)

  pub one_answer : OneAnswer kind removed m
  one_answer = record { machine = one_totalled; fault = one_fault; apart = no_fault }
