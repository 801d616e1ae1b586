-- A machine is pushed to one machine, has one machine of classes, and is minimized to one machine, or for one reason.
use Rattle.std.proofs.Common.{◌≡◌, ◌⊎◌, inl, inr, ℕ, suc, ◌<◌, ◌≤◌, List, [], ◌∷◌, Option, None, Some, length, map, get_or, slice_get, refl, sym, ap, ap₂, ◌∙◌, subst, arith}
use Rattle.std.specs.Option.{option_map}
use Rattle.std.proofs.lemmas.Bool.{cases_lt}
use Rattle.std.proofs.lemmas.Option.{slice_get-get_or, slice_get_within, same_Some}
use Rattle.fst_semiring.specs.Cost.{Cost}
use Rattle.fst_semiring.specs.declared.arc_type.ArcType.{ArcType}
use Rattle.fst_semiring.specs.Division.{push_quotient}
use Rattle.fst_machine.specs.Machine.{Arc, Machine}
use Rattle.fst_machine.specs.Graph.{graph_of, renamed}
use Rattle.fst_machine.specs.BreadthFirst.{Has}
use Rattle.fst_machine.specs.Distance.{IsFinalDistance}
use Rattle.fst_machine.proofs.Elements.{at_Has, Has_at}
use Rattle.fst_machine.proofs.OneMachine.{one_ascending, one_connected, one_list, one_machine}
use Rattle.fst_machine.proofs.Weights.{one_least}
use Rattle.fst_distance.specs.Pushing.{IsPushed, Pushes, pushed_arc, value_at}
use Rattle.fst_minimize.specs.Classes.{HasClasses}
use Rattle.fst_minimize.specs.Laws.{totalled}
use Rattle.fst_minimize.specs.Minimized.{IsMinimized}

-- ---- pushed machines

-- arcs whose weights are pushed by the same values
same_pushed : (kind : ArcType) (d e : ℕ → Cost) (p : ℕ) → d p ≡ e p → (arcs : List (Arc Cost ℕ)) → ((k : ℕ) (a : Arc Cost ℕ) → slice_get arcs k ≡ Some a → d a.next ≡ e a.next)
    → map (pushed_arc kind d p) arcs ≡ map (pushed_arc kind e p) arcs
same_pushed kind d e p own [] ends = refl
same_pushed kind d e p own (a ∷ arcs) ends =
    let first : pushed_arc kind d p a ≡ pushed_arc kind e p a = rw (own, ends 0 a refl) refl in
    let rest = same_pushed kind d e p own arcs (λ k b there. ends (suc k) b there) in
    rw (first, rest) refl

same_value : (d e : ℕ → Cost) (start : Option ℕ) → ((p : ℕ) → start ≡ Some p → d p ≡ e p) → value_at d start ≡ value_at e start
same_value d e None same = refl
same_value d e (Some p) same = same p refl

-- machines pushed from one machine, by the same values of its states
module _ (kind : ArcType) (c r q : Machine Cost) (d e : ℕ → Cost) (first : Pushes kind d (graph_of c) (graph_of r) (λ p. p < length c.states)) (second : Pushes kind e (graph_of c) (graph_of q) (λ p. p < length c.states))
    (size : length r.states ≡ length c.states) (sizes : length q.states ≡ length c.states) (same : (p : ℕ) → p < length c.states → d p ≡ e p) where
  one_pushing : r ≡ q
  one_pushing = one_machine r q (first.start ∙ sym second.start) (size ∙ sym sizes) at
    where
      at : (p : ℕ) → p < length r.states → ((graph_of r).final p ≡ (graph_of q).final p) × ((graph_of r).arcs p ≡ (graph_of q).arcs p)
      at p low =
          let less : p < length c.states = omega (arith, low, size) in
          let finals = first.final p less ∙ (ap (push_quotient kind ((graph_of c).final p)) (same p less) ∙ sym (second.final p less)) in
          let arcs = first.arcs p less ∙ (same_pushed kind d e p (same p less) ((graph_of c).arcs p) (λ k a there. same a.next (first.within p k a less there)) ∙ sym (second.arcs p less)) in
          (finals, arcs)

  one_value : value_at d c.start ≡ value_at e c.start
  one_value = same_value d e c.start (λ p starts. same p (first.begins p starts))

-- a machine is pushed to one machine, with one total
pub one_pushed : (kind : ArcType) (m r q : Machine Cost) (total other : Cost) → IsPushed kind m r total → IsPushed kind m q other → (r ≡ q) × (total ≡ other)
one_pushed kind m r q total other one two =
    subst After (one_connected m one.connected two.connected one.trims two.trims) here two.distances two.distance two.states two.pushes two.start
  where
    After : Machine Cost → Type 0
    After c = (e : ℕ → Cost) → ((p : ℕ) → p < length c.states → IsFinalDistance kind (graph_of c) p (e p)) → length q.states ≡ length c.states
        → Pushes kind e (graph_of c) (graph_of q) (λ p. p < length c.states) → other ≡ value_at e c.start → (r ≡ q) × (total ≡ other)

    here : After one.connected
    here e distance states pushes start =
        let same : (p : ℕ) → p < length one.connected.states → one.distances p ≡ e p = λ p low. one_least _ (one.distances p) (e p) (one.distance p low) (distance p low) in (
          one_pushing kind one.connected r q one.distances e one.pushes pushes one.states states same,
          one.start ∙ (one_value kind one.connected r q one.distances e one.pushes pushes one.states states same ∙ sym start),
        )

-- ---- machines of classes

-- a least member stands for a class of any other machine of the classes
least_there : (m c d : Machine Cost) (one : HasClasses m c) (two : HasClasses m d) (p : ℕ) → Has one.least p → Has two.least p
least_there m c d one two p has =
    let at = Has_at one.least p has in
    let mine = one.member at.0 p at.1 in
    let low : p < length two.class = omega (arith, slice_get_within one.class p at.0 mine, one.classes, two.classes) in
    let other = slice_get-get_or two.class p 0 low in
    let least = two.first p (get_or two.class p 0) other in
    at_Has two.least (get_or two.class p 0) p (least.1 ∙ ap Some (same least.0 (get_or two.class p 0) least.1 least.2 other mine))
  where
    same : (q j : ℕ) → slice_get two.least j ≡ Some q → q ≤ p → slice_get two.class p ≡ Some j → slice_get one.class p ≡ Some (Has_at one.least p has).0 → q ≡ p
    same q j there before other mine = by (cases_lt q p)
      where
        by : (q < p) ⊎ (p ≤ q) → q ≡ p
        by (inr after) = omega (arith, after, before)
        by (inl early) =
            let at = Has_at one.least p has in
            let its = two.member j q there in
            let alike = (two.alike p q j j other its).0 refl in
            let low : q < length one.class = omega (arith, early, slice_get_within one.class p at.0 mine) in
            let here = slice_get-get_or one.class q 0 low in
            let number : at.0 ≡ get_or one.class q 0 = (one.alike p q at.0 (get_or one.class q 0) mine here).1 alike in
            let least = one.first q (get_or one.class q 0) here in
            let stands : least.0 ≡ p = same_Some least.0 p (sym least.1 ∙ (ap (slice_get one.least) (sym number) ∙ at.1)) in
            absurd (omega (arith, stands, least.2, early))

module _ (m c d : Machine Cost) (one : HasClasses m c) (two : HasClasses m d) where
  one_least_list : one.least ≡ two.least
  one_least_list = one_ascending one.least two.least one.ascending two.ascending (λ p. (least_there m c d one two p, least_there m d c two one p))

  -- the class of a state
  one_class : (p i j : ℕ) → slice_get one.class p ≡ Some i → slice_get two.class p ≡ Some j → i ≡ j
  one_class p i j mine other =
      let least = one.first p i mine in
      let its = two.member i least.0 (ap (λ (l : List ℕ). slice_get l i) (sym one_least_list) ∙ least.1) in
      let alike = (one.alike least.0 p i i (one.member i least.0 least.1) mine).0 refl in
      (two.alike least.0 p i j its other).1 alike

  one_class_list : one.class ≡ two.class
  one_class_list = one_list one.class two.class (one.classes ∙ sym two.classes) at
    where
      at : (p x : ℕ) → p < length one.class → get_or one.class p x ≡ get_or two.class p x
      at p x low = one_class p (get_or one.class p x) (get_or two.class p x) (slice_get-get_or one.class p x low) (slice_get-get_or two.class p x (omega (arith, low, one.classes, two.classes)))

  -- there is one machine of the classes
  pub one_machine_of_classes : c ≡ d
  one_machine_of_classes = one_machine c d start size at
    where
      size : length c.states ≡ length d.states
      size = one.states ∙ (ap (λ (l : List ℕ). length l) one_least_list ∙ sym two.states)

      start : c.start ≡ d.start
      start = one.start ∙ (ap (λ (l : List ℕ). option_map (λ p. get_or l p 0) m.start) one_class_list ∙ sym two.start)

      at : (i : ℕ) → i < length c.states → ((graph_of c).final i ≡ (graph_of d).final i) × ((graph_of c).arcs i ≡ (graph_of d).arcs i)
      at i low =
          let p = get_or one.least i 0 in
          let here : slice_get one.least i ≡ Some p = slice_get-get_or one.least i 0 (omega (arith, low, one.states)) in
          let there : slice_get two.least i ≡ Some p = ap (λ (l : List ℕ). slice_get l i) (sym one_least_list) ∙ here in
          let arcs = one.arcs i p here ∙ (ap (λ (l : List ℕ). map (renamed (λ q. get_or l q 0)) ((graph_of m).arcs p)) one_class_list ∙ sym (two.arcs i p there)) in
          (one.final i p here ∙ sym (two.final i p there), arcs)

-- ---- minimized machines

-- a machine is minimized to one machine
pub one_minimized : (kind : ArcType) (m r q : Machine Cost) → IsMinimized kind m r → IsMinimized kind m q → r ≡ q
one_minimized kind m r q one two =
    let pushed = one_pushed kind m one.pushed two.pushed one.total two.total one.pushes two.pushes in
    let has : HasClasses two.pushed one.classes = subst (λ (p : Machine Cost). HasClasses p one.classes) pushed.0 one.has in
    let classes = one_machine_of_classes two.pushed one.classes two.classes has two.has in
    one.same ∙ (ap₂ (totalled kind) pushed.1 classes ∙ sym two.same)
