-- What a pushed machine with its total put on, or removed, has from the machine.
use Rattle.std.proofs.Common.{◌≡◌, ◌≢◌, ◌↔◌, ℕ, ◌<◌, true, false, Bool, List, Some, length, sym, ap, ◌∙◌, subst}
use Rattle.fst_semiring.specs.Cost.{Cost, infinite}
use Rattle.fst_semiring.specs.declared.arc_type.ArcType.{ArcType}
use Rattle.fst_semiring.specs.Semiring.{one_of}
use Rattle.fst_machine.specs.Machine.{Machine}
use Rattle.fst_machine.specs.Graph.{graph_of}
use Rattle.fst_machine.specs.Distance.{IsFinalDistance}
use Rattle.fst_machine.specs.Relation.{Rel}
use Rattle.fst_distance.specs.Pushing.{IsPushed, value_at}
use Rattle.fst_distance.specs.PushLaws.{NoArcIsZero}
use Rattle.fst_distance.specs.Totals.{IsAmong, IsPlaceFor, IsPlaced, RelatesBy, put_on}
use Rattle.fst_distance.specs.declared.placing.Place.{Place}
use Rattle.fst_distance.specs.declared.placing.Place.TheVariants.{Nowhere, OnStart, OnCopy}
use Rattle.fst_distance.proofs.PushedMachine.{potential, pushed_next, pushed_one, pushed_relates}
use Rattle.fst_distance.proofs.PutsOn.{placed_relates}

module _ (kind : ArcType) (m p : Machine Cost) (total : Cost) (h : IsPushed kind m p total) (some : NoArcIsZero m) where
  -- the total is not Zero where there is a start
  pub total_some : (s : ℕ) → p.start ≡ Some s → total ≢ infinite
  total_some s e z =
      let starts : h.connected.start ≡ Some s = sym h.pushes.start ∙ e in
      (potential kind m p total h some).not_zero s (h.pushes.begins s starts) (sym (h.start ∙ ap (value_at h.distances) starts) ∙ z)

  pub placed_some : (removed : Bool) (place : Place) → IsPlaceFor removed kind total p place → IsPlaced place → total ≢ infinite
  placed_some true Nowhere is placed = absurd placed
  placed_some true (OnStart s) is placed = absurd (cc)
  placed_some true (OnCopy s) is placed = absurd (cc)
  placed_some false Nowhere is placed = absurd placed
  placed_some false (OnStart s) is placed = total_some s is.0
  placed_some false (OnCopy s) is placed = total_some s is.0

  -- with its total it relates the same
  pub totalled_keeps : (place : Place) → IsPlaceFor false kind total p place → IsAmong (length p.states) place → (x y : List ℕ) (w : Cost) → Rel kind (graph_of m) x y w ↔ Rel kind (graph_of (put_on kind total p place)) x y w
  totalled_keeps place is among x y w =
      let one = pushed_relates kind m p total h some x y w in
      let two = placed_relates kind total p (pushed_next kind m p total h some) place is among total_some x y w in
      ((λ r. two.1 (one.0 r)), (λ r. one.1 (two.0 r)))

  -- without it, it is the pushed machine
  nowhere : (place : Place) → place ≡ Nowhere → put_on kind total p place ≡ p
  nowhere place is = ap (put_on kind total p) is

  pub totalled_removes : (r : Machine Cost) (place : Place) → IsPlaceFor true kind total p place → r ≡ put_on kind total p place → (t : Cost) × IsPushed kind m r t × RelatesBy kind t m r
  totalled_removes r place is same =
      let here : p ≡ r = sym (same ∙ nowhere place is) in
      (total, subst (λ (q : Machine Cost). IsPushed kind m q total) here h, subst (λ (q : Machine Cost). RelatesBy kind total m q) here (pushed_relates kind m p total h some))

  pub totalled_one : (r : Machine Cost) (place : Place) → IsPlaceFor true kind total p place → r ≡ put_on kind total p place → (q : ℕ) → q < length r.states → IsFinalDistance kind (graph_of r) q (one_of kind)
  totalled_one r place is same =
      let here : p ≡ r = sym (same ∙ nowhere place is) in
      subst (λ (n : Machine Cost). (q : ℕ) → q < length n.states → IsFinalDistance kind (graph_of n) q (one_of kind)) here (pushed_one kind m p total h some)
