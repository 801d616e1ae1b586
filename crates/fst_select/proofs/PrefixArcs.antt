-- The arcs of the subset of a prefix.
use Rattle.std.proofs.Common.{◌≡◌, ℕ, ◌<◌, List, [], ◌∷◌, ◌++◌, Some, length, slice_get, refl, subst}
use Rattle.fst_semiring.specs.Cost.{Cost}
use Rattle.fst_semiring.specs.Semiring.{IsWide, times}
use Rattle.fst_semiring.specs.declared.arc_type.ArcType.{ArcType}
use Rattle.fst_machine.specs.BreadthFirst.{Has}
use Rattle.fst_machine.specs.Graph.{Graph, graph_of}
use Rattle.fst_machine.specs.Machine.{Arc, Machine, valued}
use Rattle.fst_machine.proofs.Elements.{Has_at}
use Rattle.fst_trim.specs.Weighed.{IsWeighed, IsWeighted}
use Rattle.fst_determinize.specs.Subsets.{AscendsBy, IsSubset, Member}
use Rattle.fst_determinize.specs.Ways.{Way, arc_by, having, way_by, ways}
use Rattle.fst_determinize.specs.Weighed.{AreMembers}
use Rattle.fst_determinize.proofs.Best.{best_holds}
use Rattle.fst_determinize.proofs.Grouped.{grouped_Has, grouped_ascends, having_Has}
use Rattle.fst_determinize.proofs.Machines.{ways_good}
use Rattle.fst_determinize.proofs.Members.{Has_ways}
use Rattle.fst_determinize.proofs.Stepping.{arc_steps, way_arc}
use Rattle.fst_select.specs.Parting.{arcs_of}

-- a list that ascends around one of its elements
ascends_behind : {X : Type 0} (key : X → ℕ) (front : List X) (x : X) (back : List X) → AscendsBy key (front ++ x ∷ back) → (y : X) → Has back y → key x < key y
ascends_behind key [] x back up y h = up.0 y h
ascends_behind key (z ∷ front) x back up y h = ascends_behind key front x back up.1 y h

module _ (kind : ArcType) (g : Graph ℕ) (members : List Member) where
  -- the labels of the arcs ascend
  pub labels_ascend : (front back : List (Arc Cost (List Member))) (a : Arc Cost (List Member)) → arcs_of kind g members ≡ front ++ a ∷ back
      → (b : Arc Cost (List Member)) → Has back b → a.ilabel < b.ilabel
  labels_ascend front back a parts b h =
      let up : AscendsBy (λ (c : Arc Cost (List Member)). c.ilabel) (arcs_of kind g members)
      = grouped_ascends (λ (y : Way). y.label) (arc_by kind) (λ c. c.ilabel) (λ label ys. refl) (ways kind g members) in
      ascends_behind (λ c. c.ilabel) front a back (subst (λ (cs : List (Arc Cost (List Member))). AscendsBy (λ c. c.ilabel) cs) parts up) b h

  module _ (weighted : IsWeighted kind g) (x : List ℕ) (by : Cost) (is : IsSubset kind g x by members) where
    -- an arc leads to the subset of the prefix and its label
    pub arc_subset : (a : Arc Cost (List Member)) → Has (arcs_of kind g members) a → IsSubset kind g (x ++ a.ilabel ∷ []) (times kind by a.weight) a.next
    arc_subset a h = let at = Has_at (arcs_of kind g members) a h in (arc_steps kind g weighted x by members is at.0 a at.1).exact

    -- each label of an arc of a member has its arc
    pub member_arc : (n : Member) (k : ℕ) (b : Arc Cost ℕ) → Has members n → slice_get (g.arcs n.state) k ≡ Some b
        → (a : Arc Cost (List Member)) × Has (arcs_of kind g members) a × (a.ilabel ≡ b.ilabel)
    member_arc n k b h at =
        let y = way_by kind n b in
        (arc_by kind b.ilabel (having (λ (z : Way). z.label) b.ilabel (ways kind g members)), way_arc kind g weighted x by members is y (Has_ways kind g members n k b h at), refl)

-- the weights of the arcs of members can be computed with
pub arc_wide : {V : Type 0} (kind : ArcType) (value : V → Cost) (m : Machine V) (h : IsWeighed kind value m) (members : List Member) → AreMembers (length m.states) members
    → (a : Arc Cost (List Member)) → Has (arcs_of kind (graph_of (valued value m)) members) a → IsWide a.weight
arc_wide kind value m h members good a there =
    let ys = ways kind (graph_of (valued value m)) members in
    let from = grouped_Has (λ (y : Way). y.label) (arc_by kind) ys a there in
    subst (λ (b : Arc Cost (List Member)). IsWide b.weight) from.2
    (best_holds (λ (y : Way). y.weight) (λ v. IsWide v) tt (having (λ (y : Way). y.label) from.0.label ys)
    (λ z k. (ways_good kind value m h members good z (having_Has (λ (y : Way). y.label) from.0.label ys z k).0).1))
