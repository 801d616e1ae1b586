-- Keeping just the useful states of a machine keeps its successful paths, one to one.
use Rattle.std.proofs.Common.{◌≡◌, ℕ, List, Some, slice_get, sym, ◌∙◌, subst}
use Rattle.std.proofs.lemmas.Option.{same_Some}
use Rattle.fst_semiring.specs.Cost.{Cost}
use Rattle.fst_semiring.specs.declared.arc_type.ArcType.{ArcType}
use Rattle.fst_machine.specs.Machine.{Machine}
use Rattle.fst_machine.specs.Graph.{graph_of}
use Rattle.fst_machine.specs.Connected.{IsConnected, IsKeptAt}
use Rattle.fst_machine.proofs.Connected.{Kept_has, Kept_from, accessible_next, connected_serves, machine_serves, one_arc, one_place}
use Rattle.fst_machine.proofs.Elements.{at_Has}
use Rattle.fst_trim.specs.KeptPaths.{IsConnectedOn, KeepsPaths}
use Rattle.fst_trim.proofs.OneToOne.{TiesArcs, TiesOnce, tied_one_to_one}

module _ (m c : Machine Cost) (h : IsConnected m c) where
  connected_ties : TiesArcs (λ (p i : ℕ). slice_get h.kept i ≡ Some p) (λ (p i : ℕ). IsKeptAt h.kept ((graph_of m).arcs p)) (graph_of m) (graph_of c)
  connected_ties = record {
    start = (connected_serves m c h).start;
    arcs = λ p i k a tied has reaches.
        let further = accessible_next (graph_of m) p k a ((h.useful p).0 (at_Has h.kept i p tied)).0 has in
        Kept_has h.kept ((graph_of m).arcs p) ((graph_of c).arcs i) k a (h.arcs i p tied) has ((h.useful a.next).1 (further, reaches));
    final = (connected_serves m c h).final;
  }

  machine_ties : TiesArcs (λ (i p : ℕ). slice_get h.kept i ≡ Some p) (λ (i p j k : ℕ). IsKeptAt h.kept ((graph_of m).arcs p) k j) (graph_of c) (graph_of m)
  machine_ties = record {
    start = (machine_serves m c h).start;
    arcs = λ i p j b tied has reaches. Kept_from h.kept ((graph_of m).arcs p) ((graph_of c).arcs i) j b (h.arcs i p tied) has;
    final = (machine_serves m c h).final;
  }

  -- a place of the machine has one new place
  kept_once : TiesOnce (λ (p i : ℕ). slice_get h.kept i ≡ Some p) (λ (p i : ℕ). IsKeptAt h.kept ((graph_of m).arcs p))
  kept_once = record { place = λ p i l k j x one two at other. one_place h.kept ((graph_of m).arcs p) k j x at other }

  -- and a new place is that of one arc
  kept_only : TiesOnce (λ (i p : ℕ). slice_get h.kept i ≡ Some p) (λ (i p j k : ℕ). IsKeptAt h.kept ((graph_of m).arcs p) k j)
  kept_only = record {
    place = λ i p q j k x one two at other.
        let states : q ≡ p = same_Some q p (sym two ∙ one) in
        one_arc h.kept ((graph_of m).arcs p) k x j at (subst (λ (s : ℕ). IsKeptAt h.kept ((graph_of m).arcs s) x j) states other);
  }

  -- keeping the useful states keeps the successful paths
  pub connected_keeps : (kind : ArcType) → KeepsPaths kind m c h.kept
  connected_keeps kind = tied_one_to_one (λ (p i : ℕ). slice_get h.kept i ≡ Some p) (λ (p i : ℕ). IsKeptAt h.kept ((graph_of m).arcs p)) (graph_of m) (graph_of c) connected_ties machine_ties kept_once kept_only kind

pub connected_on_keeps : (m c : Machine Cost) (kept : List ℕ) (kind : ArcType) → IsConnectedOn m c kept → KeepsPaths kind m c kept
connected_on_keeps m c kept kind on = subst (λ (ps : List ℕ). KeepsPaths kind m c ps) on.1 (connected_keeps m c on.0 kind)
