-- The pushed machine: what it has from the machine, and that each of its states has distance One.
use Rattle.std.proofs.Common.{◌≡◌, ◌≢◌, ◌↔◌, ℕ, ◌+◌, ◌<◌, zero, suc, List, [], ◌∷◌, Some, length, map, get_or, slice_get, sym, refl, ap, ◌∙◌, subst, arith}
use Rattle.std.specs.Prelude.{IfSome}
use Rattle.fst_semiring.specs.Cost.{Cost, infinite}
use Rattle.fst_semiring.specs.declared.arc_type.ArcType.{ArcType}
use Rattle.fst_semiring.specs.Semiring.{one_of, times}
use Rattle.fst_semiring.specs.Division.{push_quotient}
use Rattle.fst_semiring.proofs.Laws.{times_zero}
use Rattle.fst_machine.specs.Machine.{Arc, State, Machine}
use Rattle.fst_machine.specs.Graph.{graph_of, no_state}
use Rattle.fst_machine.specs.Relation.{Rel}
use Rattle.fst_machine.specs.Cycles.{IsAccessible, IsCoaccessible}
use Rattle.fst_machine.specs.Distance.{IsFinalDistance}
use Rattle.fst_machine.specs.Connected.{IsTrim}
use Rattle.fst_machine.proofs.Cycles.{state_below}
use Rattle.fst_machine.proofs.Connected.{connected-Rel}
use Rattle.fst_distance.specs.Pushing.{pushed_arc, Pushes, value_at, pushed_from, pushed_machine, IsPushed}
use Rattle.fst_distance.specs.PushLaws.{IsPotential}
use Rattle.fst_distance.proofs.Potential.{attained, distances_potential, times_not_zero}
use Rattle.fst_distance.proofs.PushedPaths.{pushed_path, arc_back, path_there, arc_undone, final_there, pushed_says}
use Rattle.fst_distance.proofs.Normal.{distance_one}
use Rattle.fst_distance.proofs.Rank.{better_count, number_rank}
use Rattle.fst_distance.proofs.Connecting.{connected_next, connected_start, connected_trim, connected_letters, connected_once}

-- the state in a place, pushed
pub pushed_length : (kind : ArcType) (d : ℕ → Cost) (k : ℕ) (states : List (State Cost)) → length (pushed_from kind d k states) ≡ length states
pushed_length kind d k [] = refl
pushed_length kind d k (s ∷ states) = ap suc (pushed_length kind d (k + 1) states)

pub pushed_at : (kind : ArcType) (d : ℕ → Cost) (k : ℕ) (states : List (State Cost)) (p : ℕ) → p < length states
    → get_or (pushed_from kind d k states) p no_state ≡ record { final = push_quotient kind (get_or states p no_state).final (d (k + p)); arcs = map (pushed_arc kind d (k + p)) (get_or states p no_state).arcs }
pushed_at kind d k [] p low = absurd (omega arith)
pushed_at kind d k (s ∷ states) zero low =
    let here : k ≡ k + 0 = omega arith in
    ap (λ (q : ℕ). record { final = push_quotient kind s.final (d q); arcs = map (pushed_arc kind d q) s.arcs }) here
pushed_at kind d k (s ∷ states) (suc p) low =
    let here : k + 1 + p ≡ k + suc p = omega arith in
    pushed_at kind d (k + 1) states p (omega arith)
    ∙ ap (λ (q : ℕ). record { final = push_quotient kind (get_or states p no_state).final (d q); arcs = map (pushed_arc kind d q) (get_or states p no_state).arcs }) here

-- the machine whose arcs and start lead to its states, pushed
pub pushes_machine : (kind : ArcType) (d : ℕ → Cost) (c : Machine Cost) → IfSome c.start (λ s. s < length c.states) → ((p k : ℕ) (a : Arc Cost ℕ) → slice_get ((graph_of c).arcs p) k ≡ Some a → a.next < length c.states)
    → Pushes kind d (graph_of c) (graph_of (pushed_machine kind d c)) (λ p. p < length c.states)
pushes_machine kind d c start next = record {
  start = refl;
  begins = λ p e. subst (λ o. IfSome o (λ s. s < length c.states)) e start;
  within = λ p k a low has. next p k a has;
  arcs = λ p low. ap (λ (s : State Cost). s.arcs) (pushed_at kind d 0 c.states p low) ∙ ap (λ (q : ℕ). map (pushed_arc kind d q) (get_or c.states p no_state).arcs) (none p);
  final = λ p low. ap (λ (s : State Cost). s.final) (pushed_at kind d 0 c.states p low) ∙ ap (λ (q : ℕ). push_quotient kind (get_or c.states p no_state).final (d q)) (none p);
}
  where
    none : (p : ℕ) → 0 + p ≡ p
    none p = omega arith

module _ (kind : ArcType) (m r : Machine Cost) (total : Cost) (h : IsPushed kind m r total)
    (some : (p k : ℕ) (a : Arc Cost ℕ) → slice_get ((graph_of m).arcs p) k ≡ Some a → a.weight ≢ infinite) where
  abbrev pub Below : ℕ → Type 0
  Below p = p < length h.connected.states

  arcs_some : (p k : ℕ) (a : Arc Cost ℕ) → slice_get ((graph_of h.connected).arcs p) k ≡ Some a → a.weight ≢ infinite
  arcs_some = connected_letters m h.connected h.trims (λ l. l.weight ≢ infinite) some

  coaccessible : (p : ℕ) → Below p → IsCoaccessible (graph_of h.connected) p
  coaccessible p low = (connected_trim m h.connected h.trims p low).1

  within : (p k : ℕ) (a : Arc Cost ℕ) → Below p → slice_get ((graph_of h.connected).arcs p) k ≡ Some a → Below a.next
  within p k a low has = connected_next m h.connected h.trims p k a has

  pub potential : IsPotential kind h.distances (graph_of h.connected) Below
  potential = distances_potential kind (graph_of h.connected) Below h.distances arcs_some h.of_kind coaccessible within h.distance

  -- a number of the pushed machine is one of the connected one
  pub same_below : (p : ℕ) → p < length r.states → Below p
  same_below p low = let same = h.states in omega arith

  -- an arc of the pushed machine
  pub pushed_from_arc : (p k : ℕ) (b : Arc Cost ℕ) → slice_get ((graph_of r).arcs p) k ≡ Some b → Below p × ((a : Arc Cost ℕ) × (slice_get ((graph_of h.connected).arcs p) k ≡ Some a) × (pushed_arc kind h.distances p a ≡ b))
  pushed_from_arc p k b has =
      let low = same_below p (state_below r p k b has) in
      (low, arc_back kind h.distances (graph_of h.connected) (graph_of r) Below h.pushes p k b low has)

  -- from each of its states the distance to the final states is One
  pub pushed_one : (p : ℕ) → p < length r.states → IsFinalDistance kind (graph_of r) p (one_of kind)
  pushed_one p low = distance_one kind h.distances (graph_of h.connected) (graph_of r) Below h.pushes potential
      (attained kind (graph_of h.connected) Below h.distances arcs_some h.of_kind coaccessible within h.distance)
      (λ q. better_count h.distances (h.distances q) (length h.connected.states)) (number_rank h.distances (length h.connected.states)) p (same_below p low)

  -- its arcs lead to its states, and so does its start
  pub pushed_next : (p k : ℕ) (b : Arc Cost ℕ) → slice_get ((graph_of r).arcs p) k ≡ Some b → b.next < length r.states
  pushed_next p k b has =
      let a = pushed_from_arc p k b has in
      let low = within p k a.1.0 a.0 a.1.1 in
      let next : a.1.0.next ≡ b.next = ap (λ (c : Arc Cost ℕ). c.next) a.1.2 in
      let same = h.states in
      omega arith

  pub pushed_start : IfSome r.start (λ s. s < length r.states)
  pushed_start =
      let low = subst (λ o. IfSome o (λ s. s < length h.connected.states)) (sym h.pushes.start) (connected_start m h.connected h.trims) in
      subst (λ (n : ℕ). IfSome r.start (λ s. s < n)) (sym h.states) low

  -- each of its states is useful
  pub pushed_trim : IsTrim r
  pushed_trim p low = (accessible, goes_on)
    where
      old : Below p
      old = same_below p low

      accessible : IsAccessible (graph_of r) p
      accessible =
          let a = (connected_trim m h.connected h.trims p old).0 in
          let path = path_there kind h.distances (graph_of h.connected) (graph_of r) Below h.pushes a.path a.first p (h.pushes.begins a.first a.starts) a.leads in
          record { first = a.first; path = pushed_path kind h.distances a.path; starts = h.pushes.start ∙ a.starts; leads = path.0 }

      goes_on : IsCoaccessible (graph_of r) p
      goes_on =
          let a = (connected_trim m h.connected h.trims p old).1 in
          let path = path_there kind h.distances (graph_of h.connected) (graph_of r) Below h.pushes a.path p a.last old a.leads in
          record { last = a.last; path = pushed_path kind h.distances a.path; leads = path.0; final = final_there kind h.distances (graph_of h.connected) (graph_of r) Below h.pushes potential a.last path.1 a.final }

  -- no arc weighs Zero
  pub pushed_some : (p k : ℕ) (b : Arc Cost ℕ) → slice_get ((graph_of r).arcs p) k ≡ Some b → b.weight ≢ infinite
  pushed_some p k b has =
      let from = pushed_from_arc p k b has in
      let a = from.1.0 in
      let next = within p k a from.0 from.1.1 in
      let undone = arc_undone kind h.distances (graph_of h.connected) (graph_of r) Below h.pushes potential p k a from.0 from.1.1 in
      let here : (pushed_arc kind h.distances p a).weight ≢ infinite = λ e. times_not_zero kind a.weight (h.distances a.next) (arcs_some p k a from.1.1) (potential.not_zero a.next next) (sym undone ∙ (ap (times kind (h.distances p)) e ∙ times_zero kind (h.distances p))) in
      subst (λ (c : Arc Cost ℕ). c.weight ≢ infinite) from.1.2 here

  -- labels are as they were
  pub pushed_acceptor : ((p k : ℕ) (a : Arc Cost ℕ) → slice_get ((graph_of m).arcs p) k ≡ Some a → a.olabel ≡ a.ilabel) → (p k : ℕ) (b : Arc Cost ℕ) → slice_get ((graph_of r).arcs p) k ≡ Some b → b.olabel ≡ b.ilabel
  pushed_acceptor all p k b has =
      let from = pushed_from_arc p k b has in
      subst (λ (c : Arc Cost ℕ). c.olabel ≡ c.ilabel) from.1.2 (connected_letters m h.connected h.trims (λ l. l.olabel ≡ l.ilabel) all p k from.1.0 from.1.1)

  pub pushed_once : ((p i j : ℕ) (a b : Arc Cost ℕ) → slice_get ((graph_of m).arcs p) i ≡ Some a → slice_get ((graph_of m).arcs p) j ≡ Some b → a.ilabel ≡ b.ilabel → i ≡ j)
      → (p i j : ℕ) (a b : Arc Cost ℕ) → slice_get ((graph_of r).arcs p) i ≡ Some a → slice_get ((graph_of r).arcs p) j ≡ Some b → a.ilabel ≡ b.ilabel → i ≡ j
  pushed_once once p i j a b one two label =
      let x = pushed_from_arc p i a one in
      let y = pushed_from_arc p j b two in
      connected_once m h.connected h.trims once p i j x.1.0 y.1.0 x.1.1 y.1.1 (ap (λ (c : Arc Cost ℕ). c.ilabel) x.1.2 ∙ (label ∙ sym (ap (λ (c : Arc Cost ℕ). c.ilabel) y.1.2)))

  -- it relates the same with the total as a factor
  pub pushed_relates : (x y : List ℕ) (w : Cost) → Rel kind (graph_of m) x y w ↔ ((v : Cost) × Rel kind (graph_of r) x y v × (w ≡ times kind total v))
  pushed_relates x y w = (there, back)
    where
      start_value : (p : ℕ) → h.connected.start ≡ Some p → total ≡ h.distances p
      start_value p e = h.start ∙ ap (value_at h.distances) e

      there : Rel kind (graph_of m) x y w → (v : Cost) × Rel kind (graph_of r) x y v × (w ≡ times kind total v)
      there rel =
          let c = (connected-Rel m h.connected h.trims kind x y w).0 rel in
          let s = (pushed_says kind h.distances (graph_of h.connected) (graph_of r) Below h.pushes potential c.first x y w (h.pushes.begins c.first c.starts)).0 c.says in
          (s.0, record { first = c.first; starts = h.pushes.start ∙ c.starts; says = s.1 }, s.2 ∙ ap (λ t. times kind t s.0) (sym (start_value c.first c.starts)))

      back : (v : Cost) × Rel kind (graph_of r) x y v × (w ≡ times kind total v) → Rel kind (graph_of m) x y w
      back v =
          let starts : h.connected.start ≡ Some v.1.first = sym h.pushes.start ∙ v.1.starts in
          let s = (pushed_says kind h.distances (graph_of h.connected) (graph_of r) Below h.pushes potential v.1.first x y w (h.pushes.begins v.1.first starts)).1
          (v.0, v.1.says, v.2 ∙ ap (λ t. times kind t v.0) (start_value v.1.first starts)) in
          (connected-Rel m h.connected h.trims kind x y w).1 (record { first = v.1.first; starts = starts; says = s })
