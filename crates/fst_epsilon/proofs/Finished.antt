-- The whole result.
use Rattle.std.proofs.Common.{◌≡◌, ◌⊎◌, inl, inr, ℕ, ◌<◌, ◌≤◌, List, [], ◌∷◌, Option, None, Some, length, get_or, slice_get, sym, ap, ◌∙◌, subst, arith}
use Rattle.std.specs.Prelude.{◌↔◌, IfSome}
use Rattle.std.specs.List.{All}
use Rattle.std.proofs.lemmas.Bool.{cases_lt}
use Rattle.std.proofs.lemmas.List.{get_or_past}
use Rattle.std.proofs.lemmas.Option.{get_or_from_slice_get, same_Some, slice_get-get_or, slice_get_within}
use Rattle.fst_semiring.specs.Cost.{Cost, infinite}
use Rattle.fst_semiring.specs.declared.arc_type.ArcType.{ArcType}
use Rattle.fst_semiring.proofs.Laws.{one_not_zero, times_only_zero}
use Rattle.fst_machine.specs.BreadthFirst.{Has}
use Rattle.fst_machine.specs.Cycles.{IsAccessible}
use Rattle.fst_machine.specs.Distance.{EpsilonArc}
use Rattle.fst_machine.specs.Graph.{graph_of, no_state}
use Rattle.fst_machine.specs.Letters.{product}
use Rattle.fst_machine.specs.Machine.{Arc, IsArc, IsMachine, Machine, State, arc_total, greatest_label, most_arcs}
use Rattle.fst_machine.specs.Paths.{IsPath, Transition, letters}
use Rattle.fst_machine.specs.Relation.{IsWeight}
use Rattle.fst_epsilon.specs.Answers.{AreRemoved, HasNoEpsilons, IsGathered, IsRemovedMachine, IsRemovedState, KeepsWeights, NoSilentCycle}
use Rattle.fst_epsilon.specs.Construction.{IsRemoved}
use Rattle.fst_epsilon.specs.Removal.{IsBehind}
use Rattle.fst_epsilon.proofs.Closures.{all_from}
use Rattle.fst_epsilon.proofs.Exact.{arc_from, removed_removes}
use Rattle.fst_epsilon.proofs.Fair.{closure_fair}
use Rattle.fst_epsilon.proofs.Theorem.{same_weights}

module _ (m : Machine Cost) (good : IsMachine (λ (v : Cost). v) m) where
  -- an arc of the graph is one of the machine
  arc_good : (q k : ℕ) (a : Arc Cost ℕ) → slice_get ((graph_of m).arcs q) k ≡ Some a → IsArc (λ (v : Cost). v) (length m.states) a
  arc_good q k a there = by (cases_lt q (length m.states))
    where
      by : (q < length m.states) ⊎ (length m.states ≤ q) → IsArc (λ (v : Cost). v) (length m.states) a
      by (inl low) = at_of k a there (good.arcs q no_state low)
        where
          at_of : (k : ℕ) (a : Arc Cost ℕ) → slice_get ((graph_of m).arcs q) k ≡ Some a → All (IsArc (λ (v : Cost). v) (length m.states)) ((graph_of m).arcs q) → IsArc (λ (v : Cost). v) (length m.states) a
          at_of k a there all = subst (IsArc (λ (v : Cost). v) (length m.states)) (get_or_from_slice_get ((graph_of m).arcs q) k a a there) (all k a (slice_get_within ((graph_of m).arcs q) k a there))
      by (inr past) = absurd (let none : slice_get (no_state).arcs k ≡ Some a = ap (λ (s : State Cost). slice_get s.arcs k) (sym (get_or_past m.states q no_state past)) ∙ there in let wrong : ◌≡◌ {A = Option (Arc Cost ℕ)} None (Some a) = none in cc)

  solid : (q k : ℕ) (a : Arc Cost ℕ) → slice_get ((graph_of m).arcs q) k ≡ Some a → a.weight ≡ infinite → ⊥
  solid q k a there e = (arc_good q k a there).weight e

  pub path_low : (path : List (Transition ℕ)) (q p : ℕ) → q < length m.states → IsPath (graph_of m) q path p → p < length m.states
  path_low [] q p low leads = subst (λ (z : ℕ). z < length m.states) leads low
  path_low (t ∷ path) q p low leads = path_low path t.arc.next p (arc_good q t.place t.arc leads.0.1).next leads.1

  pub near_low : (q : ℕ) → IsAccessible (graph_of m) q → q < length m.states
  near_low q near = path_low near.path near.first q (by m.start near.starts good.start) near.leads
    where
      by : (o : Option ℕ) → o ≡ Some near.first → IfSome o (λ s. s < length m.states) → near.first < length m.states
      by None e low = absurd (let wrong : ◌≡◌ {A = Option ℕ} None (Some near.first) = e in cc)
      by (Some s) e low = subst (λ (z : ℕ). z < length m.states) (same_Some s near.first e) low

  path_finite : (kind : ArcType) (path : List (Transition ℕ)) (q p : ℕ) → IsPath (graph_of m) q path p → product kind (letters path) ≡ infinite → ⊥
  path_finite kind [] q p leads e = one_not_zero kind e
  path_finite kind (t ∷ path) q p leads e = by (path_finite kind path t.arc.next p leads.1) (times_only_zero kind t.arc.weight (product kind (letters path)) e)
    where
      by : (product kind (letters path) ≡ infinite → ⊥) → (t.arc.weight ≡ infinite) ⊎ (product kind (letters path) ≡ infinite) → ⊥
      by rest (inl zero_arc) = solid q t.place t.arc leads.0.1 zero_arc
      by rest (inr zero_rest) = rest zero_rest

  module _ (kind : ArcType) where
    -- what stands behind a path of epsilon arcs is an arc of a machine
    behind_good : (q : ℕ) (b : Arc Cost ℕ) → IsBehind kind (graph_of m) q b → IsArc (λ (v : Cost). v) (length m.states) b
    behind_good q b i =
        let a = arc_good i.state i.place i.arc i.there in
        record {
          ilabel = subst (λ (l : ℕ). l ≤ greatest_label) (sym i.stands.ilabel) a.ilabel;
          olabel = subst (λ (l : ℕ). l ≤ greatest_label) (sym i.stands.olabel) a.olabel;
          weight = λ e. by (times_only_zero kind i.cost i.arc.weight (sym i.weight ∙ e));
          next = subst (λ (n : ℕ). n < length m.states) (sym i.stands.next) a.next;
        }
      where
        by : (i.cost ≡ infinite) ⊎ (i.arc.weight ≡ infinite) → ⊥
        by (inl zero_cost) = path_finite kind i.silent.path q i.state i.silent.leads (sym i.silent.weight ∙ zero_cost)
        by (inr zero_arc) = solid i.state i.place i.arc i.there zero_arc

    gathered_behind : (q : ℕ) (s : State Cost) → IsGathered kind (graph_of m) q s → (b : Arc Cost ℕ) → Has s.arcs b → IsBehind kind (graph_of m) q b
    gathered_behind q s near b has = arc_from kind (graph_of m) q near.closure near.closes b (subst (λ (l : List (Arc Cost ℕ)). Has l b) near.arcs has)

    -- each arc of a state of the result is one of a machine, and not epsilon
    module _ (P : Arc Cost ℕ → Type 0) (behind : (q : ℕ) (b : Arc Cost ℕ) → IsBehind kind (graph_of m) q b → P b) where
      state_arcs : (q : ℕ) (s : State Cost) → IsRemovedState kind (graph_of m) q s → All P s.arcs
      state_arcs q s (inl near) = all_from P s.arcs (λ b has. behind q b (gathered_behind q s near.1 b has))
      state_arcs q s (inr far) = all_from P s.arcs (λ b has. absurd (subst (λ (t : State Cost). Has t.arcs b) far.1 has))

      all_arcs : (states : List (State Cost)) → AreRemoved kind (graph_of m) states → All (λ (s : State Cost). All P s.arcs) states
      all_arcs states removed q d low = state_arcs q (get_or states q d) (removed q (get_or states q d) (slice_get-get_or states q d low))

    module _ (h : Machine Cost) (r : IsRemovedMachine kind m h) where
      gathered : (q : ℕ) → IsAccessible (graph_of m) q → IsGathered kind (graph_of m) q (get_or h.states q no_state)
      gathered q near = let size = r.size in let low = near_low q near in by (r.states q (get_or h.states q no_state) (slice_get-get_or h.states q no_state (omega (arith, size, low))))
        where
          by : IsRemovedState kind (graph_of m) q (get_or h.states q no_state) → IsGathered kind (graph_of m) q (get_or h.states q no_state)
          by (inl at) = at.1
          by (inr far) = absurd (far.0 near)

      apart : (q : ℕ) → (IsAccessible (graph_of m) q → ⊥) → get_or h.states q no_state ≡ no_state
      apart q far = by (cases_lt q (length h.states))
        where
          at : IsRemovedState kind (graph_of m) q (get_or h.states q no_state) → get_or h.states q no_state ≡ no_state
          at (inl near) = absurd (far near.0)
          at (inr none) = none.1

          by : (q < length h.states) ⊎ (length h.states ≤ q) → get_or h.states q no_state ≡ no_state
          by (inl low) = at (r.states q (get_or h.states q no_state) (slice_get-get_or h.states q no_state low))
          by (inr past) = get_or_past h.states q no_state past

      -- its graph is the one without epsilon arcs
      pub removed_graph : IsRemoved kind (graph_of m) (graph_of h)
      removed_graph = record {
        start = r.start;
        closure = λ q near. (gathered q near).closure;
        closes = λ q near. (gathered q near).closes;
        arcs = λ q near. (gathered q near).arcs;
        final = λ q near. (gathered q near).final;
        no_arcs = λ q far. ap (λ (s : State Cost). s.arcs) (apart q far);
        not_final = λ q far. ap (λ (s : State Cost). s.final) (apart q far);
      }

      pub removed_weights : (x y : List ℕ) (w : Cost) → IsWeight kind (graph_of m) x y w ↔ IsWeight kind (graph_of h) x y w
      removed_weights x y w = same_weights kind (graph_of m) (graph_of h) (IsAccessible (graph_of m)) (removed_removes kind (graph_of m) (graph_of h) solid removed_graph) x y w

      pub removed_fair : NoSilentCycle kind (graph_of m)
      removed_fair p cycle near class improves = closure_fair kind (graph_of m) p (gathered p near).closure (gathered p near).closes cycle class improves

      pub removed_none : HasNoEpsilons h.states
      removed_none = all_arcs (λ (b : Arc Cost ℕ). EpsilonArc b → ⊥) (λ q b i. i.speaks) h.states r.states

      pub removed_keeps : KeepsWeights kind m h
      removed_keeps = record { none = removed_none; weights = removed_weights }

      pub removed_machine : arc_total h.states ≤ most_arcs → IsMachine (λ (v : Cost). v) h
      removed_machine few = record {
        start = subst (λ (o : Option ℕ). IfSome o (λ s. s < length h.states)) (sym r.start) (subst (λ (n : ℕ). IfSome m.start (λ s. s < n)) (sym r.size) good.start);
        arcs = subst (λ (n : ℕ). All (λ (s : State Cost). All (IsArc (λ (v : Cost). v) n) s.arcs) h.states) (sym r.size) (all_arcs (IsArc (λ (v : Cost). v) (length m.states)) behind_good h.states r.states);
        few_states = let size = r.size in let most = good.few_states in omega (arith, size, most);
        few_arcs = few;
      }
