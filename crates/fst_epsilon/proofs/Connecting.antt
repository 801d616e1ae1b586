-- The connected machine has epsilon arcs only where the machine has them.
use Rattle.std.proofs.Common.{◌≡◌, ℕ, Some, get_or, slice_get, sym, ap, ◌∙◌, subst, arith}
use Rattle.std.specs.List.{All}
use Rattle.std.proofs.lemmas.Option.{get_or_from_slice_get, slice_get-get_or, slice_get_within}
use Rattle.fst_semiring.specs.Cost.{Cost}
use Rattle.fst_machine.specs.Connected.{IsConnected}
use Rattle.fst_machine.specs.Distance.{EpsilonArc}
use Rattle.fst_machine.specs.Graph.{graph_of, no_state}
use Rattle.fst_machine.specs.Letters.{Letter}
use Rattle.fst_machine.specs.Machine.{Arc, Machine, State}
use Rattle.fst_machine.proofs.Connected.{Kept_from}
use Rattle.fst_machine.proofs.Cycles.{state_below}
use Rattle.fst_epsilon.specs.Answers.{HasNoEpsilons}

-- no arc of the graph is an epsilon arc
speaks : (m : Machine Cost) → HasNoEpsilons m.states → (p k : ℕ) (a : Arc Cost ℕ) → slice_get ((graph_of m).arcs p) k ≡ Some a
    → EpsilonArc a → ⊥
speaks m none p k a has =
    let within = slice_get_within ((graph_of m).arcs p) k a has in
    let at : EpsilonArc (get_or ((graph_of m).arcs p) k a) → ⊥ = none p no_state (state_below m p k a has) k a within in
    subst (λ (b : Arc Cost ℕ). EpsilonArc b → ⊥) (get_or_from_slice_get ((graph_of m).arcs p) k a a has) at

pub connected_none : (m c : Machine Cost) → IsConnected m c → HasNoEpsilons m.states → HasNoEpsilons c.states
connected_none m c h none i d low = subst (λ (s : State Cost). All (λ (a : Arc Cost ℕ). EpsilonArc a → ⊥) s.arcs) (sym here) arcs
  where
    here : get_or c.states i d ≡ get_or c.states i no_state
    here = get_or_from_slice_get c.states i (get_or c.states i no_state) d (slice_get-get_or c.states i no_state low)

    p : ℕ
    p = get_or h.kept i 0

    there : slice_get h.kept i ≡ Some p
    there = let size = h.states in slice_get-get_or h.kept i 0 (omega (arith, low, size))

    arcs : All (λ (a : Arc Cost ℕ). EpsilonArc a → ⊥) ((graph_of c).arcs i)
    arcs j e within silent =
        let b = get_or ((graph_of c).arcs i) j e in
        let at = slice_get-get_or ((graph_of c).arcs i) j e within in
        let old = Kept_from h.kept ((graph_of m).arcs p) ((graph_of c).arcs i) j b (h.arcs i p there) at in
        speaks m none p old.0 old.1 old.2 (ap (λ (l : Letter). l.ilabel) old.3 ∙ silent.0, ap (λ (l : Letter). l.olabel) old.3 ∙ silent.1)
