-- The states of an operand, carried over where they stand.
use Rattle.std.proofs.Common.{◌≡◌, ℕ, ◌+◌, ◌<◌, ◌≤◌, true, List, [], ◌∷◌, ◌++◌, None, length, map, refl, sym, ap, ◌∙◌, append-nil, arith}
use Rattle.std.specs.List.{All}
use Rattle.std.proofs.lemmas.List.{length-map, map-append}
use Rattle.std.proofs.lemmas.List.Elements.{All-weaker}
use Rattle.fst_semiring.specs.Cost.{Cost}
use Rattle.fst_machine.specs.Extending.{HasRoom, shifted, shifted_state}
use Rattle.fst_machine.specs.Graph.{renamed}
use Rattle.fst_machine.specs.Machine.{Arc, State, Machine, IsArc, IsMachine, most_states, valued_arc, valued_state}
use Rattle.fst_rational.specs.Constructions.{carried}

module _ {V : Type 0} (value : V → Cost) (by : ℕ) where
  -- there is room for the numbers of states
  pub has_room : (states : List (State V)) → by ≤ most_states → All (λ s. All (IsArc value most_states) s.arcs) states → All (HasRoom by) states
  has_room states small good = All-weaker (λ s. All (IsArc value most_states) s.arcs) (HasRoom by)
      (λ s arcs. All-weaker (IsArc value most_states) (λ a. by + a.next < 4294967296) (λ a is. omega (arith, small, is.next)) s.arcs arcs) states good

  pub valued_shifted : (arcs : List (Arc V ℕ)) → map (valued_arc value) (map (shifted by) arcs) ≡ map (renamed (λ p. by + p)) (map (valued_arc value) arcs)
  valued_shifted [] = refl
  valued_shifted (a ∷ arcs) = ap (λ (zs : List (Arc Cost ℕ)). renamed (λ p. by + p) (valued_arc value a) ∷ zs) (valued_shifted arcs)

  -- shifted states are carried
  pub shifted_carried : (states : List (State V)) → map (valued_state value) (map (shifted_state by) states) ≡ map (carried by true None) (map (valued_state value) states)
  shifted_carried [] = refl
  shifted_carried (s ∷ states) =
      ap (λ (zs : List (Arc Cost ℕ)). record { final = value s.final; arcs = zs } ∷ map (valued_state value) (map (shifted_state by) states)) (valued_shifted s.arcs ∙ sym (append-nil (map (renamed (λ p. by + p)) (map (valued_arc value) s.arcs))))
      ∙ ap (λ (ss : List (State Cost)). carried by true None (valued_state value s) ∷ ss) (shifted_carried states)

  -- there is room for those of one state
  pub has_places : (arcs : List (Arc V ℕ)) → by ≤ most_states → All (IsArc value most_states) arcs → All (λ a. by + a.next < 4294967296) arcs
  has_places arcs small good = All-weaker (IsArc value most_states) (λ a. by + a.next < 4294967296) (λ a is. omega (arith, small, is.next)) arcs good

  -- and it has as many
  pub carried_size : (last : V) (arcs : List (Arc V ℕ)) → length (carried by true None (record { final = value last; arcs = map (valued_arc value) arcs })).arcs ≡ length arcs
  carried_size last arcs = ap length (append-nil (map (renamed (λ p. by + p)) (map (valued_arc value) arcs))) ∙ (length-map (map (valued_arc value) arcs) (renamed {N = ℕ} {M = ℕ} (λ p. by + p)) ∙ length-map arcs (valued_arc value))

  -- a shifted state was put behind others
  pub carried_put : (old new : List (State V)) (last : V) (arcs : List (Arc V ℕ)) → new ≡ old ++ record { final = last; arcs = map (shifted by) arcs } ∷ [] → map (valued_state value) new ≡ map (valued_state value) old ++ carried by true None (record { final = value last; arcs = map (valued_arc value) arcs }) ∷ []
  carried_put old new last arcs put =
      ap (map (valued_state value)) put ∙ (map-append (valued_state value) old (record { final = last; arcs = map (shifted by) arcs } ∷ []) ∙ ap (λ (ss : List (State Cost)). map (valued_state value) old ++ ss) (shifted_carried (record { final = last; arcs = arcs } ∷ [])))

-- the arcs of a machine lead to states of which there may be
pub low_arcs : {V : Type 0} (value : V → Cost) (m : Machine V) → IsMachine value m → All (λ s. All (IsArc value most_states) s.arcs) m.states
low_arcs value m h = All-weaker (λ s. All (IsArc value (length m.states)) s.arcs) (λ s. All (IsArc value most_states) s.arcs)
    (λ s arcs. All-weaker (IsArc value (length m.states)) (IsArc value most_states) (λ a is. record { ilabel = is.ilabel; olabel = is.olabel; weight = is.weight; next = omega (arith, is.next, h.few_states) }) s.arcs arcs) m.states h.arcs
