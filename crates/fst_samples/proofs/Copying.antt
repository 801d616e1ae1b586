-- The states of a machine, copied one after the other.
use Rattle.std.proofs.Common.{◌≡◌, ℕ, ◌+◌, ◌≤◌, suc, List, [], ◌∷◌, ◌++◌, None, Some, length, get_or, take, slice_get, sym, ap, ◌∙◌, subst, arith}
use Rattle.std.specs.Option.{option_map}
use Rattle.std.proofs.Math.Seq.{take-suc}
use Rattle.std.proofs.lemmas.List.Sums.{sum_by_more_le}
use Rattle.std.proofs.lemmas.Option.{slice_get_within, get_or_from_slice_get}
use Rattle.fst_semiring.specs.Cost.{Cost}
use Rattle.fst_machine.specs.Machine.{Arc, State, Machine, IsMachine, arc_total}
use Rattle.fst_machine.proofs.Valued.{stands}

module _ {V : Type 0} (states : List (State V)) (k : ℕ) (w : V) (arcs : List (Arc V ℕ)) (final : option_map (λ s. s.final) (slice_get states k) ≡ Some w) (has : option_map (λ s. s.arcs) (slice_get states k) ≡ Some arcs) where
  there : slice_get states k ≡ Some (record { final = w; arcs = arcs })
  there = stands states k w arcs final has

  at : (s : State V) → slice_get states k ≡ Some s → get_or states k s ≡ s
  at s is = get_or_from_slice_get states k s s is

  -- one more state is copied
  pub copied_more : (list more : List (State V)) → list ≡ take k states → more ≡ list ++ record { final = w; arcs = arcs } ∷ [] → more ≡ take (k + 1) states
  copied_more list more so_far put =
      let s : State V = record { final = w; arcs = arcs } in
      let step = take-suc states k s (slice_get_within states k s there) ∙ ap (λ (t : State V). take k states ++ t ∷ []) (at s there) in
      let next : suc k ≡ k + 1 = omega arith in
      put ∙ ap (λ (l : List (State V)). l ++ s ∷ []) so_far ∙ sym step ∙ ap (λ (n : ℕ). take n states) next

  -- there is room for its arcs
  pub copied_room : (list : List (State V)) (n : ℕ) → list ≡ take k states → arc_total states ≤ n → arc_total list + length arcs ≤ n
  copied_room list n so_far most =
      let s : State V = record { final = w; arcs = arcs } in
      let room = sum_by_more_le (λ (t : State V). length t.arcs) states k s (slice_get_within states k s there) in
      let own : length (get_or states k s).arcs ≡ length arcs = ap (λ (t : State V). length t.arcs) (at s there) in
      let same : arc_total list ≡ arc_total (take k states) = ap arc_total so_far in
      omega (arith, room, own, same, most)

-- the states of a machine without its start are a machine
pub startless : {V : Type 0} (value : V → Cost) (m : Machine V) (list : List (State V)) → list ≡ m.states → IsMachine value m → IsMachine value (record { start = None; states = list })
startless {V} value m list same h = subst (λ (ss : List (State V)). IsMachine value (record { start = None; states = ss })) (sym same) (record { start = tt; arcs = h.arcs; few_states = h.few_states; few_arcs = h.few_arcs })
