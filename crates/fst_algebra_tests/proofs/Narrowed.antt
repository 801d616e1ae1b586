-- A wide machine whose numbers are in the range of weights.
use Rattle.std.proofs.Common.{ℕ, ◌<◌, List, map, length, sym, subst, arith}
use Rattle.std.specs.List.{All}
use Rattle.std.proofs.lemmas.List.{get_or-map, length-map}
use Rattle.std.proofs.lemmas.List.Elements.{All-weaker}
use Rattle.fst_semiring.specs.Cost.{Cost}
use Rattle.fst_semiring.specs.Semiring.{InRange, Within}
use Rattle.fst_semiring.proofs.Ranges.{Within-more}
use Rattle.fst_machine.specs.Machine.{Arc, State, valued_arc, valued_state}
use Rattle.fst_machine.specs.Narrowing.{IsInRange}
use Rattle.fst_search.specs.Searching.{most_number}

-- what holds of a mapped list holds of the list
All-unmap : {X Y : Type 0} (P : Y → Type 0) (f : X → Y) (xs : List X) → All P (map f xs) → All (λ x. P (f x)) xs
All-unmap P f xs h i d low = subst P (get_or-map f xs i d (f d) low) (h i (f d) (subst (λ (n : ℕ). i < n) (sym (length-map xs f)) low))

-- a number in range is small enough for a search
few : (w : Cost) → InRange w → Within most_number w
few w h = Within-more 1000000000000000000 most_number w (omega arith) h

module _ {V : Type 0} (value : V → Cost) (states : List (State V)) (fits : All IsInRange (map (valued_state value) states)) where
  own : All (λ s. IsInRange (valued_state value s)) states
  own = All-unmap IsInRange (valued_state value) states fits

  pub narrowed_arcs : All (λ s. All (λ a. Within most_number (value a.weight)) s.arcs) states
  narrowed_arcs = All-weaker (λ s. IsInRange (valued_state value s)) (λ s. All (λ a. Within most_number (value a.weight)) s.arcs)
      (λ s h. All-weaker (λ a. InRange (value a.weight)) (λ a. Within most_number (value a.weight)) (λ a low. few (value a.weight) low) s.arcs (All-unmap (λ (b : Arc Cost ℕ). InRange b.weight) (valued_arc value) s.arcs h.arcs))
      states own

  pub narrowed_finals : All (λ s. Within most_number (value s.final)) states
  narrowed_finals = All-weaker (λ s. IsInRange (valued_state value s)) (λ s. Within most_number (value s.final)) (λ s h. few (value s.final) h.final) states own
