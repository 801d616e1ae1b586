-- How many states a machine has that grows by a call.
use Rattle.std.proofs.Common.{◌≡◌, ℕ, ◌+◌, ◌<◌, List, [], ◌∷◌, ◌++◌, length, get_or, refl, sym, ap, ◌∙◌}
use Rattle.std.proofs.lemmas.List.{length-append, length-set}
use Rattle.fst_machine.specs.Machine.{Arc, Machine, bare_state, changed, with_arc, with_final}
use Rattle.fst_machine.proofs.Changes.{set-changed}

-- a change of one element keeps their number
length-changed : {X : Type 0} (f : X → X) (xs : List X) (i : ℕ) (d : X) → i < length xs → length (changed f xs i) ≡ length xs
length-changed f xs i d within = ap length (sym (set-changed f xs i (f (get_or xs i d)) d within refl)) ∙ length-set xs i (f (get_or xs i d))

pub state_added : {V : Type 0} (m n : Machine V) (w : V) → n ≡ record { start = m.start; states = m.states ++ bare_state w ∷ [] } → length n.states ≡ length m.states + 1
state_added {V} m n w grown = ap (λ (k : Machine V). length k.states) grown ∙ length-append m.states (bare_state w ∷ [])

pub arc_added : {V : Type 0} (m n : Machine V) (a : Arc V ℕ) (i : ℕ) → i < length m.states → n ≡ record { start = m.start; states = changed (with_arc a) m.states i } → length n.states ≡ length m.states
arc_added {V} m n a i within grown = ap (λ (k : Machine V). length k.states) grown ∙ length-changed (with_arc a) m.states i (bare_state a.weight) within

pub final_set : {V : Type 0} (m n : Machine V) (w : V) (i : ℕ) → i < length m.states → n ≡ record { start = m.start; states = changed (with_final w) m.states i } → length n.states ≡ length m.states
final_set {V} m n w i within grown = ap (λ (k : Machine V). length k.states) grown ∙ length-changed (with_final w) m.states i (bare_state w) within
