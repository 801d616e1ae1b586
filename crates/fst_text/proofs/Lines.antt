-- What a line adds to a machine that is built.
use Rattle.std.proofs.Common.{◌≡◌, ℕ, ◌<◌, zero, suc, Bool, List, [], ◌∷◌, length, map, Option, refl, ap, ◌∙◌, arith}
use Rattle.std.proofs.lemmas.List.{length-map, map-append}
use Rattle.std.proofs.lemmas.Option.{IfSome_then}
use Rattle.fst_semiring.specs.Cost.{Cost}
use Rattle.fst_machine.specs.Machine.{Arc, Machine, State, changed, valued, valued_arc, valued_state, with_arc, with_final}
use Rattle.fst_text.specs.Entries.{arc_entry, final_entry}
use Rattle.fst_text.specs.Building.{Building, IsPlaced, or_start, place_of, with_entry, with_number}

-- a function of each element after a change of one
pub map-changed : {X Y : Type 0} (f : X → Y) (g : X → X) (h : Y → Y) → ((x : X) → f (g x) ≡ h (f x)) → (xs : List X) (i : ℕ) → map f (changed g xs i) ≡ changed h (map f xs) i
map-changed f g h e [] i = refl
map-changed f g h e (x ∷ xs) zero = ap (λ y. y ∷ map f xs) (e x)
map-changed f g h e (x ∷ xs) (suc i) = ap (λ ys. f x ∷ ys) (map-changed f g h e xs i)

pub length-changed : {X : Type 0} (f : X → X) (xs : List X) (i : ℕ) → length (changed f xs i) ≡ length xs
length-changed f [] i = refl
length-changed f (x ∷ xs) zero = refl
length-changed f (x ∷ xs) (suc i) = ap (λ n. suc n) (length-changed f xs i)

-- the values after one more arc, and after another final weight
states-with_arc : {V : Type 0} (value : V → Cost) (a : Arc V ℕ) (states : List (State V)) (i : ℕ) → map (valued_state value) (changed (with_arc a) states i) ≡ changed (with_arc (valued_arc value a)) (map (valued_state value) states) i
states-with_arc value a states i = map-changed (valued_state value) (with_arc a) (with_arc (valued_arc value a)) (λ s. ap (λ arcs. record { final = value s.final; arcs = arcs }) (map-append (valued_arc value) s.arcs (a ∷ []))) states i

states-with_final : {V : Type 0} (value : V → Cost) (w : V) (states : List (State V)) (i : ℕ) → map (valued_state value) (changed (with_final w) states i) ≡ changed (with_final (value w)) (map (valued_state value) states) i
states-with_final value w states i = map-changed (valued_state value) (with_final w) (with_final (value w)) (λ s. refl) states i

-- the building after an arc between places, and after a final weight at one
abbrev after_arc : Building → ℕ → Arc Cost ℕ → ℕ → Building
after_arc b from a next = record { found = b.found; machine = record { start = or_start from b.machine.start; states = changed (with_arc (record { ilabel = a.ilabel; olabel = a.olabel; weight = a.weight; next = next })) b.machine.states from } }

abbrev after_final : Building → ℕ → Cost → Building
after_final b place w = record { found = b.found; machine = record { start = or_start place b.machine.start; states = changed (with_final w) b.machine.states place } }

-- an arc is added to what has a state for its source, and then one for its next state
pub arc-added : {V : Type 0} (value : V → Cost) (kept : Bool) (b c : Building) (found : ℕ → Option ℕ) (m : Machine V) (source dest from next ilabel olabel : ℕ) (w : V) → c ≡ with_number kept b source → record { found = found; machine = valued value m } ≡ with_number kept c dest → from ≡ place_of kept b source → next ≡ place_of kept c dest → record { found = found; machine = valued value (record { start = or_start from m.start; states = changed (with_arc (record { ilabel = ilabel; olabel = olabel; weight = w; next = next })) m.states from }) } ≡ with_entry kept b (arc_entry source (record { ilabel = ilabel; olabel = olabel; weight = value w; next = dest }))
arc-added value kept b c found m source dest from next ilabel olabel w first second at to =
    let a : Arc Cost ℕ = record { ilabel = ilabel; olabel = olabel; weight = value w; next = dest } in
    ap (λ (ss : List (State Cost)). record { found = found; machine = record { start = or_start from m.start; states = ss } }) (states-with_arc value (record { ilabel = ilabel; olabel = olabel; weight = w; next = next }) m.states from)
    ∙ ap (λ (d : Building). after_arc d from a next) second
    ∙ ap (λ (p : ℕ). after_arc (with_number kept c dest) p a next) at
    ∙ ap (λ (p : ℕ). after_arc (with_number kept c dest) (place_of kept b source) a p) to
    ∙ ap (λ (d : Building). after_arc (with_number kept d dest) (place_of kept b source) a (place_of kept d dest)) first

-- a final weight is set in what has a state for it
pub final-added : {V : Type 0} (value : V → Cost) (kept : Bool) (b : Building) (found : ℕ → Option ℕ) (m : Machine V) (number place : ℕ) (w : V) → record { found = found; machine = valued value m } ≡ with_number kept b number → place ≡ place_of kept b number → record { found = found; machine = valued value (record { start = or_start place m.start; states = changed (with_final w) m.states place }) } ≡ with_entry kept b (final_entry number (value w))
final-added value kept b found m number place w first at =
    ap (λ (ss : List (State Cost)). record { found = found; machine = record { start = or_start place m.start; states = ss } }) (states-with_final value w m.states place)
    ∙ ap (λ (d : Building). after_final d place (value w)) first
    ∙ ap (λ (p : ℕ). after_final (with_number kept b number) p (value w)) at

-- a change of one state leaves each known number its state
pub IsPlaced-changed : {V : Type 0} (value : V → Cost) (found : ℕ → Option ℕ) (m : Machine V) (start : Option ℕ) (f : State V → State V) (i : ℕ) → IsPlaced (record { found = found; machine = valued value m }) → IsPlaced (record { found = found; machine = valued value (record { start = start; states = changed f m.states i }) })
IsPlaced-changed value found m start f i h n =
    let many : length (map (valued_state value) (changed f m.states i)) ≡ length (map (valued_state value) m.states) = simp (length-map, length-changed) in
    IfSome_then (found n) {P = λ p. p < length (map (valued_state value) m.states)} {Q = λ p. p < length (map (valued_state value) (changed f m.states i))} (h n) (λ p low. omega arith)
