-- The states of an operand, carried over one by one where they stand.
use Rattle.std.proofs.Common.{◌≡◌, ℕ, ◌+◌, ◌<◌, ◌≤◌, suc, Bool, List, [], ◌∷◌, ◌++◌, Option, Some, length, map, take, drop, slice_get, refl, sym, ap, ap₂, subst, ◌∙◌, append-nil, append_assoc, arith}
use Rattle.std.specs.List.{All}
use Rattle.std.specs.Prelude.{Result, Ok, IfOk}
use Rattle.std.specs.Option.{option_map}
use Rattle.std.proofs.lemmas.List.{length-map, map-append}
use Rattle.std.proofs.lemmas.List.Sums.{sum_by-cons}
use Rattle.std.proofs.lemmas.Option.{same_Some}
use Rattle.fst_semiring.specs.Cost.{Cost}
use Rattle.fst_machine.specs.Extending.{shifted}
use Rattle.fst_machine.specs.Machine.{Arc, State, IsArc, most_states, valued_arc, valued_state}
use Rattle.fst_machine.specs.Spreading.{Spread}
use Rattle.fst_rational.specs.Changing.{goings, onward}
use Rattle.fst_rational.specs.Constructions.{carried, kept}
use Rattle.fst_rational.proofs.Carrying.{has_places, valued_shifted}

-- a list without an element
pub none_left : {X : Type 0} (xs : List X) → (0 < length xs → ⊥) → xs ≡ []
none_left [] none = refl
none_left (x ∷ xs) none = absurd (none (omega arith))

-- what is left at first are the states of the machine
pub first_left : {V E : Type 0} (r : Result (Spread V) E) (s : Spread V) (states : List (State V)) (more : ℕ) → IfOk r (λ t. (t.done ≡ []) × (t.left ≡ states) × (more ≤ t.room)) → r ≡ Ok s → s.left ≡ states
first_left {V} {E} r s states more h e = (subst (λ (q : Result (Spread V) E). IfOk q (λ t. (t.done ≡ []) × (t.left ≡ states) × (more ≤ t.room))) e h).1

-- all but the first
pub all_behind : {X : Type 0} (P : X → Type 0) (xs : List X) → All P xs → All P (drop 1 xs)
all_behind P [] good = good
all_behind P (x ∷ xs) good = λ i d low. good (suc i) d (omega (arith, low))

-- one fewer is left
pub fewer_left : {X : Type 0} (xs : List X) → 0 < length xs → length (drop 1 xs) < length xs
fewer_left [] some = absurd (omega (arith, some))
fewer_left (x ∷ xs) some = omega arith

module _ {V : Type 0} (value : V → Cost) (by : ℕ) (keeps : Bool) (target : Option ℕ) where
  abbrev goes : List (State V) → List (State Cost)
  goes states = map (carried by keeps target) (map (valued_state value) states)

  -- there are numbers for the states to which the arcs of the next state lead
  pub next_places : (left : List (State V)) → by ≤ most_states → All (λ s. All (IsArc value most_states) s.arcs) left → (s : State V) → slice_get left 0 ≡ Some s → All (λ a. by + a.next < 4294967296) s.arcs
  next_places [] small good s has = absurd (cc)
  next_places (t ∷ left) small good s has = has_places value by s.arcs small (subst (λ (u : State V). All (IsArc value most_states) u.arcs) (same_Some t s has) (good 0 t (omega arith)))

  -- the arc by which the next state goes on, if it does
  module _ {none own arcs : List (Arc V ℕ)} (last : V) (clear : none ≡ []) (put : map (valued_arc value) own ≡ map (valued_arc value) none ++ onward (value last) target) (same : arcs ≡ own) where
    more : map (valued_arc value) arcs ≡ onward (value last) target
    more = ap (map (valued_arc value)) same ∙ (put ∙ ap (λ (os : List (Arc V ℕ)). map (valued_arc value) os ++ onward (value last) target) clear)

    -- one state goes on
    one_goes : (left : List (State V)) → option_map (λ s. s.final) (slice_get left 0) ≡ Some last → goings target (map (valued_state value) left) ≡ length arcs + goings target (map (valued_state value) (drop 1 left))
    one_goes [] has = absurd (cc)
    one_goes (s ∷ left) has =
        let all = sum_by-cons (λ (t : State Cost). length (onward t.final target)) (valued_state value s) (map (valued_state value) left) in
        let is : s.final ≡ last = same_Some s.final last has in
        let size : length (onward (value s.final) target) ≡ length arcs = ap (λ (v : V). length (onward (value v) target)) is ∙ (sym (ap length more) ∙ length-map arcs (valued_arc value)) in
        omega (arith, all, size)

    pub next_room : (left : List (State V)) {room : ℕ} → option_map (λ s. s.final) (slice_get left 0) ≡ Some last → goings target (map (valued_state value) left) ≤ room → length arcs ≤ room
    next_room left has few = omega (arith, one_goes left has, few)

    pub next_few : (left : List (State V)) {room now : ℕ} → option_map (λ s. s.final) (slice_get left 0) ≡ Some last → goings target (map (valued_state value) left) ≤ room → room ≤ now + length arcs → goings target (map (valued_state value) (drop 1 left)) ≤ now
    next_few left has few stays = omega (arith, one_goes left has, few, stays)

    -- the state is put
    pub next_done : (left old new : List (State V)) {z : V} → option_map (λ s. s.final) (slice_get left 0) ≡ Some last → value z ≡ kept keeps (value last) → ((s : State V) → slice_get left 0 ≡ Some s → new ≡ old ++ record { final = z; arcs = map (shifted by) s.arcs ++ arcs } ∷ []) → map (valued_state value) new ≡ map (valued_state value) old ++ goes (take 1 left)
    next_done [] old new {z} has final done = absurd (cc)
    next_done (s ∷ left) old new {z} has final done =
        let is : last ≡ s.final = sym (same_Some s.final last has) in
        let there : map (valued_arc value) (map (shifted by) s.arcs ++ arcs) ≡ (carried by keeps target (valued_state value s)).arcs = map-append (valued_arc value) (map (shifted by) s.arcs) arcs ∙ ap₂ (λ (xs ys : List (Arc Cost ℕ)). xs ++ ys) (valued_shifted value by s.arcs) (more ∙ ap (λ (v : V). onward (value v) target) is) in
        ap (map (valued_state value)) (done s refl)
        ∙ (map-append (valued_state value) old (record { final = z; arcs = map (shifted by) s.arcs ++ arcs } ∷ [])
        ∙ ap₂ (λ (w : Cost) (os : List (Arc Cost ℕ)). map (valued_state value) old ++ record { final = w; arcs = os } ∷ []) (final ∙ ap (λ (v : V). kept keeps (value v)) is) there)

  -- those that are done, and those that are left, are all
  pub still_whole : (left old new rest : List (State V)) (whole : List (State Cost)) → map (valued_state value) old ++ goes left ≡ whole → map (valued_state value) new ≡ map (valued_state value) old ++ goes (take 1 left) → rest ≡ drop 1 left → map (valued_state value) new ++ goes rest ≡ whole
  still_whole [] old new rest whole so_far put is = ap₂ (λ (xs : List (State Cost)) (ys : List (State V)). xs ++ goes ys) put is ∙ (append-nil (map (valued_state value) old ++ []) ∙ so_far)
  still_whole (s ∷ left) old new rest whole so_far put is = ap₂ (λ (xs : List (State Cost)) (ys : List (State V)). xs ++ goes ys) put is ∙ (append_assoc (map (valued_state value) old) (carried by keeps target (valued_state value s) ∷ []) (goes left) ∙ so_far)

  -- where none is left, all are done
  pub all_done : (left old list : List (State V)) (whole : List (State Cost)) → map (valued_state value) old ++ goes left ≡ whole → left ≡ [] → list ≡ old → map (valued_state value) list ≡ whole
  all_done left old list whole so_far none is = ap (map (valued_state value)) is ∙ (sym (append-nil (map (valued_state value) old)) ∙ (ap (λ (ss : List (State V)). map (valued_state value) old ++ goes ss) (sym none) ∙ so_far))
