-- Machines that are built, with states more.
use Rattle.std.proofs.Common.{◌≡◌, ℕ, ◌+◌, ◌-◌, ◌<◌, ◌≤◌, suc, List, [], ◌∷◌, ◌++◌, length, map, replicate, Option, sym, ap, ◌∙◌, arith, append_assoc, append-nil}
use Rattle.std.proofs.lemmas.List.Sums.{sum_by_push}
use Rattle.std.proofs.lemmas.List.{length-append, length-map, map-append}
use mathlib.Core.Path.{fun_ext}
use Rattle.fst_semiring.specs.Cost.{Cost, infinite}
use Rattle.fst_machine.specs.Machine.{Machine, State, arc_total, bare_state, valued, valued_state}
use Rattle.fst_text.specs.Building.{Building, grown, with_place, with_state}

-- the values of the states with a state more that has no arcs
pub states-pushed : {V : Type 0} (value : V → Cost) (states : List (State V)) (w : V) → value w ≡ infinite → map (valued_state value) (states ++ bare_state w ∷ []) ≡ map (valued_state value) states ++ bare_state infinite ∷ []
states-pushed value states w e = map-append (valued_state value) states (bare_state w ∷ []) ∙ ap (λ v. map (valued_state value) states ++ bare_state v ∷ []) e

-- a state more, and a number more that has its place
pub with_state-is : {V : Type 0} (value : V → Cost) (m : Machine V) (w : V) (found more : ℕ → Option ℕ) (n place : ℕ) → value w ≡ infinite → place ≡ length m.states → ((k : ℕ) → more k ≡ with_place found n place k) → record { found = more; machine = valued value (record { start = m.start; states = m.states ++ bare_state w ∷ [] }) } ≡ with_state (record { found = found; machine = valued value m }) n
with_state-is value m w found more n place e at h =
    let states = map (valued_state value) m.states in
    let same : place ≡ length states = at ∙ sym (length-map m.states (valued_state value)) in
    let knows : more ≡ with_place found n (length states) = fun_ext (λ k. h k ∙ ap (λ (p : ℕ). with_place found n p k) same) in
    let grows = states-pushed value m.states w e in
    let first : Building = record { found = more; machine = valued value (record { start = m.start; states = m.states ++ bare_state w ∷ [] }) } in
    ap (λ (f : ℕ → Option ℕ). record first { found = f }) knows ∙ ap (λ (ss : List (State Cost)). record { found = with_place found n (length states); machine = record { start = m.start; states = ss } }) grows

-- a state more on the way to so many
pub grown-more : (n : ℕ) (states : List (State Cost)) → length states ≤ n → grown (n + 1) (states ++ bare_state infinite ∷ []) ≡ grown (n + 1) states
grown-more n states few =
    let bare : State Cost = bare_state infinite in
    let longer : length (states ++ bare ∷ []) ≡ length states + 1 = length-append states (bare ∷ []) in
    let left : suc (n + 1 - length (states ++ bare ∷ [])) ≡ n + 1 - length states = omega arith in
    append_assoc states (bare ∷ []) (replicate (n + 1 - length (states ++ bare ∷ [])) bare) ∙ ap (λ (k : ℕ). states ++ replicate k bare) left

-- so many states are there
pub grown-all : (n : ℕ) (states : List (State Cost)) → n < length states → grown (n + 1) states ≡ states
grown-all n states many =
    let none : n + 1 - length states ≡ 0 = omega arith in
    ap (λ (k : ℕ). states ++ replicate k (bare_state infinite)) none ∙ append-nil states

pub length-pushed : {V : Type 0} (value : V → Cost) (states : List (State V)) (w : V) → length (map (valued_state value) (states ++ bare_state w ∷ [])) ≡ length (map (valued_state value) states) + 1
length-pushed value states w = simp (length-map, length-append)

-- a state more that has no arcs
pub arc_total-pushed : {V : Type 0} (states : List (State V)) (w : V) → arc_total (states ++ bare_state w ∷ []) ≡ arc_total states
arc_total-pushed {V} states w = omega (arith, sum_by_push (λ (s : State V). length s.arcs) states (bare_state w))
