-- Machines that are narrowed state by state.
use Rattle.std.proofs.Common.{◌≡◌, ◌⊎◌, inl, inr, ℕ, ◌+◌, ◌<◌, ◌≤◌, List, [], ◌∷◌, ◌++◌, Some, Ok, Err, length, take, map, get_or, slice_get, refl, sym, ap, subst, ◌∙◌, arith}
use Rattle.std.specs.List.{All}
use Rattle.std.specs.Option.{option_map}
use Rattle.std.specs.Prelude.{Result}
use Rattle.std.proofs.lemmas.Bool.{cases_lt}
use Rattle.std.proofs.lemmas.List.{length-map, take_more}
use Rattle.std.proofs.lemmas.List.Elements.{All-push}
use Rattle.std.proofs.lemmas.List.Sums.{sum_by_more_le}
use Rattle.std.proofs.lemmas.Option.{get_or_from_slice_get, slice_get_within}
use Rattle.fst_semiring.specs.Cost.{Cost}
use Rattle.fst_machine.specs.Machine.{Arc, State, Machine, arc_total, most_arcs, valued, valued_arc, valued_state}
use Rattle.fst_machine.specs.Narrowing.{IsCause, IsFirstPast, IsInRange, Overflows}
use Rattle.fst_machine.specs.declared.narrow.NarrowFault.{NarrowFault}
use Rattle.fst_machine.specs.declared.narrow.NarrowFault.TheVariants.{Overflow, Memory}
use Rattle.fst_machine.proofs.Arcs.{at_mapped}
use Rattle.fst_machine.proofs.BreadthFirst.{at_take}
use Rattle.fst_machine.proofs.Valued.{arc_total-valued, stands}

-- one more of the elements of a mapped list
pub taken : {X Y : Type 0} (f : X → Y) (xs : List X) (i : ℕ) (x : X) → slice_get xs i ≡ Some x → take (i + 1) (map f xs) ≡ take i (map f xs) ++ f x ∷ []
taken f xs i x e =
    let there = at_mapped f xs i x e in
    take_more (map f xs) i (f x) (slice_get_within (map f xs) i (f x) there)
    ∙ ap (λ y. take i (map f xs) ++ y ∷ []) (get_or_from_slice_get (map f xs) i (f x) (f x) there)

-- what holds of those before it and of it holds of all of them
pub all_taken : {X Y : Type 0} (P : Y → Type 0) (f : X → Y) (xs : List X) (i : ℕ) (x : X) → slice_get xs i ≡ Some x → All P (take i (map f xs)) → P (f x) → All P (take (i + 1) (map f xs))
all_taken P f xs i x e before here = subst (λ ys. All P ys) (sym (taken f xs i x e)) (All-push P (take i (map f xs)) (f x) before here)

-- what holds of all holds of each
pub all_at : {X : Type 0} (P : X → Type 0) (xs : List X) (i : ℕ) (x : X) → slice_get xs i ≡ Some x → All P xs → P x
all_at P xs i x e all = subst P (get_or_from_slice_get xs i x x e) (all i x (slice_get_within xs i x e))

module _ {V U : Type 0} (value : V → Cost) (other : U → Cost) (m : Machine U) (i : ℕ) (last : U) (arcs : List (Arc U ℕ)) (f : option_map (λ s. s.final) (slice_get m.states i) ≡ Some last) (a : option_map (λ s. s.arcs) (slice_get m.states i) ≡ Some arcs) where
  abbrev here : State U
  here = record { final = last; arcs = arcs }

  there : slice_get m.states i ≡ Some here
  there = stands m.states i last arcs f a

  -- the state was put behind those before it
  pub state_put : (old new : List (State V)) → map (valued_state value) old ≡ take i (valued other m).states → map (valued_state value) new ≡ map (valued_state value) old ++ valued_state other (record { final = last; arcs = arcs }) ∷ [] → map (valued_state value) new ≡ take (i + 1) (valued other m).states
  state_put old new so_far put = put ∙ (ap (λ ss. ss ++ valued_state other here ∷ []) so_far ∙ sym (taken (valued_state other) m.states i here there))

  pub state_in_range : All IsInRange (take i (valued other m).states) → IsInRange (valued_state other (record { final = last; arcs = arcs })) → All IsInRange (take (i + 1) (valued other m).states)
  state_in_range before own = all_taken IsInRange (valued_state other) m.states i here there before own

  -- there is room for it
  pub state_room : (old : List (State V)) → map (valued_state value) old ≡ take i (valued other m).states → arc_total m.states ≤ most_arcs → arc_total old + length arcs ≤ most_arcs
  state_room old so_far few =
      let before : arc_total old ≡ arc_total (take i (valued other m).states) = sym (arc_total-valued value old) ∙ ap arc_total so_far in
      let all = arc_total-valued other m.states in
      let ss : List (State Cost) = (valued other m).states in
      let s : State Cost = valued_state other here in
      let at : slice_get ss i ≡ Some s = at_mapped (valued_state other) m.states i here there in
      let within = sum_by_more_le (λ (t : State Cost). length t.arcs) ss i s (slice_get_within ss i s at) in
      let own : length (get_or ss i s).arcs ≡ length s.arcs = ap (λ (t : State Cost). length t.arcs) (get_or_from_slice_get ss i s s at) in
      let same : length s.arcs ≡ length arcs = length-map arcs (valued_arc other) in
      omega (arith, before, all, within, own, same, few)

  -- it is the first past the range
  pub state_past : All IsInRange (take i (valued other m).states) → (IsInRange (valued_state other (record { final = last; arcs = arcs })) → ⊥) → IsFirstPast (valued other m) i
  state_past before past = record { here = valued_state other here; there = at_mapped (valued_state other) m.states i here there; past = past; before = before }

-- there is one first state past the range
module _ (m : Machine Cost) where
  -- a state before the first is in range
  in_range_before : (i j : ℕ) → i < j → IsFirstPast m i → IsFirstPast m j → ⊥
  in_range_before i j low one two = one.past (all_at IsInRange (take j m.states) i one.here (at_take m.states j i one.here one.there low) two.before)

  one_first : (i j : ℕ) → IsFirstPast m i → IsFirstPast m j → i ≡ j
  one_first i j one two = by_order (cases_lt i j) (cases_lt j i)
    where
      by_order : (i < j) ⊎ (j ≤ i) → (j < i) ⊎ (i ≤ j) → i ≡ j
      by_order (inl low) h = absurd (in_range_before i j low one two)
      by_order (inr high) (inl low) = absurd (in_range_before j i low two one)
      by_order (inr high) (inr low) = omega (arith, high, low)

  -- a machine is made
  pub made_exact : {X : Type 0} (x : X) → All IsInRange m.states → Overflows {X = X} m (Ok x)
  made_exact x all state = ((λ e. absurd (cc)), (λ first. absurd (first.past (all_at IsInRange m.states state first.here first.there all))))

  -- there is a cause
  pub cause_exact : {X : Type 0} (fault : NarrowFault) → IsCause m fault → Overflows {X = X} m (Err fault)
  cause_exact {X} (Overflow s) cause state = (
    (λ e. subst (IsFirstPast m) (let z : ◌≡◌ {A = Result X NarrowFault} (Err (Overflow s)) (Err (Overflow state)) = e in cc) cause),
    (λ first. inl (ap (λ (n : ℕ). Err (Overflow n)) (one_first s state cause first))),
  )
  cause_exact Memory cause state = ((λ e. absurd (cc)), (λ first. inr refl))
