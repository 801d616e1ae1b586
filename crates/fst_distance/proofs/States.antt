-- A list of states that is made state by state.
use Rattle.std.proofs.Common.{◌≡◌, ℕ, ◌+◌, ◌<◌, ◌≤◌, List, [], ◌∷◌, ◌++◌, length, take, get_or, sym, ap, ◌∙◌, subst, arith}
use Rattle.std.specs.List.{All}
use Rattle.std.proofs.lemmas.List.{take_more}
use Rattle.std.proofs.lemmas.List.Elements.{All-push}
use Rattle.std.proofs.lemmas.List.Sums.{sum_by_more_le}
use Rattle.std.proofs.lemmas.Option.{slice_get-get_or}
use Rattle.fst_semiring.specs.Cost.{Cost}
use Rattle.fst_machine.specs.Machine.{State, Machine, arc_total, most_arcs}
use Rattle.fst_machine.specs.Graph.{no_state}
use Rattle.fst_machine.specs.Narrowing.{IsFirstPast, IsInRange}

module _ (states : List (State Cost)) (i : ℕ) (low : i < length states) where
  abbrev here : State Cost
  here = get_or states i no_state

  one_more : take (i + 1) states ≡ take i states ++ here ∷ []
  one_more = take_more states i no_state low

  -- the state is put behind those before it
  pub put_next : (old new : List (State Cost)) → old ≡ take i states → new ≡ old ++ get_or states i no_state ∷ [] → new ≡ take (i + 1) states
  put_next old new so_far put = put ∙ (ap (λ a. a ++ here ∷ []) so_far ∙ sym one_more)

  pub range_next : All IsInRange (take i states) → IsInRange (get_or states i no_state) → All IsInRange (take (i + 1) states)
  range_next before fits = subst (λ ss. All IsInRange ss) (sym one_more) (All-push IsInRange (take i states) here before fits)

  -- there is room for it
  pub room_next : (n : ℕ) → n ≡ arc_total (take i states) → arc_total states ≤ most_arcs → n + length (get_or states i no_state).arcs ≤ most_arcs
  room_next n so_far few =
      let within = sum_by_more_le (λ (t : State Cost). length t.arcs) states i no_state low in
      omega (arith, within)

-- it is the first past the range
pub first_next : (m : Machine Cost) (i : ℕ) → i < length m.states → All IsInRange (take i m.states) → (IsInRange (get_or m.states i no_state) → ⊥) → IsFirstPast m i
first_next m i low before past = record { here = get_or m.states i no_state; there = slice_get-get_or m.states i no_state low; past = past; before = before }
