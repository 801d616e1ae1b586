-- States behind a new start, where there is one.
use Rattle.std.proofs.Common.{◌≡◌, ℕ, ◌+◌, ◌≤◌, Bool, List, [], ◌++◌, Option, None, Some, length, map, refl, sym, ap, ◌∙◌, arith}
use Rattle.std.proofs.lemmas.List.Sums.{sum_by-append}
use Rattle.fst_semiring.specs.Cost.{Cost}
use Rattle.fst_machine.specs.Machine.{Arc, State, arc_total, most_arcs, valued_state}
use Rattle.fst_machine.proofs.Valued.{arc_total-valued}
use Rattle.fst_rational.specs.Changing.{goings}
use Rattle.fst_rational.specs.Constructions.{carried, headed}
use Rattle.fst_rational.proofs.Blocks.{arc_total-carried}

module _ {V : Type 0} (value : V → Cost) where
  headed-append : (head : Option V) (arcs : List (Arc V ℕ)) (xs ys : List (State Cost)) → headed value head arcs xs ++ ys ≡ headed value head arcs (xs ++ ys)
  headed-append None arcs xs ys = refl
  headed-append (Some last) arcs xs ys = refl

  headed-total : (head : Option V) (arcs : List (Arc V ℕ)) (xs : List (State Cost)) → arc_total (headed value head arcs xs) ≡ arc_total (headed value head arcs []) + arc_total xs
  headed-total head arcs xs = ap arc_total (sym (headed-append head arcs [] xs)) ∙ sum_by-append (λ (t : State Cost). length t.arcs) (headed value head arcs []) xs

  -- there is room for others behind the new start, which stands alone
  pub behind_fits : (head : Option V) (arcs : List (Arc V ℕ)) {none : List (State V)} → none ≡ [] → (xs : List (State Cost)) → arc_total (headed value head arcs xs) ≤ most_arcs → (list : List (State V)) → map (valued_state value) list ≡ headed value head arcs (map (valued_state value) none) → arc_total list + arc_total xs ≤ most_arcs
  behind_fits head arcs empty xs few list front =
      let begins : map (valued_state value) list ≡ headed value head arcs [] = front ∙ ap (λ (ss : List (State V)). headed value head arcs (map (valued_state value) ss)) empty in
      omega (arith, few, headed-total head arcs xs, ap arc_total begins, arc_total-valued value list)

  -- there is room for the states of an operand themselves
  pub own_fits : (head : Option V) (arcs : List (Arc V ℕ)) (by : ℕ) (keeps : Bool) (target : Option ℕ) (states : List (State V)) {room : ℕ} → arc_total (headed value head arcs (map (carried by keeps target) (map (valued_state value) states))) ≤ room → arc_total states + goings target (map (valued_state value) states) ≤ room
  own_fits head arcs by keeps target states {room} few =
      omega (arith, few, headed-total head arcs (map (carried by keeps target) (map (valued_state value) states)), arc_total-carried by keeps target (map (valued_state value) states), arc_total-valued value states)
