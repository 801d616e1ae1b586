-- The states of a result, which make its machine.
use Rattle.std.proofs.Common.{◌≡◌, ℕ, ◌+◌, List, ◌++◌, Option, None, length, map, true, sym, ap, ap₂, subst, ◌∙◌, arith}
use Rattle.std.proofs.lemmas.List.{map-append}
use Rattle.std.proofs.lemmas.List.Sums.{sum_by-append}
use Rattle.fst_semiring.specs.Cost.{Cost}
use Rattle.fst_machine.specs.Machine.{State, Machine, IsMachine, arc_total, valued, valued_state}
use Rattle.fst_machine.proofs.Valued.{IsMachine-unvalued, IsMachine-valued, arc_total-valued}
use Rattle.fst_rational.specs.Constructions.{carried}
use Rattle.fst_rational.specs.Limits.{IsSize}
use Rattle.fst_rational.proofs.Blocks.{arc_total-carried, goings-none}

-- what is borrowed of an operand is its machine
pub same_good : {V : Type 0} (value : V → Cost) {one first : Machine V} → first ≡ one → IsMachine value first → IsMachine (λ v. v) (valued value one)
same_good value {one} is h = IsMachine-valued value one (subst (IsMachine value) is h)

-- these states with this start are the machine
pub put_whole : (m : Machine Cost) (start : Option ℕ) (states : List (State Cost)) → start ≡ m.start → states ≡ m.states → ◌≡◌ {A = Machine Cost} (record { start = start; states = states }) m
put_whole m start states begins are = λ i. record { start = begins i; states = are i }

module _ {V : Type 0} (value : V → Cost) where
  -- the states are a machine
  pub put_machine : (m : Machine Cost) (start : Option ℕ) (new : List (State V)) → start ≡ m.start → map (valued_state value) new ≡ m.states → IsMachine (λ v. v) m → IsMachine value (record { start = start; states = new })
  put_machine m start new begins are h = IsMachine-unvalued value (record { start = start; states = new }) (rw (begins, are) h)

  -- which is this one
  pub put_valued : (m : Machine Cost) (start : Option ℕ) (new : List (State V)) → start ≡ m.start → map (valued_state value) new ≡ m.states → valued value (record { start = start; states = new }) ≡ m
  put_valued m start new begins are = λ i. record { start = begins i; states = are i }

  -- lists stand one behind the other
  pub both_put : (front back : List (State Cost)) (one two : List (State V)) → map (valued_state value) one ≡ front → map (valued_state value) two ≡ back → map (valued_state value) (one ++ two) ≡ front ++ back
  both_put front back one two first second = map-append (valued_state value) one two ∙ ap₂ (λ (xs ys : List (State Cost)). xs ++ ys) first second

  -- states that lead further on have as many arcs
  pub further_sized : (k : ℕ) (states : List (State V)) → arc_total (map (carried k true None) (map (valued_state value) states)) ≡ arc_total states
  further_sized k states = omega (arith, arc_total-carried k true None (map (valued_state value) states), goings-none (map (valued_state value) states), arc_total-valued value states)

  -- the states in front of those of an operand have the other arcs
  pub front_sized : (front : List (State Cost)) (k : ℕ) (b : Machine V) (whole : Machine Cost) {size : ℕ × ℕ} {rest : ℕ} → IsSize whole size → front ++ map (carried k true None) (map (valued_state value) b.states) ≡ whole.states → rest ≡ arc_total b.states → arc_total front + rest ≡ size.1
  front_sized front k b whole is are counted =
      let both = ap arc_total (sym are) ∙ sum_by-append (λ (t : State Cost). length t.arcs) front (map (carried k true None) (map (valued_state value) b.states)) in
      omega (arith, is.arcs, both, counted, further_sized k b.states)
