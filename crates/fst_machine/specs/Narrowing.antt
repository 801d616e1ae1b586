-- When a machine whose weights have the wide form is a machine: where each number of its weights has absolute value
-- at most 10 to the 18. Memory may run out before a number past this range is found.
use Rattle.std.specs.Prelude.{◌≡◌, ◌⊎◌, ℕ, slice_get, take, Some, Result, IsErrOf, All}
use Rattle.fst_semiring.specs.Cost.{Cost}
use Rattle.fst_semiring.specs.Semiring.{InRange}
use Rattle.fst_machine.specs.Machine.{Machine, State}
use Rattle.fst_machine.specs.declared.narrow.NarrowFault.{NarrowFault}
use Rattle.fst_machine.specs.declared.narrow.NarrowFault.TheVariants.{Overflow, Memory}

-- each number of the final weight and of the weights of the arcs is in range
pub record IsInRange (s : State Cost) : Type 0 where
  pub final : InRange s.final
  pub arcs : All (λ a. InRange a.weight) s.arcs

-- the state with this number has a number past the range, and no state before it has one
pub record IsFirstPast (m : Machine Cost) (state : ℕ) : Type 0 where
  pub here : State Cost
  pub there : slice_get m.states state ≡ Some here
  pub past : IsInRange here → ⊥
  pub before : All IsInRange (take state m.states)

-- The fault names a state only where it is the first of the machine with a number past the range, and where there
-- is one, nothing but a lack of memory comes before it.
abbrev pub Overflows : {X : Type 0} → Machine Cost → Result X NarrowFault → Type 0
Overflows m result = (state : ℕ)
    → (IsErrOf result (Overflow state) → IsFirstPast m state) × (IsFirstPast m state → IsErrOf result (Overflow state) ⊎ IsErrOf result Memory)

-- what a fault says of the machine
abbrev pub IsCause : Machine Cost → NarrowFault → Type 0
IsCause m (Overflow state) = IsFirstPast m state
IsCause m Memory = Unit {0}
