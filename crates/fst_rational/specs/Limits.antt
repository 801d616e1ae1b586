-- When an operation is refused for the size of its result.
use Rattle.std.specs.Prelude.{◌≡◌, ◌↔◌, ℕ, ◌<◌, ◌≤◌, nat_lt, length, Option, None, Some, Result, IsErrOf, if◌then◌else◌}
use Rattle.fst_semiring.specs.Cost.{Cost}
use Rattle.fst_machine.specs.Machine.{Machine, arc_total, most_arcs, most_states}
use Rattle.fst_rational.specs.declared.fault.RationalFault.{RationalFault}
use Rattle.fst_rational.specs.declared.fault.RationalFault.TheVariants.{TooManyStates, TooManyArcs}

-- It has too many states exactly where the defined machine has more than there may be, and too many arcs
-- exactly where it has not, and has more arcs than there may be.
pub record IsLimited {X : Type 0} (m : Machine Cost) (result : Result X RationalFault) : Type 0 where
  pub states : IsErrOf result TooManyStates ↔ (most_states < length m.states)
  pub arcs : IsErrOf result TooManyArcs ↔ ((length m.states ≤ most_states) × (most_arcs < arc_total m.states))

-- it has this size: so many states, and so many arcs
pub record IsSize (m : Machine Cost) (size : ℕ × ℕ) : Type 0 where
  pub states : size.0 ≡ length m.states
  pub arcs : size.1 ≡ arc_total m.states

-- it has no more of either than there may be
pub record IsSmall (m : Machine Cost) : Type 0 where
  pub states : length m.states ≤ most_states
  pub arcs : arc_total m.states ≤ most_arcs

-- why a machine with so many states and arcs is not made
abbrev pub size_fault : ℕ × ℕ → Option RationalFault
size_fault size = if nat_lt most_states size.0 then Some TooManyStates else (if nat_lt most_arcs size.1 then Some TooManyArcs else None)

-- how many arcs enter a machine with this start
abbrev pub start_count : Option ℕ → ℕ
start_count None = 0
start_count (Some s) = 1
