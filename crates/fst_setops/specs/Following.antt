-- Where a label leads among arcs, and how far these were gone along.
use Rattle.std.specs.Prelude.{ℕ, zero, suc, ◌<◌, ◌≤◌, List, Option, get_or, length}
use Rattle.fst_semiring.specs.Cost.{Cost}
use Rattle.fst_machine.specs.Machine.{Arc}
use Rattle.fst_setops.specs.Difference.{next_by}

-- the second part behind a label, where its state has these arcs, or none where there is no state
abbrev pub led_on : {M : Type 0} → Option M → List (Arc Cost M) → ℕ → Option M
led_on s arcs zero = s
led_on s arcs (suc l) = next_by (suc l) arcs

-- The arcs in the places before this one have lower labels than this one.
pub record IsPassed {V : Type 0} (arcs : List (Arc V ℕ)) (label place : ℕ) : Type 0 where
  pub within : place ≤ length arcs
  pub before : (k : ℕ) (d : Arc V ℕ) → k < place → (get_or arcs k d).ilabel < label
