-- Runs of one label among arcs that stand by their labels, and how many steps it takes to find one. (OpenFst manual,
-- "Matchers": arcs that are sorted are matched by a search.)
use Rattle.std.specs.Prelude.{◌≡◌, ℕ, ◌+◌, ◌*◌, ◌^◌, ◌<◌, ◌≤◌, List, length, get_or}
use Rattle.fst_machine.specs.Machine.{Arc}
use Rattle.fst_trim.specs.declared.side.Side.{Side}
use Rattle.fst_trim.specs.Sides.{label_of}

-- The arcs with the label are those in the places from `first` up to before `last`: those before them have lower
-- labels, and those after them greater ones. Where there is none, an arc with the label would stand in place `first`.
pub record IsRun {V : Type 0} (side : Side) (label : ℕ) (arcs : List (Arc V ℕ)) (first last : ℕ) : Type 0 where
  pub order : first ≤ last
  pub within : last ≤ length arcs
  pub before : (k : ℕ) (d : Arc V ℕ) → k < first → label_of side (get_or arcs k d) < label
  pub here : (k : ℕ) (d : Arc V ℕ) → first ≤ k → k < last → label_of side (get_or arcs k d) ≡ label
  pub after : (k : ℕ) (d : Arc V ℕ) → last ≤ k → k < length arcs → label < label_of side (get_or arcs k d)

-- From `old` to `new` there are at most so many steps for each binary digit of n; so many digits write n where it is
-- below this power of 2.
abbrev pub TakesSteps : ℕ → ℕ → ℕ → ℕ → Type 0
TakesSteps times n old new = (digits : ℕ) → n < 2 ^ digits → new ≤ old + times * digits

-- From `old` to `new` so few steps were taken, of two for each binary digit of n but one, that as many are left as it
-- takes to search so many places by halves.
abbrev pub LeavesToSearch : ℕ → ℕ → ℕ → ℕ → Type 0
LeavesToSearch n size old new = (digits : ℕ) → n < 2 ^ digits → (left : ℕ) × (size < 2 ^ left) × (new + left + 1 ≤ old + 2 * digits)
