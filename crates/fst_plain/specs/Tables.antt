-- Tables of values, one for each state.
use Rattle.std.specs.Prelude.{ℕ, List, get_or}
use Rattle.fst_semiring.specs.Cost.{Cost}
use Rattle.fst_plain.specs.declared.cost.PlainCost.{PlainCost}
use Rattle.fst_plain.specs.declared.cost.PlainCost.TheVariants as plain
use Rattle.fst_plain.specs.Plain.{cost_of, Fits}

-- the value for a state; Zero past the end
abbrev pub table_at : List PlainCost → ℕ → Cost
table_at table p = cost_of (get_or table p plain.Infinite)

-- each value fits
abbrev pub AllFit : ℕ → List PlainCost → Type 0
AllFit n table = (p : ℕ) → Fits n (table_at table p)
