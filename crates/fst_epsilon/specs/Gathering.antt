-- The closure of a state as a list that is gone through.
use Rattle.std.specs.Prelude.{ℕ, ◌+◌, List, if◌then◌else◌, map, nat_eq}
use Rattle.fst_semiring.specs.Cost.{Cost}
use Rattle.fst_search.specs.Closure.{Reached}

-- the state itself before all others, and these by number
abbrev pub rank : ℕ → ℕ → ℕ
rank own state = if nat_eq state own then 0 else state + 1

-- states beside their distances
abbrev pub pairs_of : {D : Type 0} → (D → Cost) → List (Reached D) → List (ℕ × Cost)
pairs_of value list = map (λ r. (r.state, value r.distance)) list
