-- How a prefix is taken apart by the arcs of its subset.
use Rattle.std.specs.Prelude.{ℕ, ◌+◌, List, length, true, false}
use Rattle.fst_semiring.specs.Cost.{Cost}
use Rattle.fst_semiring.specs.declared.arc_type.ArcType.{ArcType}
use Rattle.fst_machine.specs.Graph.{Graph}
use Rattle.fst_determinize.specs.Subsets.{Member}
use Rattle.fst_select.specs.Keys.{best_total}
use Rattle.fst_select.specs.Frontier.{Front}

-- An arc of a subset: its label, the weight of the whole prefix with it, and the subset behind it.
pub record Branch : Type 0 where
  pub label : ℕ
  pub by : Cost
  pub members : List Member

-- the strings that begin with x, by its subset and the number of labels that are left on the best of them
abbrev pub open_front : ArcType → (ℕ → Cost) → List ℕ → Cost → List Member → ℕ → Front
open_front kind d x by members count = record { prefix = x; closed = false; total = best_total kind d by members; long = length x + count }

-- the string x alone
abbrev pub closed_front : ArcType → Graph ℕ → List ℕ → Cost → List Member → Front
closed_front kind g x by members = record { prefix = x; closed = true; total = best_total kind g.final by members; long = length x }
