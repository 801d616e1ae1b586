-- The result while it is made.
use Rattle.std.specs.Prelude.{◌≡◌, ◌≤◌, ◌<◌, ℕ, List, [], All, MatchOption, None, Option, length}
use Rattle.fst_semiring.specs.Cost.{Cost}
use Rattle.fst_semiring.specs.declared.arc_type.ArcType.{ArcType}
use Rattle.fst_machine.specs.Graph.{Graph}
use Rattle.fst_machine.specs.Machine.{State, arc_total, most_arcs}
use Rattle.fst_machine.specs.Narrowing.{IsFirstPast, IsInRange}
use Rattle.fst_epsilon.specs.Answers.{AreRemoved}
use Rattle.fst_epsilon.specs.Construction.{best_final, collected, merged}

-- Of all states that were made: how many arcs they have, or more than the limit; and where these are not too many, the
-- first that has a weight out of range, or that all of them are kept.
pub record IsMade (all kept : List (State Cost)) (total : ℕ) (overflow : Option ℕ) : Type 0 where
  pub few : total ≤ most_arcs → total ≡ arc_total all
  pub many : most_arcs < total → most_arcs < arc_total all
  pub range : total ≤ most_arcs → MatchOption overflow (All IsInRange all) (λ state. IsFirstPast (record { start = None; states = all }) state)
  pub all_kept : total ≤ most_arcs → overflow ≡ None → kept ≡ all

-- The first states of the result of a graph have been made, and are kept.
pub record IsRemoving (kind : ArcType) (g : Graph ℕ) (states : ℕ) (kept : List (State Cost)) (total : ℕ) (overflow : Option ℕ) : Type 0 where
  pub all : List (State Cost)
  pub size : length all ≡ states
  pub removed : AreRemoved kind g all
  pub made : IsMade all kept total overflow

-- the state that a closure makes
abbrev pub gathered : ArcType → Graph ℕ → List (ℕ × Cost) → State Cost
gathered kind g closure = record { final = best_final kind g closure; arcs = merged [] (collected kind g closure) }
