-- `shortestdistance`: the distance of each state, from the start or to the final states. (OpenFst manual,
-- "ShortestDistance"; Mohri 2009, section 3.3.)
use Rattle.std.specs.Prelude.{◌≡◌, ◌<◌, ◌+◌, ◌++◌, ℕ, List, [], ◌∷◌, Some, codes, if◌then◌else◌, length, slice_get}
use Rattle.std.specs.Fmt.{decimal}
use Rattle.std.specs.List.{concat}
use Rattle.fst_semiring.specs.declared.arc_type.ArcType.{ArcType}
use Rattle.fst_semiring.specs.Cost.{Cost}
use Rattle.fst_semiring.specs.Semiring.{InRange}
use Rattle.fst_semiring.specs.WeightText.{text_of_cost}
use Rattle.fst_machine.specs.Cycles.{IsImprovingCycle}
use Rattle.fst_machine.specs.Graph.{graph_of}
use Rattle.fst_machine.specs.Machine.{Machine}
use Rattle.fst_machine.specs.Paths.{Transition}
use Rattle.fst_search.specs.Distances.{Counts, IsDistanceTo}
use Rattle.fst_search.specs.declared.direction.Direction.{Direction}
use Rattle.fst_search.specs.declared.direction.Direction.TheVariants.{FromStart, ToFinals}
use Rattle.fst_words.specs.declared.options.Options.{Options}
use Rattle.fst_verbs.specs.Causes.{unmade}
use Rattle.fst_verbs.specs.Meaning.{Meaning, for_one, text}
use Rattle.fst_verbs.specs.declared.commands.measuring.Unmeasured.{Unmeasured}
use Rattle.fst_verbs.specs.declared.commands.measuring.Unmeasured.TheVariants.{ImprovingCycle, Overflow}

-- from the start, or with the flag to the final states
abbrev pub direction_of : Options → Direction
direction_of o = if o.reverse then ToFinals else FromStart

-- these are the distances of the states, by number
pub record AreDistances (direction : Direction) (kind : ArcType) (m : Machine Cost) (distances : List Cost) : Type 0 where
  pub size : length distances ≡ length m.states
  pub each : (q : ℕ) (d : Cost) → slice_get distances q ≡ Some d → IsDistanceTo direction kind (graph_of m) q d

-- a cycle of a state that counts is better than One, so that there is no best path
abbrev pub Improves : Direction → ArcType → Machine Cost → Type 0
Improves direction kind m = (p : ℕ) × (cycle : List (Transition ℕ)) × Counts direction (graph_of m) p × IsImprovingCycle (graph_of m) kind p cycle

-- the distance in this place is the first that has a number of absolute value above 10 to the 18
pub record IsFirstPast (distances : List Cost) (place : ℕ) : Type 0 where
  pub distance : Cost
  pub there : slice_get distances place ≡ Some distance
  pub past : InRange distance → ⊥
  pub first : (q : ℕ) (d : Cost) → q < place → slice_get distances q ≡ Some d → InRange d

-- what stands against telling the distances; the cycle is asked first
abbrev pub IsUnmeasured : Direction → ArcType → Machine Cost → Unmeasured → Type 0
IsUnmeasured direction kind m ImprovingCycle = Improves direction kind m
IsUnmeasured direction kind m (Overflow state) =
    (Improves direction kind m → ⊥) × (distances : List Cost) × AreDistances direction kind m distances × IsFirstPast distances state

abbrev pub measure_text : Unmeasured → List ℕ
measure_text ImprovingCycle = codes "improving cycle"
measure_text (Overflow state) = concat (codes "number too large at state " ∷ decimal state ∷ [])

-- a line for each state: its number, a tab, its distance
abbrev pub distance_line : ArcType → ℕ → Cost → List ℕ
distance_line kind state d = concat (decimal state ∷ codes "\t" ∷ text_of_cost kind d ∷ codes "\n" ∷ [])

abbrev pub distance_lines : ArcType → ℕ → List Cost → List ℕ
distance_lines kind state [] = []
distance_lines kind state (d ∷ ds) = distance_line kind state d ++ distance_lines kind (state + 1) ds

abbrev pub measure_meaning : Options → Meaning
measure_meaning o = record {
  stops = λ given fault. for_one given.machines (λ m.
      (why : Unmeasured) × IsUnmeasured (direction_of o) given.kind m why × (fault ≡ unmade (measure_text why)));
  makes = λ given made. for_one given.machines (λ m.
      (distances : List Cost) × AreDistances (direction_of o) given.kind m distances × (made ≡ text (distance_lines given.kind 0 distances)));
}
