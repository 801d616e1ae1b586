-- The arcs of a name from those of its two states, when these can be searched, and how many steps that takes. (OpenFst
-- manual, "Compose" and "Matchers": one of the two is searched, and its arcs stand by their labels.)
use Rattle.std.specs.Prelude.{◌≡◌, ℕ, ◌+◌, ◌*◌, List, ◌++◌, Some, drop, length, slice_get}
use Rattle.std.specs.List.{flat_map}
use Rattle.std.specs.Option.{option_map}
use Rattle.fst_semiring.specs.Cost.{Cost}
use Rattle.fst_semiring.specs.declared.arc_type.ArcType.{ArcType}
use Rattle.fst_machine.specs.Graph.{graph_of}
use Rattle.fst_machine.specs.Machine.{Arc, Machine, valued}
use Rattle.fst_trim.specs.declared.side.Side.{Side}
use Rattle.fst_trim.specs.declared.side.Side.TheVariants.{Input, Output}
use Rattle.fst_trim.specs.Runs.{TakesSteps}
use Rattle.fst_trim.specs.Sides.{IsSortedOn, StandsBy}
use Rattle.fst_compose.specs.Composition.{first_arcs, match_arcs, second_arcs}
use Rattle.fst_compose.specs.Names.{Name}
use Rattle.fst_compose.specs.declared.matching.Ordered.{Ordered}
use Rattle.fst_compose.specs.declared.matching.Ordered.TheVariants.{First, Second, Both}

-- the arcs of each two that match, in order
abbrev pub all_matches : {N M : Type 0} → ArcType → List (Arc Cost N) → List (Arc Cost M) → List (Arc Cost (Name N M))
all_matches kind firsts seconds = flat_map (λ a. flat_map (match_arcs kind a) seconds) firsts

-- the arcs of a name whose first state has these arcs, and its second state those
abbrev pub name_arcs : {N M : Type 0} → ArcType → Name N M → List (Arc Cost N) → List (Arc Cost M) → List (Arc Cost (Name N M))
name_arcs kind n firsts seconds = flat_map (first_arcs kind n seconds) firsts ++ flat_map (second_arcs n) seconds

-- What is left of them from an arc of the first state on. Where the arcs of the first state alone can be searched, they
-- are put at once.
abbrev pub rest_arcs : {N M : Type 0} → Ordered → ArcType → Name N M → List (Arc Cost N) → List (Arc Cost M) → ℕ → List (Arc Cost (Name N M))
rest_arcs First kind n firsts seconds from = name_arcs kind n firsts seconds
rest_arcs Second kind n firsts seconds from = name_arcs kind n (drop from firsts) seconds
rest_arcs Both kind n firsts seconds from = name_arcs kind n (drop from firsts) seconds

-- the same in the composition of two machines
abbrev pub composition_rest : {V : Type 0} → Ordered → ArcType → (V → Cost) → Machine V → Machine V → Name ℕ ℕ → ℕ → List (Arc Cost (Name ℕ ℕ))
composition_rest ordered kind value a b n from = rest_arcs ordered kind n ((graph_of (valued value a)).arcs n.first) ((graph_of (valued value b)).arcs n.second) from

-- the arcs of this state
abbrev pub HasArcs : {V : Type 0} → Machine V → ℕ → List (Arc V ℕ) → Type 0
HasArcs m state arcs = option_map (λ s. s.arcs) (slice_get m.states state) ≡ Some arcs

-- The arcs that are searched stand in order: by the input labels those of the second state, by the output labels those
-- of the first.
abbrev pub IsInOrder : {V : Type 0} → Side → List (Arc V ℕ) → List (Arc V ℕ) → Type 0
IsInOrder Input firsts seconds = StandsBy Input seconds
IsInOrder Output firsts seconds = StandsBy Output firsts

-- Where those of the second state are searched, there are two searches for each arc of the first, and two for epsilon;
-- where those of the first are, there are two for each arc of the second. Each takes at most as many steps as the number
-- of arcs that are searched has binary digits.
abbrev pub SearchSteps : Side → ℕ → ℕ → ℕ → ℕ → Type 0
SearchSteps Input firsts seconds old new = TakesSteps (2 * (firsts + 1)) seconds old new
SearchSteps Output firsts seconds old new = TakesSteps (2 * seconds) firsts old new

-- the same of the states of a name
abbrev pub IsSearchable : {V : Type 0} → Side → Machine V → Machine V → Name ℕ ℕ → Type 0
IsSearchable {V} side a b n = (firsts seconds : List (Arc V ℕ)) → HasArcs a n.first firsts → HasArcs b n.second seconds → IsInOrder side firsts seconds

abbrev pub IsSearch : {V : Type 0} → Side → Machine V → Machine V → Name ℕ ℕ → ℕ → ℕ → Type 0
IsSearch {V} side a b n old new =
    (firsts seconds : List (Arc V ℕ)) → HasArcs a n.first firsts → HasArcs b n.second seconds → SearchSteps side (length firsts) (length seconds) old new

-- which of two machines have their arcs in order
abbrev pub IsOrdered : {V : Type 0} → Ordered → Machine V → Machine V → Type 0
IsOrdered First a b = IsSortedOn Output a
IsOrdered Second a b = IsSortedOn Input b
IsOrdered Both a b = IsSortedOn Output a × IsSortedOn Input b
