-- `shortestpath`: the machine of the first paths, or with `--unique` of the first strings, each a chain of states of its own.
-- (OpenFst manual, "ShortestPath"; Mohri 2009, section 3.3, n shortest paths.)
use Rattle.std.specs.Prelude.{◌≡◌, ◌↔◌, ◌<◌, ◌+◌, ℕ, Bool, true, false, List, [], ◌∷◌, codes, map, unwrap_or}
use Rattle.std.specs.Fmt.{decimal}
use Rattle.std.specs.List.{concat}
use Rattle.fst_semiring.specs.declared.arc_type.ArcType.{ArcType}
use Rattle.fst_semiring.specs.Cost.{Cost}
use Rattle.fst_machine.specs.BreadthFirst.{Has}
use Rattle.fst_machine.specs.Cycles.{IsImprovingCycle, IsUseful}
use Rattle.fst_machine.specs.Graph.{graph_of}
use Rattle.fst_machine.specs.Machine.{Machine, most_states}
use Rattle.fst_machine.specs.Paths.{Transition, places}
use Rattle.fst_machine.specs.PathOrder.{IsFirst, WeightedPath}
use Rattle.fst_machine.specs.declared.path.Step.{Step}
use Rattle.fst_nbest.specs.Chains.{IsChained, arcs_written, chain_of, chained}
use Rattle.fst_nbest.specs.Words.{WeightedWord}
use Rattle.fst_rational.specs.Relations.{Triple}
use Rattle.fst_select.specs.StringChains.{IsLeastEnd, string_chain}
use Rattle.fst_select.specs.Strings.{AreFirstStrings, labels_listed}
use Rattle.fst_select.specs.UniqueRefusals.{IsListable, IsUnlistable}
use Rattle.fst_select.specs.declared.unique_fault.UniqueFault.TheVariants as faults
use Rattle.fst_words.specs.declared.options.Options.{Options}
use Rattle.fst_verbs.specs.Causes.{unmade}
use Rattle.fst_verbs.specs.Meaning.{IsMachine, Meaning, Stops, for_one}
use Rattle.fst_verbs.specs.declared.commands.listing.Unlisted.{Unlisted}
use Rattle.fst_verbs.specs.declared.commands.listing.Unlisted.TheVariants.{NotAcceptor, HasEpsilon, ImprovingCycle, TooManyStates, Overflow}

-- how many paths, or strings, are listed at most
abbrev pub path_count : Options → ℕ
path_count o = unwrap_or o.nshortest 1

-- ---- paths

-- The machine is that of the first n paths, and its successful paths say what these say.
pub record Lists (kind : ArcType) (n : ℕ) (m r : Machine Cost) : Type 0 where
  pub paths : List (WeightedPath ℕ)
  pub first : IsFirst kind (graph_of m) n paths
  pub made : r ≡ chained (map (chain_of (graph_of m)) (map (λ a. places a.path) paths))
  pub chains : IsChained kind paths (graph_of r)

-- a cycle on successful paths is better than One, so that there is no best path
abbrev pub ImprovesPaths : ArcType → Machine Cost → Type 0
ImprovesPaths kind m = (p : ℕ) × (cycle : List (Transition ℕ)) × IsUseful (graph_of m) p × IsImprovingCycle (graph_of m) kind p cycle

-- The first n paths have so many arcs together that their machine has too many states.
pub record AreTooLong (kind : ArcType) (n : ℕ) (m : Machine Cost) : Type 0 where
  pub paths : List (WeightedPath ℕ)
  pub first : IsFirst kind (graph_of m) n paths
  pub long : most_states < arcs_written (map (λ a. places a.path) paths) + 1

-- what stands against listing the paths; the cycle is asked first
abbrev pub IsUnlisted : ArcType → ℕ → Machine Cost → Unlisted → Type 0
IsUnlisted kind n m (NotAcceptor state place) = ⊥
IsUnlisted kind n m (HasEpsilon state place) = ⊥
IsUnlisted kind n m ImprovingCycle = ImprovesPaths kind m
IsUnlisted kind n m TooManyStates = (ImprovesPaths kind m → ⊥) × AreTooLong kind n m
IsUnlisted kind n m (Overflow state) = ⊥

-- ---- strings

-- The machine is that of the first n strings: one arc for each label, and at the end of a string its weight. It relates each
-- of them to itself, with its weight, and nothing else.
pub record ListsStrings (kind : ArcType) (n : ℕ) (m r : Machine Cost) : Type 0 where
  pub strings : List WeightedWord
  pub first : AreFirstStrings kind (graph_of m) n strings
  pub made : r ≡ chained (map (string_chain kind) strings)
  pub denotes : (x y : List ℕ) (w : Cost) → Triple kind r x y w ↔ ((x ≡ y) × Has strings (record { word = x; weight = w }))

-- The first n strings have so many labels together that their machine has too many states.
pub record AreTooLongStrings (kind : ArcType) (n : ℕ) (m : Machine Cost) : Type 0 where
  pub strings : List WeightedWord
  pub first : AreFirstStrings kind (graph_of m) n strings
  pub long : most_states < labels_listed strings + 1

-- They have not, and this is the least state of their machine in which one ends whose weight is out of range.
pub record HasLargeWeight (kind : ArcType) (n : ℕ) (m : Machine Cost) (state : ℕ) : Type 0 where
  pub strings : List WeightedWord
  pub first : AreFirstStrings kind (graph_of m) n strings
  pub fits : most_states < labels_listed strings + 1 → ⊥
  pub least : IsLeastEnd strings state

-- What stands against listing the strings, in this order: an arc with two labels, an arc with label 0, the cycle, too many
-- states, and a weight out of range.
abbrev pub IsUnlistedUnique : ArcType → ℕ → Machine Cost → Unlisted → Type 0
IsUnlistedUnique kind n m (NotAcceptor state place) = IsUnlistable kind m (faults.NotAcceptor state place)
IsUnlistedUnique kind n m (HasEpsilon state place) = IsUnlistable kind m (faults.HasEpsilon state place)
IsUnlistedUnique kind n m ImprovingCycle = (cycle : List Step) × IsUnlistable kind m (faults.ImprovingCycle cycle)
IsUnlistedUnique kind n m TooManyStates = IsListable kind m × AreTooLongStrings kind n m
IsUnlistedUnique kind n m (Overflow state) = IsListable kind m × HasLargeWeight kind n m state

-- ---- the command

abbrev pub listing_text : Unlisted → List ℕ
listing_text (NotAcceptor state place) = concat (codes "not an acceptor at state " ∷ decimal state ∷ codes " arc " ∷ decimal place ∷ [])
listing_text (HasEpsilon state place) = concat (codes "epsilon at state " ∷ decimal state ∷ codes " arc " ∷ decimal place ∷ [])
listing_text ImprovingCycle = codes "improving cycle"
listing_text TooManyStates = codes "too many states"
listing_text (Overflow state) = concat (codes "number too large at state " ∷ decimal state ∷ [])

-- what stops the listing of strings, by the fault that is told
abbrev pub unique_stops : ArcType → ℕ → Machine Cost → Stops
unique_stops kind n m fault = (why : Unlisted) × IsUnlistedUnique kind n m why × (fault ≡ unmade (listing_text why))

-- without the flag the paths are listed, and with it the strings
abbrev pub listing_by : (unique : Bool) → (n : ℕ) → Meaning
listing_by false n = record {
  stops = λ given fault. for_one given.machines (λ m.
      (why : Unlisted) × IsUnlisted given.kind n m why × (fault ≡ unmade (listing_text why)));
  makes = λ given made. for_one given.machines (λ m. IsMachine given.kind (λ r. Lists given.kind n m r) made);
}
listing_by true n = record {
  stops = λ given fault. for_one given.machines (λ m. unique_stops given.kind n m fault);
  makes = λ given made. for_one given.machines (λ m. IsMachine given.kind (λ r. ListsStrings given.kind n m r) made);
}

abbrev pub listing_meaning : Options → Meaning
listing_meaning o = listing_by o.unique (path_count o)
