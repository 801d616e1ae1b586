-- The machine of chains, as of listed paths, each with states of its own behind the start. (OpenFst manual, "ShortestPath":
-- the n shortest paths as a machine. Which states there are, in which order, is this project's own choice.)
use Rattle.std.specs.Prelude.{◌≡◌, ℕ, ◌+◌, ◌≤◌, suc, List, [], ◌∷◌, ◌++◌, length, map, get_or, sum_by, Option, None, Some}
use Rattle.fst_semiring.specs.Cost.{Cost, infinite}
use Rattle.fst_semiring.specs.declared.arc_type.ArcType.{ArcType}
use Rattle.fst_machine.specs.Machine.{Arc, State, Machine, greatest_label, no_states}
use Rattle.fst_machine.specs.Graph.{Graph}
use Rattle.fst_machine.specs.Letters.{Letter, letter_of}
use Rattle.fst_machine.specs.Paths.{letters}
use Rattle.fst_machine.specs.Relation.{IsSuccessful}
use Rattle.fst_machine.specs.BreadthFirst.{Has}
use Rattle.fst_machine.specs.PathOrder.{WeightedPath, Ascends}

-- What a path says: the letters of its arcs, and the final weight of the name where it ends.
pub record Chain : Type 0 where
  pub letters : List Letter
  pub last : Cost

-- the chain in a place, and the letter of a chain in a place; where there is none, one that says nothing
abbrev pub chain_at : List Chain → ℕ → Chain
chain_at chains i = get_or chains i (record { letters = []; last = infinite })

abbrev pub letter_at : List Letter → ℕ → Letter
letter_at ls k = get_or ls k (record { ilabel = 0; olabel = 0; weight = infinite })

-- The letter of an arc of a machine: its labels are in range, and its weight is not Zero.
pub record IsLetter (l : Letter) : Type 0 where
  pub ilabel : l.ilabel ≤ greatest_label
  pub olabel : l.olabel ≤ greatest_label
  pub weight : l.weight ≡ infinite → ⊥

-- each of these is one
abbrev pub AreLetters : List Letter → Type 0
AreLetters [] = Unit {0}
AreLetters (l ∷ ls) = IsLetter l × AreLetters ls

-- the letters of these chains are
abbrev pub HaveLetters : List Chain → Type 0
HaveLetters [] = Unit {0}
HaveLetters (c ∷ cs) = AreLetters c.letters × HaveLetters cs

-- the arc that stands for a number that names none
abbrev pub no_arc : {N : Type 0} → N → Arc Cost N
no_arc n = record { ilabel = 0; olabel = 0; weight = infinite; next = n }

-- the arc of a step
abbrev pub arc_at : {N : Type 0} → Graph N → N × ℕ → Arc Cost N
arc_at g s = get_or (g.arcs s.0) s.1 (no_arc s.0)

-- where steps that begin at p end
abbrev pub end_of : {N : Type 0} → Graph N → N → List (N × ℕ) → N
end_of g p [] = p
end_of g p (s ∷ walk) = end_of g (arc_at g s).next walk

-- the final weight of the end of steps from this start
abbrev pub last_weight : {N : Type 0} → Graph N → Option N → List (N × ℕ) → Cost
last_weight g None walk = infinite
last_weight g (Some p) walk = g.final (end_of g p walk)

-- what these steps say
abbrev pub chain_of : {N : Type 0} → Graph N → List (N × ℕ) → Chain
chain_of g walk = record { letters = map (λ s. letter_of (arc_at g s)) walk; last = last_weight g g.start walk }

-- the arc with this letter to k
abbrev pub lettered : ℕ → Letter → Arc Cost ℕ
lettered k l = record { ilabel = l.ilabel; olabel = l.olabel; weight = l.weight; next = k }

-- the state in place k and those behind it, for the rest of a chain
abbrev pub tail_states : ℕ → Cost → List Letter → List (State Cost)
tail_states k last [] = record { final = last; arcs = [] } ∷ []
tail_states k last (l ∷ ls) = record { final = infinite; arcs = lettered (suc k) l ∷ [] } ∷ tail_states (suc k) last ls

-- a chain's own states, one for each arc, of which the first stands in place k
abbrev pub own_states : ℕ → Cost → List Letter → List (State Cost)
own_states k last [] = []
own_states k last (l ∷ ls) = tail_states k last ls

-- the arc by which a chain leaves the start
abbrev pub first_arc : ℕ → List Letter → List (Arc Cost ℕ)
first_arc k [] = []
first_arc k (l ∷ ls) = lettered k l ∷ []

-- those of all chains, where the first of their states stands in place k
abbrev pub first_arcs : ℕ → List Chain → List (Arc Cost ℕ)
first_arcs k [] = []
first_arcs k (c ∷ cs) = first_arc k c.letters ++ first_arcs (k + length c.letters) cs

-- the states of all chains
abbrev pub all_states : ℕ → List Chain → List (State Cost)
all_states k [] = []
all_states k (c ∷ cs) = own_states k c.last c.letters ++ all_states (k + length c.letters) cs

-- the final weight of the start: that of a chain without arcs, where there is one
abbrev pub start_weight : Cost → Cost → List Letter → Cost
start_weight so_far last [] = last
start_weight so_far last (l ∷ ls) = so_far

abbrev pub final_of : Cost → List Chain → Cost
final_of so_far [] = so_far
final_of so_far (c ∷ cs) = final_of (start_weight so_far c.last c.letters) cs

-- how many arcs the chains have together
abbrev pub arcs_listed : List Chain → ℕ
arcs_listed chains = sum_by (λ c. length c.letters) chains

-- the same of paths as they are written down
abbrev pub arcs_written : {X : Type 0} → List (List X) → ℕ
arcs_written walks = sum_by (λ walk. length walk) walks

-- No states where there is no chain. Else state 0 is the start, and each chain in order adds a state for each of its
-- arcs: its first arc leaves the start, the others leave the state before. Its last state has its final weight; for a
-- chain without arcs that is the start.
abbrev pub chained : List Chain → Machine Cost
chained [] = no_states
chained (c ∷ cs) = record {
  start = Some 0;
  states = record { final = final_of infinite (c ∷ cs); arcs = first_arcs 1 (c ∷ cs) } ∷ all_states 1 (c ∷ cs);
}

-- these say the same, one by one
abbrev pub SayTheSame : {N M : Type 0} → List (WeightedPath N) → List (WeightedPath M) → Type 0
SayTheSame [] [] = Unit {0}
SayTheSame [] (b ∷ bs) = ⊥
SayTheSame (a ∷ others) [] = ⊥
SayTheSame (a ∷ others) (b ∷ bs) = (letters b.path ≡ letters a.path) × (b.weight ≡ a.weight) × SayTheSame others bs

-- The successful paths of h are just those of a list, which say what the listed ones say, one by one; and where the
-- listed ones stand in the order of paths, so do these.
pub record IsChained {N : Type 0} (kind : ArcType) (listed : List (WeightedPath N)) (h : Graph ℕ) : Type 0 where
  pub chains : List (WeightedPath ℕ)
  pub same : SayTheSame listed chains
  pub successful : (c : WeightedPath ℕ) → Has chains c → IsSuccessful kind h c.path c.weight
  pub all : (c : WeightedPath ℕ) → IsSuccessful kind h c.path c.weight → Has chains c
  pub ordered : Ascends listed → Ascends chains
