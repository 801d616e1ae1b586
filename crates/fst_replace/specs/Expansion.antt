-- The machine of a list of rules. (OpenFst manual, "Replace"; Mohri 2009, section 3.1, on joining machines by
-- epsilon arcs. Which states and arcs there are, in which order, is this project's own choice.)
use Rattle.std.specs.Prelude.{ℕ, ◌+◌, zero, suc, false, List, [], ◌∷◌, ◌++◌, length, map, sum_by, Option, None, Some}
use Rattle.fst_semiring.specs.Cost.{Cost}
use Rattle.fst_machine.specs.Machine.{Arc, State, Machine, no_states}
use Rattle.fst_machine.specs.Continuing.{epsilon_arc}
use Rattle.fst_rational.specs.Constructions.{carried}
use Rattle.fst_replace.specs.Rules.{Labelled, labels_of, machine_at, place_of}
use Rattle.fst_replace.specs.Calls.{Calling, arcs_of, call_of, calls_in}

-- What a call needs to know of a machine: its start, and how many states it has.
pub record Shape : Type 0 where
  pub start : Option ℕ
  pub size : ℕ

abbrev pub shape_of : Machine Cost → Shape
shape_of m = record { start = m.start; size = length m.states }

-- The epsilon arc, with the weight of a call arc, to the start of the block of the call, which stands at q. Where
-- there is no start there is no arc.
abbrev pub entry : Cost → ℕ → Option ℕ → List (Arc Cost ℕ)
entry w q None = []
entry w q (Some s) = epsilon_arc w (q + s) ∷ []

-- what stands for an arc, by the place of the rule that it calls, if it calls one
abbrev pub entered_by : (ℕ → Shape) → ℕ → Arc Cost ℕ → Option ℕ → List (Arc Cost ℕ)
entered_by shape q a None = a ∷ []
entered_by shape q a (Some rule) = entry a.weight q (shape rule).start

module _ (labels : List ℕ) (shape : ℕ → Shape) where
  -- how many states the blocks of these calls have together
  abbrev pub blocks_size : List Calling → ℕ
  blocks_size calls = sum_by (λ c. (shape c.rule).size) calls

  -- The arcs, with each call arc replaced at its place. The block of the first call stands at q, and the others
  -- behind it.
  abbrev pub entered : ℕ → List (Arc Cost ℕ) → List (Arc Cost ℕ)
  entered q [] = []
  entered q (a ∷ arcs) = entered_by shape q a (place_of labels a.olabel) ++ entered (q + blocks_size (call_of labels a)) arcs

  -- the same for the arcs of each of these states
  abbrev pub entered_states : ℕ → List (State Cost) → List (State Cost)
  entered_states q [] = []
  entered_states q (s ∷ states) = record { final = s.final; arcs = entered q s.arcs } ∷ entered_states (q + blocks_size (calls_in labels s.arcs)) states

-- The blocks of these calls, of which the first stands at q: the states of each machine that is called, which
-- are not final and go on from each final weight by an epsilon arc with this weight to the state to which the
-- call arc led.
abbrev pub blocks : (ℕ → Machine Cost) → ℕ → List Calling → List (State Cost)
blocks machine q [] = []
blocks machine q (c ∷ calls) = map (carried q false (Some c.next)) (machine c.rule).states ++ blocks machine (q + length (machine c.rule).states) calls

-- A machine with its calls of these machines replaced: its own states, then the block of each call, by state and
-- place.
abbrev pub expanded : List ℕ → (ℕ → Machine Cost) → Machine Cost → Machine Cost
expanded labels machine m = record {
  start = m.start;
  states = entered_states labels (λ r. shape_of (machine r)) (length m.states) m.states
      ++ blocks machine (length m.states) (calls_in labels (arcs_of m.states));
}

-- The expansion of the rule in place i, in which calls are replaced to this depth.
abbrev pub expansion : List (Labelled Cost) → ℕ → ℕ → Machine Cost
expansion rules zero i = no_states
expansion rules (suc depth) i = expanded (labels_of rules) (expansion rules depth) (machine_at rules i)

-- The expansion of the root. Where no rule that the root reaches can call itself, calls go no deeper than there
-- are rules.
abbrev pub replaced : List (Labelled Cost) → Machine Cost
replaced rules = expansion rules (length rules) 0
