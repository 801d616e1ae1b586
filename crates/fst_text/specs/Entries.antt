-- The machine that the entries of a text describe. (OpenFst Quick Tour, "Creating FSTs": an entry is an arc
-- or a final state, and the first state named is the start.)
use Rattle.std.specs.Prelude.{ℕ, zero, suc, ◌+◌, ◌==◌, max, Bool, not, List, [], ◌∷◌, ◌++◌, map, Option, Some, None, if◌then◌else◌}
use Rattle.std.specs.List.{filter, flat_map}
use Rattle.std.specs.Option.{option_map}
use Rattle.fst_semiring.specs.Cost.{Cost, infinite}
use Rattle.fst_machine.specs.Machine.{Arc, State, Machine}

-- What a line says, with states by their written numbers: an arc from a source, or the final weight of a state.
pub data Entry : Type 0 where
  arc_entry : ℕ → Arc Cost ℕ → Entry
  final_entry : ℕ → Cost → Entry

-- the numbers in its state fields, from left to right
abbrev pub states_named : Entry → List ℕ
states_named (arc_entry source a) = source ∷ a.next ∷ []
states_named (final_entry state w) = state ∷ []

-- how many of them are arcs
abbrev pub arc_count : List Entry → ℕ
arc_count [] = 0
arc_count (arc_entry source a ∷ es) = suc (arc_count es)
arc_count (final_entry state w ∷ es) = arc_count es

-- the different numbers of a list in the order of first appearance
abbrev pub different : List ℕ → List ℕ
different [] = []
different (n ∷ ns) = n ∷ filter (λ m. not (m == n)) (different ns)

-- one more than the greatest number of a list
abbrev pub above : List ℕ → ℕ
above [] = 0
above (n ∷ ns) = max (n + 1) (above ns)

-- the first numbers, from 0 on
abbrev pub from_zero : ℕ → List ℕ
from_zero zero = []
from_zero (suc n) = from_zero n ++ n ∷ []

-- the written number of each state, where these numbers are named: all from 0 up to the greatest where
-- numbers are kept, else the different ones in the order of first appearance
abbrev pub state_numbers : Bool → List ℕ → List ℕ
state_numbers kept named = if kept then from_zero (above named) else different named

-- the state with a written number: its place among the numbers of the states
abbrev pub place_in : List ℕ → ℕ → ℕ
place_in [] n = 0
place_in (m ∷ ms) n = if m == n then 0 else suc (place_in ms n)

-- the arc with its next state by place
abbrev pub placed : List ℕ → Arc Cost ℕ → Arc Cost ℕ
placed numbers a = record { ilabel = a.ilabel; olabel = a.olabel; weight = a.weight; next = place_in numbers a.next }

-- the arcs of the arc entries with this source, in order
abbrev pub arcs_from : ℕ → List Entry → List (Arc Cost ℕ)
arcs_from n [] = []
arcs_from n (arc_entry source a ∷ es) = if n == source then a ∷ arcs_from n es else arcs_from n es
arcs_from n (final_entry state w ∷ es) = arcs_from n es

-- the weight of the last final entry of this state, or the one given where there is none
abbrev pub last_weight : Cost → ℕ → List Entry → Cost
last_weight w n [] = w
last_weight w n (arc_entry source a ∷ es) = last_weight w n es
last_weight w n (final_entry state v ∷ es) = if n == state then last_weight v n es else last_weight w n es

-- the state with this written number
abbrev pub state_of : List ℕ → List Entry → ℕ → State Cost
state_of numbers es n = record { final = last_weight infinite n es; arcs = map (placed numbers) (arcs_from n es) }

-- the first of a list
abbrev pub first_in : List ℕ → Option ℕ
first_in [] = None
first_in (n ∷ ns) = Some n

-- the machine whose states have these numbers
abbrev pub machine_over : List ℕ → List Entry → Machine Cost
machine_over numbers es = record { start = option_map (place_in numbers) (first_in (flat_map states_named es)); states = map (state_of numbers es) numbers }

-- the machine of the entries; its start is the first state named
abbrev pub machine_of_entries : Bool → List Entry → Machine Cost
machine_of_entries kept es = machine_over (state_numbers kept (flat_map states_named es)) es
