-- What the generator makes: two machines over the letters a to z and lines of these letters.
use Rattle.std.specs.Prelude.{ℕ, zero, suc, ◌+◌, List, [], ◌∷◌, ◌++◌, Some, pos}
use Rattle.fst_semiring.specs.Cost.{Cost, finite}
use Rattle.fst_machine.specs.Machine.{Arc, Machine, State}
use Rattle.fst_lattice.specs.Draws.{after, drawn, skip}

-- the weight of a number
abbrev pub whole : ℕ → Cost
whole n = finite (pos n) (pos 0)

-- how many states the machines have, and how many letters there are
abbrev pub first_size : ℕ
first_size = 500

abbrev pub second_size : ℕ
second_size = 200

abbrev pub letters : ℕ
letters = 26

-- The first machine writes a letter for a letter, or nothing.
abbrev pub letter_arc : ℕ → ℕ → Arc Cost ℕ
letter_arc x b = record { ilabel = b; olabel = 97 + drawn x 0 letters; weight = whole (drawn x 1 10); next = drawn x 2 first_size }

abbrev pub silent_arc : ℕ → ℕ → Arc Cost ℕ
silent_arc x b = record { ilabel = b; olabel = 0; weight = whole (5 + drawn x 3 10); next = drawn x 4 first_size }

abbrev pub two_arcs : ℕ → ℕ → List (Arc Cost ℕ)
two_arcs x b = letter_arc x b ∷ silent_arc x b ∷ []

-- the arcs of so many letters from this one on
unfoldable pub first_arcs : ℕ → ℕ → ℕ → List (Arc Cost ℕ)
first_arcs x b zero = []
first_arcs x b (suc n) = two_arcs x b ++ first_arcs (after x 5) (b + 1) n

-- the state of the generator behind the arcs of a state of the first machine
abbrev pub behind_arcs : ℕ → ℕ
behind_arcs x = skip 5 x letters

-- so many states: the arcs of each, then its final weight
unfoldable pub first_states : ℕ → ℕ → List (State Cost)
first_states x zero = []
first_states x (suc n) = record { final = whole (drawn (behind_arcs x) 0 5); arcs = first_arcs x 97 letters } ∷ first_states (after (behind_arcs x) 1) n

-- the state of the generator behind them
unfoldable pub first_end : ℕ → ℕ → ℕ
first_end x zero = x
first_end x (suc n) = first_end (after (behind_arcs x) 1) n

-- The second machine writes what it reads.
abbrev pub same_arc : ℕ → ℕ → Arc Cost ℕ
same_arc x b = record { ilabel = b; olabel = b; weight = whole (drawn x 0 10); next = drawn x 1 second_size }

unfoldable pub second_arcs : ℕ → ℕ → ℕ → List (Arc Cost ℕ)
second_arcs x b zero = []
second_arcs x b (suc n) = same_arc x b ∷ second_arcs (after x 2) (b + 1) n

-- so many states, with final weight One
unfoldable pub second_states : ℕ → ℕ → List (State Cost)
second_states x zero = []
second_states x (suc n) = record { final = whole 0; arcs = second_arcs x 97 letters } ∷ second_states (skip 2 x letters) n

-- the state of the generator behind them
unfoldable pub second_end : ℕ → ℕ → ℕ
second_end x zero = x
second_end x (suc n) = second_end (skip 2 x letters) n

-- the second machine where the generator has this state
abbrev pub second_from : ℕ → Machine Cost
second_from x = record { start = Some 0; states = second_states x second_size }

-- so many letters
unfoldable pub drawn_letters : ℕ → ℕ → List ℕ
drawn_letters x zero = []
drawn_letters x (suc n) = (97 + drawn x 0 letters) ∷ drawn_letters (after x 1) n

-- so many lines, each of 1 to 12 letters
unfoldable pub drawn_lines : ℕ → ℕ → List (List ℕ)
drawn_lines x zero = []
drawn_lines x (suc n) = drawn_letters (after x 1) (1 + drawn x 0 12) ∷ drawn_lines (skip 1 (after x 1) (1 + drawn x 0 12)) n

-- the first machine of a seed, the second, and the lines
abbrev pub first_machine : ℕ → Machine Cost
first_machine seed = record { start = Some 0; states = first_states seed first_size }

abbrev pub behind_first : ℕ → ℕ
behind_first seed = first_end seed first_size

abbrev pub second_machine : ℕ → Machine Cost
second_machine seed = second_from (behind_first seed)

abbrev pub behind_second : ℕ → ℕ
behind_second seed = second_end (behind_first seed) second_size
