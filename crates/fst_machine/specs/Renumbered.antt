-- The marked states of a machine with the arcs between them, by new numbers.
use Rattle.std.specs.Prelude.{◌≡◌, ℕ, ◌+◌, ◌<◌, List, [], ◌∷◌, Bool, false, cond, length, get_or, take, Option, None, Some}
use Rattle.fst_machine.specs.Machine.{Arc, State, Machine}

-- the places of the marks, counted from a number
abbrev pub marked : ℕ → List Bool → List ℕ
marked at [] = []
marked at (mark ∷ marks) = cond mark (at ∷ marked (at + 1) marks) (marked (at + 1) marks)

-- for each place how many before it are marked
pub record IsNumbering (marks : List Bool) (numbers : List ℕ) : Type 0 where
  pub size : length numbers ≡ length marks
  pub counts : (p : ℕ) → p < length marks → get_or numbers p 0 ≡ length (marked 0 (take p marks))

-- the arc to the state with the new number
abbrev pub renumbered : {V : Type 0} → List ℕ → Arc V ℕ → Arc V ℕ
renumbered numbers a = record { ilabel = a.ilabel; olabel = a.olabel; weight = a.weight; next = get_or numbers a.next 0 }

-- the arcs to marked states
abbrev pub marked_arcs : {V : Type 0} → List Bool → List ℕ → List (Arc V ℕ) → List (Arc V ℕ)
marked_arcs marks numbers [] = []
marked_arcs marks numbers (a ∷ arcs) = cond (get_or marks a.next false) (renumbered numbers a ∷ marked_arcs marks numbers arcs) (marked_arcs marks numbers arcs)

-- the marked states among these, of which the first has this number
abbrev pub marked_states : {V : Type 0} → List Bool → List ℕ → ℕ → List (State V) → List (State V)
marked_states marks numbers at [] = []
marked_states marks numbers at (s ∷ states) =
    cond (get_or marks at false)
    (record { final = s.final; arcs = marked_arcs marks numbers s.arcs } ∷ marked_states marks numbers (at + 1) states)
    (marked_states marks numbers (at + 1) states)

-- the new number of the start, where it is marked
abbrev pub new_start : List Bool → List ℕ → Option ℕ → Option ℕ
new_start marks numbers None = None
new_start marks numbers (Some s) = cond (get_or marks s false) (Some (get_or numbers s 0)) None

-- the machine of the marked states
abbrev pub marked_machine : {V : Type 0} → List Bool → List ℕ → Machine V → Machine V
marked_machine marks numbers m = record { start = new_start marks numbers m.start; states = marked_states marks numbers 0 m.states }
