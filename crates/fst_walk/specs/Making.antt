-- A walk that is being made.
use Rattle.std.specs.Prelude.{◌≡◌, ◌⊎◌, ◌<◌, ◌≤◌, ◌+◌, ◌++◌, ◌∷◌, ℕ, Bool, true, List, [], Option, None, Some, All, MatchOption, length, slice_get, sum_by, take}
use Rattle.std.specs.Bool.{Decides}
use Rattle.std.specs.List.{AllZip}
use Rattle.fst_semiring.specs.Cost.{Cost}
use Rattle.fst_semiring.specs.Semiring.{InRange}
use Rattle.fst_machine.specs.BreadthFirst.{Grows, Has, IsBreadthFirst}
use Rattle.fst_machine.specs.Graph.{Graph, nexts}
use Rattle.fst_machine.specs.Machine.{Arc, State, most_arcs, most_states}
use Rattle.fst_machine.specs.Paths.{IsPath, Transition}
use Rattle.fst_machine.specs.Walking.{IsWalking}
use Rattle.fst_walk.specs.Names.{IsNear}

-- the number, or one more than the greatest number of arcs
abbrev pub IsCounted : ℕ → ℕ → Type 0
IsCounted total n = (total ≤ most_arcs → total ≡ n) × (most_arcs < total → most_arcs < n)

-- The first place with a weight out of range, if there is one, where it was known of those before this place, and the
-- weights of this one are in range or not.
abbrev pub NextRange : ℕ → Type 0 → Option ℕ → Option ℕ → Type 0
NextRange place fine None next = (fine × (next ≡ None)) ⊎ ((fine → ⊥) × (next ≡ Some place))
NextRange place fine (Some first) next = next ≡ Some first

-- The open state, which has these arcs, is put after the others, if its weights and those before it are in range and the
-- arcs are not too many. Where they are too many, no weight is looked at.
module _ (place : ℕ) (fits : Bool) (last : Cost) (out : List (Arc Cost ℕ)) (total : ℕ) where
  pub record PutsState (overflow next : Option ℕ) (old new : List (State Cost)) : Type 0 where
    pub range : total ≤ most_arcs → NextRange place ((fits ≡ true) × InRange last) overflow next
    pub put : next ≡ None → total ≤ most_arcs → new ≡ old ++ record { final = last; arcs = out } ∷ []

-- the arc to this number in place of its name
abbrev pub placed_arc : {N : Type 0} → Arc Cost N → ℕ → Arc Cost ℕ
placed_arc a next = record { ilabel = a.ilabel; olabel = a.olabel; weight = a.weight; next = next }

module _ {N : Type 0} where
  -- the names grow by this one, which stands in this place
  pub record IsFound (limit : ℕ) (old : List N) (name : N) (new : List N) (place : ℕ) : Type 0 where
    pub grown : Grows old (name ∷ []) new
    pub few : length new ≤ limit
    pub there : slice_get new place ≡ Some name

  -- the walk finds more names than the limit, by the first of these
  pub record Passes (limit : ℕ) (old xs : List N) : Type 0 where
    pub front : List N
    pub rest : List N
    pub parts : xs ≡ front ++ rest
    pub found : List N
    pub grown : Grows old front found
    pub more : limit < length found

  -- the arc is this arc, with the place of its next name in place of that name
  pub record IsNumberedArc (names : List N) (a : Arc Cost N) (c : Arc Cost ℕ) : Type 0 where
    pub ilabel : c.ilabel ≡ a.ilabel
    pub olabel : c.olabel ≡ a.olabel
    pub weight : c.weight ≡ a.weight
    pub next : slice_get names c.next ≡ Some a.next

  -- The names grow by those to which these arcs lead. Where arcs may be put, and the weights of these are in range, the
  -- arcs out grow by those that stand for them.
  pub record PutsArcs (limit : ℕ) (may : Type 0) (arcs : List (Arc Cost N)) (old new : List N) (out more : List (Arc Cost ℕ)) (fits : Bool) : Type 0 where
    pub grown : Grows old (nexts arcs) new
    pub few : length new ≤ limit
    pub range : Decides fits (may × All (λ a. InRange a.weight) arcs)
    pub put : fits ≡ true → (added : List (Arc Cost ℕ)) × (more ≡ out ++ added) × AllZip (IsNumberedArc new) arcs added

  -- the weights of a name are in range
  abbrev pub Fits : Graph N → N → Type 0
  Fits g n = All (λ a. InRange a.weight) (g.arcs n) × InRange (g.final n)

  -- this is the first place of a name with a weight that is not in range
  pub record IsFirstOut (g : Graph N) (names : List N) (place : ℕ) : Type 0 where
    pub name : N
    pub there : slice_get names place ≡ Some name
    pub out : Fits g name → ⊥
    pub first : (i : ℕ) (n : N) → i < place → slice_get names i ≡ Some n → Fits g n

  -- the state is this name, numbered
  pub record IsNumberedState (g : Graph N) (names : List N) (n : N) (s : State Cost) : Type 0 where
    pub arcs : AllZip (IsNumberedArc names) (g.arcs n) s.arcs
    pub final : s.final ≡ g.final n

  -- how many arcs these names have together
  abbrev pub arcs_of : Graph N → List N → ℕ
  arcs_of g names = sum_by (λ n. length (g.arcs n)) names

  -- these are the names that can be reached, no more than the limit
  pub record IsReached (g : Graph N) (limit : ℕ) (names : List N) : Type 0 where
    pub start : N
    pub starts : g.start ≡ Some start
    pub listed : IsBreadthFirst g start names
    pub few : length names ≤ limit

  -- A walk from the start of the graph that has found these names and followed so many of them, with the states and
  -- the count of the arcs of these, and the first that has a weight out of range, as long as the arcs are not too many. A
  -- name in place i is reached by no more than i arcs.
  pub record IsMaking (g : Graph N) (limit : ℕ) (names : List N) (states : List (State Cost)) (total : ℕ) (overflow : Option ℕ) (taken : ℕ) : Type 0 where
    pub start : N
    pub starts : g.start ≡ Some start
    pub walking : IsWalking g start names taken
    pub reached : (i : ℕ) (n : N) → slice_get names i ≡ Some n → (path : List (Transition N)) × IsPath g start path n × (length path ≤ i)
    pub few : length names ≤ limit
    pub counted : IsCounted total (arcs_of g (take taken names))
    pub range : total ≤ most_arcs → MatchOption overflow (All (Fits g) (take taken names)) (IsFirstOut g (take taken names))
    pub made : overflow ≡ None → total ≤ most_arcs → AllZip (IsNumberedState g names) (take taken names) states

  -- A walk that has followed so many names, and some arcs of the next; of these the rest is left. Its names, the arcs of
  -- the open state and the count of the arcs have grown by those. They fit, where the names before do and their own weights
  -- are in range, and they are not too many.
  pub record IsTaking (g : Graph N) (limit place : ℕ) (rest : N → List (Arc Cost N)) (names : List N) (states : List (State Cost)) (out : List (Arc Cost ℕ)) (total : ℕ) (overflow : Option ℕ) (fits : Bool) : Type 0 where
    pub old : List N
    pub before : ℕ
    pub making : IsMaking g limit old states before overflow place
    pub name : N
    pub there : slice_get old place ≡ Some name
    pub so_far : List (Arc Cost N)
    pub whole : so_far ++ rest name ≡ g.arcs name
    pub puts : PutsArcs limit ((overflow ≡ None) × (total ≤ most_arcs)) so_far old names [] out fits
    pub counted : IsCounted total (arcs_of g (take place old) + length so_far)

  -- the end of such a walk
  pub record IsDone (g : Graph N) (limit : ℕ) (names : List N) (states : List (State Cost)) (total : ℕ) (overflow : Option ℕ) : Type 0 where
    pub reached : IsReached g limit names
    pub near : limit ≤ most_states → (n : N) → Has names n → IsNear g n
    pub counted : IsCounted total (arcs_of g names)
    pub range : total ≤ most_arcs → MatchOption overflow (All (Fits g) names) (IsFirstOut g names)
    pub made : overflow ≡ None → total ≤ most_arcs → AllZip (IsNumberedState g names) names states
