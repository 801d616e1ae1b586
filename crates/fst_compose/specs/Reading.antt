-- How a path of a composition is read to a path of each machine.
use Rattle.std.specs.Prelude.{◌≡◌, ℕ, List, [], ◌∷◌, Some, slice_get}
use Rattle.fst_semiring.specs.Cost.{Cost}
use Rattle.fst_semiring.specs.declared.arc_type.ArcType.{ArcType}
use Rattle.fst_machine.specs.Graph.{Graph}
use Rattle.fst_machine.specs.Paths.{Transition}
use Rattle.fst_machine.specs.Relation.{IsSuccessful}
use Rattle.fst_trim.specs.OneToOne.{Tied}
use Rattle.fst_compose.specs.Names.{Name}
use Rattle.fst_compose.specs.Moves.{Move, firsts, seconds, moves_at}

-- the transitions of a path
abbrev pub Path : Type 0 → Type 0
Path N = List (Transition N)

module _ {N M : Type 0} (a : Graph N) (b : Graph M) where
  -- each arc of the path, by its place, is made by the move in the same place of the moves at its name
  abbrev pub ReadsOff : Path (Name N M) → List (Move (Transition N) (Transition M)) → Type 0
  ReadsOff [] [] = Unit {0}
  ReadsOff [] (m ∷ moves) = ⊥
  ReadsOff (t ∷ path) [] = ⊥
  ReadsOff (t ∷ path) (m ∷ moves) = (slice_get (moves_at a b t.state) t.place ≡ Some m) × ReadsOff path moves

  -- The path is read off to these two: the arcs by which the first machine goes in its moves, and those by
  -- which the second goes.
  pub record IsReadOff (path : Path (Name N M)) (one : Path N) (two : Path M) : Type 0 where
    pub moves : List (Move (Transition N) (Transition M))
    pub reads : ReadsOff path moves
    pub first : firsts moves ≡ one
    pub second : seconds moves ≡ two

-- number by number the second path goes through the names of the first, by arcs in the same places
abbrev pub GoesThrough : {N : Type 0} → List N → Path N → Path ℕ → Type 0
GoesThrough names = Tied (λ n i. slice_get names i ≡ Some n) (λ n i k j. k ≡ j)

-- The path is read to what a successful path of another graph is read to that is tied to it by T.
module _ {P Q N M : Type 0} (kind : ArcType) (g : Graph P) (T : Path P → Path Q → Type 0) (Reads : Path P → Path N → Path M → Type 0) where
  pub record IsReadBy (path : Path Q) (one : Path N) (two : Path M) : Type 0 where
    pub between : Path P
    pub weight : Cost
    pub succeeds : IsSuccessful kind g between weight
    pub tied : T between path
    pub reads : Reads between one two
