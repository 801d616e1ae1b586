-- The successful paths of the lattice of a line are the paths of the graph that read the line.
use Rattle.std.specs.Prelude.{◌≡◌, ℕ, List, [], ◌∷◌, ◌++◌, Option, None, Some, filter, nat_eq, slice_get}
use Rattle.fst_semiring.specs.Cost.{Cost}
use Rattle.fst_semiring.specs.declared.arc_type.ArcType.{ArcType}
use Rattle.fst_machine.specs.Graph.{Graph}
use Rattle.fst_machine.specs.Letters.{input}
use Rattle.fst_machine.specs.Paths.{Transition, letters}
use Rattle.fst_machine.specs.Relation.{IsSuccessful}
use Rattle.fst_delayed.specs.Handed.{transitions}
use Rattle.fst_lattice.specs.Lattice.{HasNoZero, Point, lattice}

module _ {N : Type 0} where
  -- those of the transitions whose arc reads this label, in order
  abbrev pub moving : ℕ → List (Transition N) → List (Transition N)
  moving label ts = filter (λ t. nat_eq t.arc.ilabel label) ts

  abbrev pub byte_moves : Option ℕ → List (Transition N) → List (Transition N)
  byte_moves None ts = []
  byte_moves (Some b) ts = moving b ts

  -- the transitions of the graph at a name of the lattice, in the order of the lattice's arcs there
  abbrev pub moves_at : List ℕ → Graph N → Point N → List (Transition N)
  moves_at line g p = byte_moves (slice_get line p.position) (transitions g p.name) ++ moving 0 (transitions g p.name)

  -- each arc of the first path, by its place, is made of the transition in the same place of those at its name
  abbrev pub ReadsOff : List ℕ → Graph N → List (Transition (Point N)) → List (Transition N) → Type 0
  ReadsOff line g [] [] = Unit {0}
  ReadsOff line g [] (u ∷ one) = ⊥
  ReadsOff line g (t ∷ path) [] = ⊥
  ReadsOff line g (t ∷ path) (u ∷ one) = (slice_get (moves_at line g t.state) t.place ≡ Some u) × ReadsOff line g path one

  -- Where the line holds no byte 0: each successful path of the lattice is read off to just one path of the graph, which is
  -- successful, reads the line, says what the path says, and has its weight; and each successful path of the graph that
  -- reads the line is read off from just one of the lattice.
  pub record IsLineByLine (kind : ArcType) (line : List ℕ) (g : Graph N) : Type 0 where
    pub reads : HasNoZero line → (path : List (Transition (Point N))) (w : Cost) → IsSuccessful kind (lattice line g) path w
        → (one : List (Transition N)) × ReadsOff line g path one × IsSuccessful kind g one w × (input (letters one) ≡ line) × (letters one ≡ letters path)
    pub clear : (path : List (Transition (Point N))) (one other : List (Transition N)) → ReadsOff line g path one → ReadsOff line g path other → one ≡ other
    pub has : HasNoZero line → (one : List (Transition N)) (w : Cost) → IsSuccessful kind g one w → input (letters one) ≡ line
        → (path : List (Transition (Point N))) × IsSuccessful kind (lattice line g) path w × ReadsOff line g path one × (letters path ≡ letters one)
    pub once : HasNoZero line → (path other : List (Transition (Point N))) (v w : Cost) (one : List (Transition N)) → IsSuccessful kind (lattice line g) path v
        → IsSuccessful kind (lattice line g) other w → ReadsOff line g path one → ReadsOff line g other one → path ≡ other
