-- What composition gives. (Mohri 2009, section 4.1: the paths of the result are the matching pairs of paths, each
-- once, so that the weight of a pair of strings is the sum, over all strings between, of products.)
use Rattle.std.specs.Prelude.{◌≡◌, ◌↔◌, ℕ, List, map}
use Rattle.fst_semiring.specs.Cost.{Cost}
use Rattle.fst_semiring.specs.declared.arc_type.ArcType.{ArcType}
use Rattle.fst_semiring.specs.Semiring.{times}
use Rattle.fst_machine.specs.Machine.{Machine}
use Rattle.fst_machine.specs.Graph.{Graph, graph_of}
use Rattle.fst_machine.specs.Letters.{input, output}
use Rattle.fst_machine.specs.Paths.{letters}
use Rattle.fst_machine.specs.Relation.{IsSuccessful, Rel}
use Rattle.fst_machine.specs.Matching.{IsMatchingPair}
use Rattle.fst_trim.specs.KeptPaths.{IsRenumbered}
use Rattle.fst_compose.specs.Names.{Name}
use Rattle.fst_compose.specs.Composition.{composed}
use Rattle.fst_compose.specs.Moves.{moves_at, arc_by}
use Rattle.fst_compose.specs.Reading.{GoesThrough, IsReadBy, IsReadOff, Path}

module _ {N M : Type 0} (kind : ArcType) (a : Graph N) (b : Graph M) where
  -- The first relates x to some string that the second relates to z, and the weight is the product.
  pub record Relates (x z : List ℕ) (w : Cost) : Type 0 where
    pub middle : List ℕ
    pub first_weight : Cost
    pub second_weight : Cost
    pub first : Rel kind a x middle first_weight
    pub second : Rel kind b middle z second_weight
    pub weight : w ≡ times kind first_weight second_weight

  -- The successful paths of a graph are the matching pairs of paths of the two, one to one, by what its paths are read
  -- to: a successful path is read to just one pair of paths, which match and have its triple; each matching pair is read
  -- from a successful path with its triple, and from one only. So its relation is that of the two, one after the other.
  pub record Pairs {P : Type 0} (g : Graph P) (Reads : Path P → Path N → Path M → Type 0) : Type 0 where
    pub reads : (path : Path P) (w : Cost) → IsSuccessful kind g path w
        → (one : Path N) × (two : Path M) × Reads path one two × IsMatchingPair kind a b one two (input (letters path)) (output (letters path)) w
    pub clear : (path : Path P) (one other : Path N) (two another : Path M) → Reads path one two → Reads path other another → (one ≡ other) × (two ≡ another)
    pub has : (one : Path N) (two : Path M) (x z : List ℕ) (w : Cost) → IsMatchingPair kind a b one two x z w
        → (path : Path P) × IsSuccessful kind g path w × Reads path one two × (x ≡ input (letters path)) × (z ≡ output (letters path))
    pub once : (path other : Path P) (v w : Cost) (one : Path N) (two : Path M) → IsSuccessful kind g path v → IsSuccessful kind g other w
        → Reads path one two → Reads other one two → path ≡ other
    pub says : (x z : List ℕ) (w : Cost) → Rel kind g x z w ↔ Relates x z w

  -- What the composition is, as a graph: its arcs are made by the moves at each name, in order, and its successful paths
  -- are the matching pairs, as they are read off.
  pub record IsComposed (g : Graph (Name N M)) : Type 0 where
    pub arcs : (n : Name N M) → g.arcs n ≡ map (arc_by kind n) (moves_at a b n)
    pub pairs : Pairs g (IsReadOff a b)

  -- A path of numbers is read to what the path of the composition is read off to that goes through the names of these
  -- numbers, by arcs in the same places.
  abbrev pub IsReadNamed : List (Name N M) → Path ℕ → Path N → Path M → Type 0
  IsReadNamed names = IsReadBy kind (composed kind a b) (GoesThrough names) (IsReadOff a b)

  -- So is a machine whose states stand for these names.
  abbrev pub IsComposition : List (Name N M) → Machine Cost → Type 0
  IsComposition names m = Pairs (graph_of m) (IsReadNamed names)

  -- A path of new numbers is read to what the path of the whole machine is read to that it comes from.
  abbrev pub IsReadThrough : List (Name N M) → Machine Cost → List ℕ → Path ℕ → Path N → Path M → Type 0
  IsReadThrough names whole kept = IsReadBy kind (graph_of whole) (IsRenumbered whole kept) (IsReadNamed names)

  -- And so is the machine of its useful states.
  abbrev pub IsConnectedComposition : List (Name N M) → Machine Cost → List ℕ → Machine Cost → Type 0
  IsConnectedComposition names whole kept c = Pairs (graph_of c) (IsReadThrough names whole kept)

  -- Neither the composition nor the two, one after the other, relate anything.
  pub record RelatesNothing (x z : List ℕ) (w : Cost) : Type 0 where
    pub composed_none : Rel kind (composed kind a b) x z w → ⊥
    pub none : Relates x z w → ⊥
