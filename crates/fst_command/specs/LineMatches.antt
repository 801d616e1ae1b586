-- What a batch lists of a line, by the two machines of its cascade: matching pairs of their paths.
use Rattle.std.specs.Prelude.{◌≡◌, ◌≢◌, ◌⊎◌, ℕ, ◌≤◌, List, length}
use Rattle.std.specs.declared.cmp.Ordering.TheVariants.{Greater}
use Rattle.fst_semiring.specs.Cost.{Cost, cost_cmp}
use Rattle.fst_semiring.specs.declared.arc_type.ArcType.{ArcType}
use Rattle.fst_machine.specs.BreadthFirst.{Has}
use Rattle.fst_machine.specs.Graph.{Graph}
use Rattle.fst_machine.specs.Letters.{output}
use Rattle.fst_machine.specs.Matching.{IsMatchingPair}
use Rattle.fst_machine.specs.Paths.{letters}
use Rattle.fst_machine.specs.Relation.{IsSuccessful}
use Rattle.fst_compose.specs.Composition.{composed}
use Rattle.fst_compose.specs.Names.{Name}
use Rattle.fst_compose.specs.Reading.{IsReadBy, IsReadOff, Path}
use Rattle.fst_lattice.specs.Lattice.{Point, lattice}
use Rattle.fst_lattice.specs.LinePaths.{ReadsOff}
use Rattle.fst_batch.specs.BestPaths.{Told}

module _ {N M : Type 0} (kind : ArcType) (a : Graph N) (b : Graph M) (line : List ℕ) where
  -- a path of the line's lattice is read to what the path of the composition is read to that it is read off to
  abbrev pub IsReadAsPair : Path (Point (Name N M)) → Path N → Path M → Type 0
  IsReadAsPair = IsReadBy kind (composed kind a b) (λ between path. ReadsOff line (composed kind a b) path between) (IsReadOff a b)

  -- The successful paths of the line's lattice are the matching pairs of paths of which the first reads the line, one to one:
  -- what a path of the lattice writes, and its weight, are those of its pair.
  pub record IsMatched : Type 0 where
    pub reads : (path : Path (Point (Name N M))) (w : Cost) → IsSuccessful kind (lattice line (composed kind a b)) path w
        → (one : Path N) × (two : Path M) × IsReadAsPair path one two × IsMatchingPair kind a b one two line (output (letters path)) w
    pub clear : (path : Path (Point (Name N M))) (one other : Path N) (two another : Path M) → IsReadAsPair path one two
        → IsReadAsPair path other another → (one ≡ other) × (two ≡ another)
    pub has : (one : Path N) (two : Path M) (z : List ℕ) (w : Cost) → IsMatchingPair kind a b one two line z w
        → (path : Path (Point (Name N M))) × IsSuccessful kind (lattice line (composed kind a b)) path w × IsReadAsPair path one two
        × (z ≡ output (letters path))
    pub once : (path other : Path (Point (Name N M))) (v w : Cost) (one : Path N) (two : Path M) → IsSuccessful kind (lattice line (composed kind a b)) path v
        → IsSuccessful kind (lattice line (composed kind a b)) other w → IsReadAsPair path one two → IsReadAsPair other one two → path ≡ other

  -- What is listed are at most n outputs with weights, each of a matching pair that reads the line. What each other such pair
  -- writes is not listed only where n others are, and none of these has a worse weight.
  pub record AreBestMatches (n : ℕ) (listed : List (Told Cost)) : Type 0 where
    pub few : length listed ≤ n
    pub matches : (t : Told Cost) → Has listed t → (one : Path N) × (two : Path M) × IsMatchingPair kind a b one two line t.text t.weight
    pub others : (one : Path N) (two : Path M) (z : List ℕ) (w : Cost) → IsMatchingPair kind a b one two line z w
        → Has listed (record { weight = w; text = z }) ⊎ ((length listed ≡ n) × ((t : Told Cost) → Has listed t → cost_cmp t.weight w ≢ Greater))
