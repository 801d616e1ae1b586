-- Rows numbered in the order in which they first came.
use Rattle.std.specs.Prelude.{◌≡◌, ℕ, ◌<◌, ◌≤◌, Bool, true, false, List, [], ◌∷◌, ◌++◌, Some, Option, All, length, get_or, map, slice_get}
use Rattle.fst_machine.specs.Graph.{Graph, nexts}
use Rattle.fst_trim.specs.WordWeights.{IsSingle}
use Rattle.fst_minimize.specs.Behaviour.{Alike, GoesOn}
use Rattle.fst_minimize.specs.Refining.{LabelsAscend}
use Rattle.fst_minimize.specs.Pairs.{Spells, packed}

-- each number of the list is below 2 to the 32
abbrev pub AreSmall : List ℕ → Type 0
AreSmall [] = Unit {0}
AreSmall (v ∷ vs) = (v < 4294967296) × AreSmall vs

-- The numbers are those of the first appearances: the list has, by number, the first place with it.
pub record IsNumbering (numbers least : List ℕ) : Type 0 where
  pub member : (i p : ℕ) → slice_get least i ≡ Some p → slice_get numbers p ≡ Some i
  pub first : (p i : ℕ) → slice_get numbers p ≡ Some i → (q : ℕ) × (slice_get least i ≡ Some q) × (q ≤ p)
  pub ascending : (i j p q : ℕ) → i < j → slice_get least i ≡ Some p → slice_get least j ≡ Some q → p < q

-- a place is put behind the others, where it is a first one
abbrev pub Notes : Bool → ℕ → List ℕ → List ℕ → Type 0
Notes true place least more = more ≡ least ++ place ∷ []
Notes false place least more = more ≡ least

-- The row in this place has this number: that of the pair of what it spells and its length.
pub record Reads (nodes ends : ℕ → Option ℕ) (seen : List (ℕ × List ℕ)) (place number : ℕ) : Type 0 where
  pub head : ℕ
  pub row : List ℕ
  pub there : slice_get seen place ≡ Some (head, row)
  pub small : AreSmall row
  pub short : length row < 4294967296
  pub end : ℕ
  pub spells : Spells nodes head row end
  pub ends_with : ends (packed end (length row)) ≡ Some number

-- The rows that were seen, each with a head, have these numbers.
pub record Numbers (nodes ends : ℕ → Option ℕ) (count : ℕ) (seen : List (ℕ × List ℕ)) (numbers least : List ℕ) : Type 0 where
  pub size : length numbers ≡ length seen
  pub counts : count ≡ length least
  pub numbering : IsNumbering numbers least
  pub reads : (p i : ℕ) → slice_get numbers p ≡ Some i → Reads nodes ends seen p i

-- Rows have one number just where they are equal, with their heads.
pub record TellsApart (seen : List (ℕ × List ℕ)) (numbers : List ℕ) : Type 0 where
  pub size : length numbers ≡ length seen
  pub same : (p q i : ℕ) → slice_get numbers p ≡ Some i → slice_get numbers q ≡ Some i → slice_get seen p ≡ slice_get seen q
  pub other : (p q i j : ℕ) → slice_get numbers p ≡ Some i → slice_get numbers q ≡ Some j → slice_get seen p ≡ slice_get seen q → i ≡ j

-- the number of a state
abbrev pub number_in : List ℕ → ℕ → ℕ
number_in numbers p = get_or numbers p 0

-- Each row was seen, with the number of its place as head and the numbers of its ends.
pub record SeenRows (numbers : List ℕ) (rows : List (List ℕ)) (done : ℕ) (seen : List (ℕ × List ℕ)) : Type 0 where
  pub size : length seen ≡ done
  pub row : (p : ℕ) (r : List ℕ) → p < done → slice_get rows p ≡ Some r → slice_get seen p ≡ Some (number_in numbers p, map (number_in numbers) r)

-- States have one new number just where they have one old number and so do the ends of their arcs, place by place.
pub record SplitsRows (numbers numbers2 : List ℕ) (rows : List (List ℕ)) : Type 0 where
  pub size : length numbers2 ≡ length rows
  pub same : (p q : ℕ) (r s : List ℕ) → slice_get rows p ≡ Some r → slice_get rows q ≡ Some s → number_in numbers2 p ≡ number_in numbers2 q
      → (number_in numbers p ≡ number_in numbers q) × (map (number_in numbers) r ≡ map (number_in numbers) s)
  pub other : (p q : ℕ) (r s : List ℕ) → slice_get rows p ≡ Some r → slice_get rows q ≡ Some s → number_in numbers p ≡ number_in numbers q
      → map (number_in numbers) r ≡ map (number_in numbers) s → number_in numbers2 p ≡ number_in numbers2 q

-- the rows are the names of states, of which there are so many
abbrev pub RowsBelow : ℕ → List (List ℕ) → Type 0
RowsBelow n rows = (p : ℕ) (r : List ℕ) → slice_get rows p ≡ Some r → All (λ q. q < n) r

-- The rows are the ends of the arcs of n states.
pub record AreRows (g : Graph ℕ) (n : ℕ) (rows : List (List ℕ)) : Type 0 where
  pub size : length rows ≡ n
  pub row : (p : ℕ) → p < n → slice_get rows p ≡ Some (nexts (g.arcs p))
  pub single : IsSingle g
  pub goes : GoesOn g
  pub ascend : (p : ℕ) → p < n → LabelsAscend (g.arcs p)

-- States have one number just where they have the same behaviour.
pub record TellsBehaviour (g : Graph ℕ) (n : ℕ) (numbers : List ℕ) : Type 0 where
  pub size : length numbers ≡ n
  pub same : (p q : ℕ) → p < n → q < n → number_in numbers p ≡ number_in numbers q → Alike g g p q
  pub other : (p q : ℕ) → p < n → q < n → Alike g g p q → number_in numbers p ≡ number_in numbers q
