-- The least word whose weights in two deterministic acceptors differ. (Mohri 2009, section 3.5: equivalence of weighted
-- acceptors.)
use Rattle.std.specs.Prelude.{◌≡◌, ◌≢◌, ◌⊎◌, ℕ, ◌<◌, List, Option, None, Some, length}
use Rattle.fst_semiring.specs.Cost.{Cost}
use Rattle.fst_semiring.specs.declared.arc_type.ArcType.{ArcType}
use Rattle.fst_machine.specs.BreadthFirst.{Apart, Has}
use Rattle.fst_machine.specs.Graph.{Graph}
use Rattle.fst_machine.specs.Letters.{label_word}
use Rattle.fst_machine.specs.Paths.{Transition, IsPath, letters}
use Rattle.fst_trim.specs.WordOrder.{IsSooner}
use Rattle.fst_trim.specs.WordWeights.{IsWordWeight}

module _ {N M : Type 0} (kind : ArcType) (a : Graph N) (b : Graph M) where
  -- the word has these weights in the two, and they differ
  pub record Separates (x : List ℕ) (v w : Cost) : Type 0 where
    pub first : IsWordWeight kind a x v
    pub second : IsWordWeight kind b x w
    pub differ : v ≢ w

  -- and it is the least such word
  pub record IsSeparating (x : List ℕ) (v w : Cost) : Type 0 where
    pub separates : Separates x v w
    pub least : (y : List ℕ) (t u : Cost) → Separates y t u → (x ≡ y) ⊎ IsSooner x y

-- A pair: a state of each machine, or none.
pub record Pair (N M : Type 0) : Type 0 where
  pub first : Option N
  pub second : Option M

-- a path from the start with this label word leads to the state; or there is none
pub record LeadsTo {N : Type 0} (g : Graph N) (x : List ℕ) (p : N) : Type 0 where
  pub start : N
  pub starts : g.start ≡ Some start
  pub path : List (Transition N)
  pub leads : IsPath g start path p
  pub word : x ≡ label_word (letters path)

abbrev pub LeadsIn : {N : Type 0} → Graph N → List ℕ → Option N → Type 0
LeadsIn {N} g x None = (p : N) → LeadsTo g x p → ⊥
LeadsIn g x (Some p) = LeadsTo g x p

module _ {N M : Type 0} (a : Graph N) (b : Graph M) where
  -- a word leads to this pair, which is not (none, none)
  pub record IsPair (n : Pair N M) : Type 0 where
    pub word : List ℕ
    pub first : LeadsIn a word n.first
    pub second : LeadsIn b word n.second
    pub some : (n.first ≡ None) × (n.second ≡ None) → ⊥

  -- words lead to more pairs than the limit
  pub record HasMorePairs (limit : ℕ) : Type 0 where
    pub pairs : List (Pair N M)
    pub apart : Apart pairs
    pub led : (n : Pair N M) → Has pairs n → IsPair n
    pub more : limit < length pairs
