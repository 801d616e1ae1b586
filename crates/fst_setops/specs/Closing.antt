-- Closed lists of words, and the search that makes one.
use Rattle.std.specs.Prelude.{◌≡◌, ◌≢◌, ◌⊎◌, ℕ, ◌<◌, List, [], ◌∷◌, ◌++◌, None, Some, slice_get}
use Rattle.fst_semiring.specs.Cost.{Cost}
use Rattle.fst_semiring.specs.declared.arc_type.ArcType.{ArcType}
use Rattle.fst_semiring.specs.Semiring.{times}
use Rattle.fst_machine.specs.BreadthFirst.{Has}
use Rattle.fst_machine.specs.Graph.{Graph}
use Rattle.fst_setops.specs.Led.{place_of, product_of, weight_of}
use Rattle.fst_trim.specs.WordOrder.{IsSooner}
use Rattle.fst_setops.specs.Separating.{Pair}

-- a is to b as c to d
abbrev pub Ratio : ArcType → Cost → Cost → Cost → Cost → Type 0
Ratio kind a b c d = times kind a d ≡ times kind c b

-- the first is sooner, or they are one
abbrev pub NoLater : List ℕ → List ℕ → Type 0
NoLater x y = (x ≡ y) ⊎ IsSooner x y

-- words in order
abbrev pub Ascend : List (List ℕ) → Type 0
Ascend [] = Unit {0}
Ascend (x ∷ xs) = ((y : List ℕ) → Has xs y → IsSooner x y) × Ascend xs

-- the word in this place has been taken, or is being taken and has this label behind it
abbrev pub IsBehind : ℕ → ℕ → ℕ → ℕ → Type 0
IsBehind taken label i l = (i < taken) ⊎ ((i ≡ taken) × (l < label))

-- no state in either
abbrev pub IsNowhere : {N M : Type 0} → Pair N M → Type 0
IsNowhere n = (n.first ≡ None) × (n.second ≡ None)

module _ {N M : Type 0} (kind : ArcType) (a : Graph N) (b : Graph M) where
  -- the pair of a word, and the products with which it leads there
  abbrev pub pair_of : List ℕ → Pair N M
  pair_of x = record { first = place_of kind a x; second = place_of kind b x }

  abbrev pub first_of : List ℕ → Cost
  first_of x = product_of kind a x

  abbrev pub second_of : List ℕ → Cost
  second_of x = product_of kind b x

  abbrev pub Ratios : List ℕ → List ℕ → Type 0
  Ratios u v = Ratio kind (first_of u) (second_of u) (first_of v) (second_of v)

  -- a word no later leads to the pair with the ratio
  pub record IsOnce (words : List (List ℕ)) (w : List ℕ) : Type 0 where
    pub word : List ℕ
    pub has : Has words word
    pub before : NoLater word w
    pub pair : pair_of word ≡ pair_of w
    pub ratio : Ratios word w

  -- two words no later lead to the pair with different ratios
  pub record IsTwice (words : List (List ℕ)) (w : List ℕ) : Type 0 where
    pub one : List ℕ
    pub other : List ℕ
    pub has_one : Has words one
    pub has_other : Has words other
    pub before_one : NoLater one w
    pub before_other : NoLater other w
    pub pair_one : pair_of one ≡ pair_of w
    pub pair_other : pair_of other ≡ pair_of w
    pub apart : Ratios one other → ⊥

  abbrev pub IsCovered : List (List ℕ) → List ℕ → Type 0
  IsCovered words w = IsOnce words w ⊎ IsTwice words w

  -- a word more by a label leads nowhere, or is covered
  abbrev pub IsClosed : List (List ℕ) → Type 0
  IsClosed words = (u : List ℕ) (l : ℕ) → Has words u → (IsNowhere (pair_of (u ++ l ∷ [])) → ⊥) → IsCovered words (u ++ l ∷ [])

  abbrev pub Differ : List ℕ → Type 0
  Differ w = weight_of kind a w ≢ weight_of kind b w

  -- the words before it have the same weights, and its own differ
  pub record IsFirstApart (words : List (List ℕ)) (x : List ℕ) : Type 0 where
    pub before : List (List ℕ)
    pub behind : List (List ℕ)
    pub parts : words ≡ before ++ x ∷ behind
    pub same : (y : List ℕ) → Has before y → weight_of kind a y ≡ weight_of kind b y
    pub differs : Differ x

  -- the word is one taken, with a label more
  pub record IsMade (words : List (List ℕ)) (taken label : ℕ) (w : List ℕ) : Type 0 where
    pub place : ℕ
    pub word : List ℕ
    pub last : ℕ
    pub there : slice_get words place ≡ Some word
    pub is : word ++ last ∷ [] ≡ w
    pub behind : IsBehind taken label place last

  -- The search has taken so many words whole, and the next one with all labels below this one.
  pub record IsSearching (words : List (List ℕ)) (taken label : ℕ) : Type 0 where
    pub begins : Has words []
    pub ascend : Ascend words
    pub made : (w : List ℕ) → Has words w → ([] ≡ w) ⊎ IsMade words taken label w
    pub closed : (i l : ℕ) (u : List ℕ) → slice_get words i ≡ Some u → IsBehind taken label i l → (IsNowhere (pair_of (u ++ l ∷ [])) → ⊥) → IsCovered words (u ++ l ∷ [])
