-- What determinization gives. (Mohri 2009, weighted determinization.)
use Rattle.std.specs.Prelude.{◌≡◌, ◌⊎◌, ◌↔◌, ◌<◌, ℕ, List, Some, length, slice_get}
use Rattle.fst_semiring.specs.Cost.{Cost}
use Rattle.fst_semiring.specs.declared.arc_type.ArcType.{ArcType}
use Rattle.fst_machine.specs.BreadthFirst.{Apart, Has}
use Rattle.fst_machine.specs.Graph.{Graph}
use Rattle.fst_machine.specs.Letters.{label_word}
use Rattle.fst_machine.specs.Paths.{Transition, letters}
use Rattle.fst_machine.specs.Relation.{IsSuccessful, IsWeight}
use Rattle.fst_trim.specs.WordOrder.{IsSooner}
use Rattle.fst_determinize.specs.Subsets.{HasSubset, Member}

module _ (kind : ArcType) (g : Graph ℕ) where
  -- the word has this subset, and each other word that has it comes later
  abbrev pub IsLeastWord : List Member → List ℕ → Type 0
  IsLeastWord members x = HasSubset kind g x members × ((y : List ℕ) → HasSubset kind g y members → (x ≡ y) ⊎ IsSooner x y)

  -- These are just the subsets of words that are not empty, each once, in the order of the least words that have them.
  pub record AreSubsets (names : List (List Member)) : Type 0 where
    pub listed : (members : List Member) → Has names members ↔ ((word : List ℕ) × HasSubset kind g word members)
    pub apart : Apart names
    pub least : (i : ℕ) (s : List Member) → slice_get names i ≡ Some s → (x : List ℕ) × IsLeastWord s x
    pub ordered : (i j : ℕ) (s t : List Member) (x y : List ℕ) → i < j → slice_get names i ≡ Some s → slice_get names j ≡ Some t
        → IsLeastWord s x → IsLeastWord t y → IsSooner x y

  -- Words give more different subsets than the limit that are not empty.
  pub record HasMoreSubsets (limit : ℕ) : Type 0 where
    pub names : List (List Member)
    pub apart : Apart names
    pub listed : (members : List Member) → Has names members → (word : List ℕ) × HasSubset kind g word members
    pub more : limit < length names

  -- The graph has at most one successful path for each label word, and each pair the weight that g gives it.
  pub record IsDeterminized {N : Type 0} (h : Graph N) : Type 0 where
    pub one_path : (one two : List (Transition N)) (v w : Cost) → IsSuccessful kind h one v → IsSuccessful kind h two w
        → label_word (letters one) ≡ label_word (letters two) → one ≡ two
    pub weights : (x y : List ℕ) (w : Cost) → IsWeight kind g x y w ↔ IsWeight kind h x y w
