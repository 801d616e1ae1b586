-- A search for words that separate: what it keeps, and what this says.
use Rattle.std.specs.Prelude.{◌≡◌, ℕ, ◌<◌, ◌≤◌, List, [], ◌∷◌, ◌++◌, Option, None, Some, get_or, length, map, slice_get}
use Rattle.fst_semiring.specs.Cost.{Cost}
use Rattle.fst_semiring.specs.declared.arc_type.ArcType.{ArcType}
use Rattle.fst_machine.specs.BreadthFirst.{Apart, Has}
use Rattle.fst_machine.specs.Graph.{Graph}
use Rattle.fst_machine.specs.Machine.{Arc, valued_arc}
use Rattle.fst_setops.specs.Closing.{Differ, IsNowhere, IsSearching, first_of, pair_of, second_of}
use Rattle.fst_setops.specs.Followed.{AreSound}
use Rattle.fst_setops.specs.Kept.{Node, Slot}
use Rattle.fst_setops.specs.Led.{weight_of}
use Rattle.fst_setops.specs.Separating.{Pair}
use Rattle.fst_setops.specs.Ways.{IsCut, arcs_of}

-- the words of nodes behind others with these words: that of the parent, with the label
abbrev pub words_behind : {V : Type 0} → List (List ℕ) → List (Node V) → List (List ℕ)
words_behind made [] = made
words_behind made (n ∷ nodes) = words_behind (made ++ (get_or made n.parent [] ++ n.label ∷ []) ∷ []) nodes

-- the words of nodes, of which the first is the empty one
abbrev pub words_of : {V : Type 0} → List (Node V) → List (List ℕ)
words_of [] = []
words_of (n ∷ nodes) = words_behind ([] ∷ []) nodes

module _ (kind : ArcType) (g h : Graph ℕ) where
  -- no word before this place separates
  abbrev pub NoneBefore : List (List ℕ) → ℕ → Type 0
  NoneBefore words place = (i : ℕ) (u : List ℕ) → i < place → slice_get words i ≡ Some u → weight_of kind g u ≡ weight_of kind h u

  -- no word that was taken separates; or the one in the place noted does, and none before it
  abbrev pub IsNoted : List (List ℕ) → ℕ → Option ℕ → Type 0
  IsNoted words taken None = NoneBefore words taken
  IsNoted words taken (Some place) = (x : List ℕ) × (slice_get words place ≡ Some x) × Differ kind g h x × NoneBefore words place

module _ {V : Type 0} (kind : ArcType) (value : V → Cost) (g h : Graph ℕ) where
  -- The node is that of a word: it has its pair, and the two products with which the word leads there.
  pub record IsNodeOf (pairs : List (Pair ℕ ℕ)) (n : Node V) (u : List ℕ) : Type 0 where
    pub pair : slice_get pairs n.pair ≡ Some (pair_of kind g h u)
    pub first : value n.first ≡ first_of kind g h u
    pub second : value n.second ≡ second_of kind g h u

  -- The node in a place is that of the word there, which has no more labels than words stand before it.
  pub record HasWord (pairs : List (Pair ℕ ℕ)) (nodes : List (Node V)) (place : ℕ) (n : Node V) : Type 0 where
    pub word : List ℕ
    pub there : slice_get (words_of nodes) place ≡ Some word
    pub is : IsNodeOf pairs n word
    pub short : length word ≤ place
    pub parent : 0 < place → n.parent < place

  -- each node is that of the word in its place
  abbrev pub AreWords : List (Pair ℕ ℕ) → List (Node V) → Type 0
  AreWords pairs nodes = (i : ℕ) (n : Node V) → slice_get nodes i ≡ Some n → HasWord pairs nodes i n

  -- The search has taken so many words whole, and the next one with the labels below this one.
  pub record IsSought (most : ℕ) (pairs : List (Pair ℕ ℕ)) (slots : List Slot) (nodes : List (Node V)) (taken label : ℕ) : Type 0 where
    pub searching : IsSearching kind g h (words_of nodes) taken label
    pub sound : AreSound kind value most pairs slots nodes
    pub apart : Apart pairs
    pub nowhere : (n : Pair ℕ ℕ) → Has pairs n → IsNowhere n → (g.start ≡ None) × (h.start ≡ None)
    pub words : AreWords pairs nodes

  module _ {W : Type 0} (weight : W → Cost) (most : ℕ) (pairs : List (Pair ℕ ℕ)) (slots : List Slot) (nodes : List (Node V)) (taken : ℕ) where
    -- The word of this node is being taken, whose states have these arcs: the labels of those before two places are behind it.
    pub record IsTaking (node : Node V) (firsts seconds : List (Arc W ℕ)) (x y : ℕ) : Type 0 where
      pub label : ℕ
      pub pair : Pair ℕ ℕ
      pub there : slice_get nodes taken ≡ Some node
      pub of : slice_get pairs node.pair ≡ Some pair
      pub sought : IsSought most pairs slots nodes taken label
      pub first_arcs : map (valued_arc weight) firsts ≡ arcs_of g pair.first
      pub second_arcs : map (valued_arc weight) seconds ≡ arcs_of h pair.second
      pub first : IsCut (arcs_of g pair.first) x label
      pub second : IsCut (arcs_of h pair.second) y label

  -- the weights of the word in a place
  abbrev pub AreWeights : List (List ℕ) → ℕ → V → V → Type 0
  AreWeights words place one other = (u : List ℕ) → slice_get words place ≡ Some u → (value one ≡ weight_of kind g u) × (value other ≡ weight_of kind h u)

  -- All words are taken, and the first that separates is noted.
  pub record IsEnded (most : ℕ) (pairs : List (Pair ℕ ℕ)) (slots : List Slot) (nodes : List (Node V)) (place : Option ℕ) : Type 0 where
    pub taken : ℕ
    pub sought : IsSought most pairs slots nodes taken 0
    pub all : length nodes ≤ taken
    pub noted : IsNoted kind g h (words_of nodes) taken place

-- each node but the first stands behind its parent
abbrev pub AreParents : {V : Type 0} → List (Node V) → Type 0
AreParents {V} nodes = (i : ℕ) (n : Node V) → slice_get nodes i ≡ Some n → 0 < i → n.parent < i

-- the later nodes are the earlier ones with others behind
abbrev pub AreBefore : {V : Type 0} → List (Node V) → List (Node V) → Type 0
AreBefore {V} old new = (more : List (Node V)) × (new ≡ old ++ more)
