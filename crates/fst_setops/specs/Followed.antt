-- What a search has once a label was followed from the pair of a word.
use Rattle.std.specs.Prelude.{◌≡◌, ◌⊎◌, ℕ, ◌<◌, ◌≤◌, Bool, true, false, List, [], ◌∷◌, ◌++◌, Option, Some, length, slice_get}
use Rattle.fst_semiring.specs.Cost.{Cost}
use Rattle.fst_semiring.specs.Semiring.{times}
use Rattle.fst_semiring.specs.declared.arc_type.ArcType.{ArcType}
use Rattle.fst_machine.specs.BreadthFirst.{Has}
use Rattle.fst_machine.specs.Machine.{Arc}
use Rattle.fst_setops.specs.Kept.{AreSlots, IsPutOrCovered, Node, Slot, word_total}
use Rattle.fst_setops.specs.Separating.{Pair}
use Rattle.fst_setops.specs.Ways.{arc_weight, end_of}

-- the pair to which two arcs lead
abbrev pub ends : {W : Type 0} → Option (Arc W ℕ) → Option (Arc W ℕ) → Pair ℕ ℕ
ends one other = record { first = end_of one; second = end_of other }

-- the pairs are as before, and this is one of them; or it was put last, and there were fewer than the limit
abbrev pub ArePut : ℕ → Pair ℕ ℕ → List (Pair ℕ ℕ) → List (Pair ℕ ℕ) → Type 0
ArePut most key old new = (new ≡ old) ⊎ ((new ≡ old ++ key ∷ []) × (Has old key → ⊥) × (length old < most))

module _ {V W : Type 0} (kind : ArcType) (value : V → Cost) (weight : W → Cost) (most : ℕ) (pairs : List (Pair ℕ ℕ)) (nodes : List (Node V)) where
  module _ (node : Node V) (parent label : ℕ) (one other : Option (Arc W ℕ)) (new : List (Pair ℕ ℕ)) (more : List (Node V)) where
    -- The word has its pair; it was put last, or it is covered by those there are.
    pub record IsFollowed : Type 0 where
      pub word : Node V
      pub there : slice_get new word.pair ≡ Some (ends one other)
      pub put : ArePut most (ends one other) pairs new
      pub behind : word.parent ≡ parent
      pub label_is : word.label ≡ label
      pub first : value word.first ≡ times kind (value node.first) (arc_weight weight one)
      pub second : value word.second ≡ times kind (value node.second) (arc_weight weight other)
      pub found : IsPutOrCovered kind value nodes more word

    -- The word was followed; or its pair is new, and there are as many as the limit.
    abbrev pub IsFollowedOr : Bool → Type 0
    IsFollowedOr true = IsFollowed
    IsFollowedOr false = (most ≤ length pairs) × (Has pairs (ends one other) → ⊥)

-- what holds of the lists of a search
pub record AreSound {V : Type 0} (kind : ArcType) (value : V → Cost) (most : ℕ) (pairs : List (Pair ℕ ℕ)) (slots : List Slot) (nodes : List (Node V)) : Type 0 where
  pub kept : AreSlots kind value nodes slots
  pub size : length slots ≡ length pairs
  pub total : word_total slots ≡ length nodes
  pub few : length pairs ≤ most
