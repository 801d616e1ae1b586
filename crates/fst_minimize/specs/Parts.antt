-- Marks of states in blocks, and blocks that are split by them.
use Rattle.std.specs.Prelude.{◌≡◌, ◌⊎◌, ℕ, ◌<◌, length}
use Rattle.fst_minimize.specs.declared.parts.Parts.{Parts}
use Rattle.fst_minimize.specs.Numbered.{number_in}
use Rattle.fst_minimize.specs.Spans.{IsInFront}

-- the state has a mark: it stands before the middle of its block
abbrev pub IsMarked : Parts → ℕ → Type 0
IsMarked r p = IsInFront r.places.items r.blocks.items r.spans.items p

-- The state has a mark, and otherwise all is as it was.
pub record Marks (old new : Parts) (state : ℕ) : Type 0 where
  pub blocks : new.blocks.items ≡ old.blocks.items
  pub there : (p : ℕ) → p < length old.blocks.items → IsMarked new p → IsMarked old p ⊎ (p ≡ state)
  pub kept : (p : ℕ) → p < length old.blocks.items → IsMarked old p → IsMarked new p
  pub own : IsMarked new state

-- The block of the state is split into its marked and its other members, and has no marks then.
pub record Splits (old new : Parts) (state : ℕ) : Type 0 where
  pub size : length new.blocks.items ≡ length old.blocks.items
  pub finer : (p q : ℕ) → p < length old.blocks.items → q < length old.blocks.items → number_in new.blocks.items p ≡ number_in new.blocks.items q
      → number_in old.blocks.items p ≡ number_in old.blocks.items q
  pub apart : (p q : ℕ) → p < length old.blocks.items → q < length old.blocks.items → number_in old.blocks.items p ≡ number_in old.blocks.items q
      → (number_in new.blocks.items p ≡ number_in new.blocks.items q → ⊥)
      → (IsMarked old p × (IsMarked old q → ⊥)) ⊎ (IsMarked old q × (IsMarked old p → ⊥))
  pub gone : (p : ℕ) → p < length old.blocks.items → IsMarked new p
      → IsMarked old p × (number_in old.blocks.items p ≡ number_in old.blocks.items state → ⊥)
  pub kept : (p : ℕ) → p < length old.blocks.items → (number_in old.blocks.items p ≡ number_in old.blocks.items state → ⊥)
      → IsMarked old p → IsMarked new p
