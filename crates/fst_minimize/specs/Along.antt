-- States that are numbered along an order, each by its first number and the numbers of the ends of its arcs. (Where no
-- path comes back to a state, the classes of equal behaviour can be numbered in one pass from the final states on:
-- Revuz 1992, as is common for dictionaries.)
use Rattle.std.specs.Prelude.{◌≡◌, ◌↔◌, ℕ, ◌<◌, Bool, true, false, List, [], Some, get_or, length, map, slice_get}
use Rattle.fst_machine.specs.BreadthFirst.{Has}
use Rattle.fst_minimize.specs.declared.along.Pass.{Pass}
use Rattle.fst_minimize.specs.Numbered.{number_in}
use Rattle.fst_minimize.specs.Numberers.{HasSeen}

-- what is numbered in place of a state
abbrev pub seen_of : List ℕ → List (List ℕ) → List ℕ → ℕ → ℕ × List ℕ
seen_of first rows numbers p = (number_in first p, map (number_in numbers) (get_or rows p []))

-- the state stands in the order before this place
abbrev pub Before : List ℕ → ℕ → ℕ → Type 0
Before order i q = (j : ℕ) × (j < i) × (slice_get order j ≡ Some q)

-- The states of this order have marks and these numbers, and the ends of the arcs of each stand before it; no other state
-- has a mark.
pub record AreAlong (rows : List (List ℕ)) (order numbers : List ℕ) (marks : List Bool) (along : List ℕ) : Type 0 where
  pub size : length numbers ≡ length rows
  pub sizes : length marks ≡ length rows
  pub below : (i q : ℕ) → slice_get order i ≡ Some q → q < length rows
  pub own : (i q : ℕ) → slice_get order i ≡ Some q → slice_get along i ≡ Some (number_in numbers q)
  pub marked : (i q : ℕ) → slice_get order i ≡ Some q → get_or marks q false ≡ true
  pub ends : (i q r : ℕ) → slice_get order i ≡ Some q → Has (get_or rows q []) r → Before order i r
  pub all : (q : ℕ) → get_or marks q false ≡ true → (i : ℕ) × (slice_get order i ≡ Some q)

-- the pass has numbered the states of this order
abbrev pub IsAlong : List ℕ → List (List ℕ) → List ℕ → Pass → Type 0
IsAlong first rows order p = AreAlong rows order p.numbers.items p.marks.items p.numberer.numbers.items × HasSeen (map (seen_of first rows p.numbers.items) order) p.numberer

-- All states have numbers, which tell apart what is numbered in place of them, and the ends of the arcs of each stand in
-- the order before it.
pub record IsWhole (first : List ℕ) (rows : List (List ℕ)) (order numbers : List ℕ) : Type 0 where
  pub size : length numbers ≡ length rows
  pub place : (q : ℕ) → q < length rows → (i : ℕ) × (slice_get order i ≡ Some q)
  pub below : (i q : ℕ) → slice_get order i ≡ Some q → q < length rows
  pub ends : (i q r : ℕ) → slice_get order i ≡ Some q → Has (get_or rows q []) r → Before order i r
  pub same : (p q : ℕ) → p < length rows → q < length rows → number_in numbers p ≡ number_in numbers q → seen_of first rows numbers p ≡ seen_of first rows numbers q
  pub other : (p q : ℕ) → p < length rows → q < length rows → seen_of first rows numbers p ≡ seen_of first rows numbers q → number_in numbers p ≡ number_in numbers q

-- n states have one new number just where they have one old number
pub record Renumbers (n : ℕ) (numbers numbers2 : List ℕ) : Type 0 where
  pub size : length numbers2 ≡ n
  pub same : (p q : ℕ) → p < n → q < n → (number_in numbers2 p ≡ number_in numbers2 q) ↔ (number_in numbers p ≡ number_in numbers q)
