-- Words of places, each of which says a weight: the paths of a graph from a name, as the places of their arcs; and
-- the first of them. (Mohri 2009, section 3.3, n shortest paths.)
use Rattle.std.specs.Prelude.{◌≡◌, ◌⊎◌, ℕ, ◌≤◌, zero, suc, List, [], ◌∷◌, length, Option, None, Some}
use Rattle.std.specs.declared.cmp.Ordering.{Ordering}
use Rattle.std.specs.declared.cmp.Ordering.TheVariants.{Less}
use Rattle.std.specs.Ordering.{nat_cmp, ordering_then}
use Rattle.std.specs.Cmp.Lexicographic.{slice_cmp}
use Rattle.fst_semiring.specs.Cost.{Cost, infinite, cost_cmp}
use Rattle.fst_semiring.specs.declared.arc_type.ArcType.{ArcType}
use Rattle.fst_semiring.specs.Semiring.{times, IsCost}
use Rattle.fst_machine.specs.BreadthFirst.{Has}

-- What a name does: the weight with which a word may stop there, and by each place the weight of a step and the name
-- where it leads.
pub record Words (N : Type 0) : Type 0 where
  pub stop : N → Option Cost
  pub step : N → ℕ → Option (Cost × N)

-- A word with its weight.
pub record WeightedWord : Type 0 where
  pub word : List ℕ
  pub weight : Cost

-- by weight, the better first, then by length, the shorter first, then by places
abbrev pub word_cmp : WeightedWord → WeightedWord → Ordering
word_cmp a b = ordering_then (cost_cmp a.weight b.weight) (ordering_then (nat_cmp (length a.word) (length b.word)) (slice_cmp nat_cmp a.word b.word))

-- each word of the list comes before all that stand behind it
abbrev pub WordsAscend : List WeightedWord → Type 0
WordsAscend [] = Unit {0}
WordsAscend (a ∷ words) = ((b : WeightedWord) → Has words b → word_cmp a b ≡ Less) × WordsAscend words

-- how a word goes on: it stops at 0, and takes the step by place k at k + 1
abbrev pub first_move : List ℕ → ℕ
first_move [] = 0
first_move (k ∷ word) = suc k

-- What is left of a path has weight d and c arcs, or weighs more, or has more arcs with this weight.
abbrev pub NoLess : Cost → ℕ → Cost → ℕ → Type 0
NoLess d c v n = (cost_cmp d v ≡ Less) ⊎ ((d ≡ v) × (c ≤ n))

-- what is ahead of a word that goes on by a move: its weight and its arcs
pub record Ahead : Type 0 where
  pub total : Cost
  pub arcs : ℕ

-- moves by what is ahead of them: by weight, then by arcs, then by the move
abbrev pub move_cmp : ℕ → Ahead → ℕ → Ahead → Ordering
move_cmp m e j f = ordering_then (cost_cmp e.total f.total) (ordering_then (nat_cmp e.arcs f.arcs) (nat_cmp m j))

module _ {N : Type 0} (kind : ArcType) (g : Words N) where
  -- the word from this name has this weight
  abbrev pub Says : N → List ℕ → Cost → Type 0
  Says x [] v = g.stop x ≡ Some v
  Says x (k ∷ word) v = (w : Cost) × (y : N) × (u : Cost) × (g.step x k ≡ Some (w, y)) × Says y word u × (v ≡ times kind w u)

  -- The first n words from a name, as the first n paths of a graph.
  pub record AreFirstWords (start : N) (n : ℕ) (words : List WeightedWord) : Type 0 where
    pub few : length words ≤ n
    pub ascends : WordsAscend words
    pub says : (a : WeightedWord) → Has words a → Says start a.word a.weight
    pub others : (b : WeightedWord) → Says start b.word b.weight
        → Has words b ⊎ ((length words ≡ n) × ((a : WeightedWord) → Has words a → word_cmp a b ≡ Less))

  -- The best word from a name has weight d, and the shortest of those has length c.
  pub record IsAhead (x : N) (d : Cost) (c : ℕ) : Type 0 where
    pub word : List ℕ
    pub says : Says x word d
    pub long : length word ≡ c
    pub least : (other : List ℕ) (v : Cost) → Says x other v → NoLess d c v (length other)

  module _ (dist : N → Cost) (count : N → ℕ) where
    -- what is ahead of the words that stop, and of those that take a step
    abbrev pub ahead_of_stop : Option Cost → Option Ahead
    ahead_of_stop None = None
    ahead_of_stop (Some v) = Some (record { total = v; arcs = 0 })

    abbrev pub ahead_of_step : Option (Cost × N) → Option Ahead
    ahead_of_step None = None
    ahead_of_step (Some s) = Some (record { total = times kind s.0 (dist s.1); arcs = suc (count s.1) })

    -- what is ahead of a move of a name
    abbrev pub ahead_of : N → ℕ → Option Ahead
    ahead_of x zero = ahead_of_stop (g.stop x)
    ahead_of x (suc k) = ahead_of_step (g.step x k)

    -- these moves stand by what is ahead of them
    abbrev pub InOrder : N → List ℕ → Type 0
    InOrder x [] = Unit {0}
    InOrder x (m ∷ moves) = (e : Ahead) × (ahead_of x m ≡ Some e)
        × ((j : ℕ) (f : Ahead) → Has moves j → ahead_of x j ≡ Some f → move_cmp m e j f ≡ Less) × InOrder x moves

    -- these are all moves of the name, in this order
    pub record IsOrder (x : N) (moves : List ℕ) : Type 0 where
      pub ordered : InOrder x moves
      pub all : (m : ℕ) (e : Ahead) → ahead_of x m ≡ Some e → Has moves m

    -- Each step has a weight that can be cancelled, and leads to a name from which words go on, with this weight and
    -- this length ahead.
    pub record AreWords : Type 0 where
      pub cost : (x y : N) (k : ℕ) (w : Cost) → g.step x k ≡ Some (w, y) → IsCost kind w
      pub solid : (x y : N) (k : ℕ) (w : Cost) → g.step x k ≡ Some (w, y) → w ≡ infinite → ⊥
      pub ahead : (x y : N) (k : ℕ) (w : Cost) → g.step x k ≡ Some (w, y) → IsAhead y (dist y) (count y)
