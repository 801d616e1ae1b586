-- Families of words, by which the first words are found: those that begin in the same way and go on by one of some
-- moves.
use Rattle.std.specs.Prelude.{◌≡◌, ◌⊎◌, ℕ, ◌+◌, suc, List, [], ◌∷◌, ◌++◌, length, Some, slice_get}
use Rattle.std.specs.declared.cmp.Ordering.{Ordering}
use Rattle.std.specs.declared.cmp.Ordering.TheVariants.{Less}
use Rattle.std.specs.Ordering.{nat_cmp, ordering_then}
use Rattle.std.specs.Cmp.Lexicographic.{slice_cmp}
use Rattle.fst_semiring.specs.Cost.{Cost, infinite, cost_cmp}
use Rattle.fst_semiring.specs.declared.arc_type.ArcType.{ArcType}
use Rattle.fst_semiring.specs.Semiring.{one_of, times, IsCost}
use Rattle.fst_machine.specs.BreadthFirst.{Has}
use Rattle.fst_nbest.specs.Words.{Words, WeightedWord, word_cmp, WordsAscend, first_move, Says, Ahead, InOrder, ahead_of}

-- Words that begin with `prefix`, which leads to `at` with weight `front`, and go on by one of these moves.
pub record Family (N : Type 0) : Type 0 where
  pub prefix : List ℕ
  pub at : N
  pub front : Cost
  pub moves : List ℕ

-- the moves of a prefix, and one more
abbrev pub route : List ℕ → ℕ → List ℕ
route [] m = m ∷ []
route (k ∷ prefix) m = suc k ∷ route prefix m

-- families by their best words: by weight, then by length, then by the moves of the prefix and the first one behind it
abbrev pub family_cmp : {N : Type 0} → ArcType → Family N → ℕ → Ahead → Family N → ℕ → Ahead → Ordering
family_cmp kind e m a f j b = ordering_then (cost_cmp (times kind e.front a.total) (times kind f.front b.total))
    (ordering_then (nat_cmp (length e.prefix + a.arcs) (length f.prefix + b.arcs)) (slice_cmp nat_cmp (route e.prefix m) (route f.prefix j)))

module _ {N : Type 0} (kind : ArcType) (g : Words N) where
  -- The word is of the family.
  pub record Holds (f : Family N) (b : WeightedWord) : Type 0 where
    pub rest : List ℕ
    pub ahead : Cost
    pub says : Says kind g f.at rest ahead
    pub word : b.word ≡ f.prefix ++ rest
    pub weight : b.weight ≡ times kind f.front ahead
    pub move : Has f.moves (first_move rest)

  -- no word is in both
  abbrev pub AreDisjoint : Family N → Family N → Type 0
  AreDisjoint e f = (b : WeightedWord) → Holds e b → Holds f b → ⊥

  -- no word is in two of these
  abbrev pub AreApart : List (Family N) → Type 0
  AreApart families = (i j : ℕ) (e f : Family N) → slice_get families i ≡ Some e → slice_get families j ≡ Some f → (i ≡ j → ⊥) → AreDisjoint e f

  -- this word leads from x to y with this weight
  abbrev pub Leads : N → List ℕ → N → Cost → Type 0
  Leads x [] y w = (x ≡ y) × (w ≡ one_of kind)
  Leads x (k ∷ word) y w = (v : Cost) × (z : N) × (u : Cost) × (g.step x k ≡ Some (v, z)) × Leads z word y u × (w ≡ times kind v u)

  module _ (dist : N → Cost) (count : N → ℕ) (start : N) where
    -- The prefix of a family leads to its name, and its moves are in order.
    pub record IsFamily (f : Family N) : Type 0 where
      pub cost : IsCost kind f.front
      pub solid : f.front ≡ infinite → ⊥
      pub ordered : InOrder kind g dist count f.at f.moves
      pub leads : Leads start f.prefix f.at f.front

    -- The listed words and these families have all words, each once; the listed ones come first, in order.
    pub record IsCovered (listed : List WeightedWord) (families : List (Family N)) : Type 0 where
      pub ascends : WordsAscend listed
      pub says : (a : WeightedWord) → Has listed a → Says kind g start a.word a.weight
      pub good : (f : Family N) → Has families f → IsFamily f
      pub apart : AreApart families
      pub after : (f : Family N) (b a : WeightedWord) → Has families f → Holds f b → Has listed a → word_cmp a b ≡ Less
      pub all : (b : WeightedWord) → Says kind g start b.word b.weight → Has listed b ⊎ ((f : Family N) × Has families f × Holds f b)

    -- A family of least weight and length ahead: its words that go on by its first move with this weight and length
    -- come before all words of the others.
    pub record IsLeading (core : Family N) (families : List (Family N)) (total : Cost) (long : ℕ) : Type 0 where
      pub move : ℕ
      pub others : List ℕ
      pub ahead : Ahead
      pub moves : core.moves ≡ move ∷ others
      pub is : ahead_of kind g dist count core.at move ≡ Some ahead
      pub weighs : times kind core.front ahead.total ≡ total
      pub counts : length core.prefix + ahead.arcs ≡ long
      pub beats : (rest : List ℕ) (u : Cost) → Says kind g core.at rest u → first_move rest ≡ move → times kind core.front u ≡ total
          → length core.prefix + length rest ≡ long → (f : Family N) (b : WeightedWord) → Has families f → Holds f b
          → word_cmp (record { word = core.prefix ++ rest; weight = total }) b ≡ Less
