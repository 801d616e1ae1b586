-- Prefixes of strings that are still to be listed, each with its best string: the table of a search of the best strings.
use Rattle.std.specs.Prelude.{◌≡◌, ◌⊎◌, ℕ, List, [], ◌∷◌, ◌++◌, length, Bool, true, false}
use Rattle.std.specs.declared.cmp.Ordering.{Ordering}
use Rattle.std.specs.declared.cmp.Ordering.TheVariants.{Less}
use Rattle.std.specs.Ordering.{nat_cmp, ordering_then}
use Rattle.std.specs.Cmp.Lexicographic.{slice_cmp}
use Rattle.fst_semiring.specs.Cost.{Cost, cost_cmp}
use Rattle.fst_machine.specs.BreadthFirst.{Has}
use Rattle.fst_nbest.specs.Words.{NoLess, WeightedWord, WordsAscend, word_cmp}

-- The string `prefix` alone, where it is closed, else all strings that begin with it; the best of them has this weight
-- and this length.
pub record Front : Type 0 where
  pub prefix : List ℕ
  pub closed : Bool
  pub total : Cost
  pub long : ℕ

abbrev pub CoversBy : Bool → List ℕ → List ℕ → Type 0
CoversBy true prefix x = x ≡ prefix
CoversBy false prefix x = (rest : List ℕ) × (x ≡ prefix ++ rest)

-- the string is one of the front's
abbrev pub Covers : Front → List ℕ → Type 0
Covers e x = CoversBy e.closed e.prefix x

-- fronts by weight, by length, by the labels of their prefixes
abbrev pub front_cmp : Front → Front → Ordering
front_cmp e f = ordering_then (cost_cmp e.total f.total) (ordering_then (nat_cmp e.long f.long) (slice_cmp nat_cmp e.prefix f.prefix))

-- no string is one of both
abbrev pub Disjoint : Front → Front → Type 0
Disjoint e f = (x : List ℕ) → Covers e x → Covers f x → ⊥

-- nor of any two of a list
abbrev pub AllDisjoint : List Front → Type 0
AllDisjoint [] = Unit {0}
AllDisjoint (e ∷ es) = ((f : Front) → Has es f → Disjoint e f) × AllDisjoint es

-- the front comes before each of these
abbrev pub ComesFirst : Front → List Front → Type 0
ComesFirst e es = (f : Front) → Has es f → front_cmp e f ≡ Less

-- a string has at most one weight
abbrev pub WeighsOnce : (List ℕ → Cost → Type 0) → Type 0
WeighsOnce Weighs = (x : List ℕ) (v w : Cost) → Weighs x v → Weighs x w → v ≡ w

module _ (Weighs : List ℕ → Cost → Type 0) where
  -- The weight and the length of a front are those of its best string, the shortest of these.
  pub record IsKey (e : Front) : Type 0 where
    pub word : List ℕ
    pub inside : Covers e word
    pub weighs : Weighs word e.total
    pub long : length word ≡ e.long
    pub least : (x : List ℕ) (v : Cost) → Covers e x → Weighs x v → NoLess e.total e.long v (length x)

  -- The listed strings and those of the fronts are all, each once; the listed ones come first, in order.
  pub record IsFrontier (listed : List WeightedWord) (es : List Front) : Type 0 where
    pub ascends : WordsAscend listed
    pub says : (a : WeightedWord) → Has listed a → Weighs a.word a.weight
    pub keys : (e : Front) → Has es e → IsKey e
    pub apart : AllDisjoint es
    pub after : (e : Front) (b a : WeightedWord) → Has es e → Covers e b.word → Weighs b.word b.weight → Has listed a → word_cmp a b ≡ Less
    pub all : (b : WeightedWord) → Weighs b.word b.weight → Has listed b ⊎ ((e : Front) × Has es e × Covers e b.word)

  -- An open front is taken apart: these have its strings, each once, and the first leads, with its weight and length.
  pub record IsParted (e first : Front) (others : List Front) : Type 0 where
    pub is_open : e.closed ≡ false
    pub keys : (f : Front) → Has (first ∷ others) f → IsKey f
    pub apart : AllDisjoint (first ∷ others)
    pub inside : (f : Front) (x : List ℕ) → Has (first ∷ others) f → Covers f x → Covers e x
    pub all : (b : WeightedWord) → Weighs b.word b.weight → Covers e b.word → (f : Front) × Has (first ∷ others) f × Covers f b.word
    pub total : first.total ≡ e.total
    pub long : first.long ≡ e.long
    pub more : List ℕ
    pub prefix : first.prefix ≡ e.prefix ++ more
    pub leads : ComesFirst first others
