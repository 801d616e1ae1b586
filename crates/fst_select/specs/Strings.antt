-- Strings of an acceptor by their weights, and the first of them. (Mohri 2009, section 3.1: the weight of a string is
-- that of a best path with it. The order of strings is this project's own choice, as that of paths is.)
use Rattle.std.specs.Prelude.{◌≡◌, ◌⊎◌, ℕ, ◌≤◌, List, ◌++◌, length, sum_by}
use Rattle.std.specs.declared.cmp.Ordering.TheVariants.{Less}
use Rattle.fst_semiring.specs.Cost.{Cost, plus}
use Rattle.fst_semiring.specs.declared.arc_type.ArcType.{ArcType}
use Rattle.fst_machine.specs.BreadthFirst.{Has}
use Rattle.fst_machine.specs.Graph.{Graph}
use Rattle.fst_machine.specs.Relation.{IsWeight}
use Rattle.fst_nbest.specs.Words.{WeightedWord, WordsAscend, word_cmp}
use Rattle.fst_setops.specs.Difference.{IsEpsilonFree}
use Rattle.fst_setops.specs.Intersecting.{Accepts}
use Rattle.fst_trim.specs.WordWeights.{WordWeighs}
use Rattle.fst_select.specs.declared.strings.StringWeight.{StringWeight}

-- a listed string, with its weight as a value
abbrev pub weighted : {V X : Type 0} → (X → Cost) → StringWeight V X → WeightedWord
weighted value s = record { word = s.word; weight = value s.weight }

-- how many labels strings have in all
abbrev pub labels_listed : List WeightedWord → ℕ
labels_listed strings = sum_by (λ s. length s.word) strings

-- an acceptor without epsilon: its strings are the label words of its successful paths
abbrev pub IsPlain : {N : Type 0} → Graph N → Type 0
IsPlain g = Accepts g × IsEpsilonFree g

module _ {N : Type 0} (kind : ArcType) (g : Graph N) where
  -- Some successful path whose label word begins so has this weight.
  pub record PrefixWeighs (x : List ℕ) (w : Cost) : Type 0 where
    pub rest : List ℕ
    pub whole : WordWeighs kind g (x ++ rest) w

  -- The first n strings with a weight, by weight, then by length, then by labels: at most n of them, in strictly ascending
  -- order, with their weights. Each other one comes after all of these, and there is no other where these are fewer than n.
  pub record AreFirstStrings (n : ℕ) (strings : List WeightedWord) : Type 0 where
    pub few : length strings ≤ n
    pub ascends : WordsAscend strings
    pub weighs : (a : WeightedWord) → Has strings a → IsWeight kind g a.word a.word a.weight
    pub others : (b : WeightedWord) → IsWeight kind g b.word b.word b.weight
        → Has strings b ⊎ ((length strings ≡ n) × ((a : WeightedWord) → Has strings a → word_cmp a b ≡ Less))

-- the best weight of the successful paths with this label word, of which there are some
abbrev pub IsSpelled : {N : Type 0} → ArcType → Graph N → List ℕ → Cost → Type 0
IsSpelled kind g x w = WordWeighs kind g x w × ((v : Cost) → WordWeighs kind g x v → plus w v ≡ w)
