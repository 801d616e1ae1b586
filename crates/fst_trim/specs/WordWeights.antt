-- The weights of words in an acceptor, whose arcs of one state have different labels where it is deterministic. (Mohri
-- 2009, section 3.4, speaks of the weight that a deterministic acceptor gives a word. That each word has at most one
-- weight here is from determinism.)
use Rattle.std.specs.Prelude.{◌≡◌, ◌⊎◌, ◌↔◌, ℕ, List, Some, slice_get}
use Rattle.fst_semiring.specs.Cost.{Cost, infinite}
use Rattle.fst_semiring.specs.declared.arc_type.ArcType.{ArcType}
use Rattle.fst_semiring.specs.Semiring.{times}
use Rattle.fst_machine.specs.Machine.{Arc}
use Rattle.fst_machine.specs.Graph.{Graph}
use Rattle.fst_machine.specs.Letters.{label_word, product}
use Rattle.fst_machine.specs.Paths.{Transition, IsPath, letters}

-- arcs of one name with one input label are one arc
abbrev pub IsSingle : {N : Type 0} → Graph N → Type 0
IsSingle {N} g = (p : N) (i j : ℕ) (a b : Arc Cost N) → slice_get (g.arcs p) i ≡ Some a → slice_get (g.arcs p) j ≡ Some b → a.ilabel ≡ b.ilabel → a ≡ b

module _ {N : Type 0} (kind : ArcType) (g : Graph N) where
  -- Some path from p to a final name has this word, its labels with 0 among them, and with the final weight this
  -- weight.
  pub record Weighs (p : N) (x : List ℕ) (w : Cost) : Type 0 where
    pub path : List (Transition N)
    pub last : N
    pub leads : IsPath g p path last
    pub final : g.final last ≡ infinite → ⊥
    pub word : x ≡ label_word (letters path)
    pub weight : w ≡ times kind (product kind (letters path)) (g.final last)

  -- Some successful path has this word and this weight.
  pub record WordWeighs (x : List ℕ) (w : Cost) : Type 0 where
    pub first : N
    pub starts : g.start ≡ Some first
    pub weighs : Weighs first x w

  -- the weight of a word: that of a successful path with it, and Zero where there is none
  abbrev pub IsWordWeight : List ℕ → Cost → Type 0
  IsWordWeight x w = WordWeighs x w ⊎ (((v : Cost) → WordWeighs x v → ⊥) × (w ≡ infinite))

-- each word has the same weight in both
abbrev pub SameWords : {N M : Type 0} → ArcType → Graph N → Graph M → Type 0
SameWords kind g h = (x : List ℕ) (w : Cost) → IsWordWeight kind g x w ↔ IsWordWeight kind h x w
