-- Weighted subsets of words. (Mohri 2009, weighted determinization. There a state of the result is a set of pairs of a
-- state and a residual, as the construction makes them; here it is told by the word that leads to it.)
use Rattle.std.specs.Prelude.{◌≡◌, ◌≢◌, ◌<◌, ℕ, List, [], ◌∷◌, Some}
use Rattle.fst_semiring.specs.Cost.{Cost, infinite}
use Rattle.fst_semiring.specs.declared.arc_type.ArcType.{ArcType}
use Rattle.fst_semiring.specs.Division.{quotient}
use Rattle.fst_machine.specs.BreadthFirst.{Has}
use Rattle.fst_machine.specs.Distance.{IsLeast}
use Rattle.fst_machine.specs.Graph.{Graph}
use Rattle.fst_machine.specs.Letters.{label_word, product}
use Rattle.fst_machine.specs.Paths.{IsPath, Transition, letters}

-- A state, and its residual: what is left of the best weight that reaches it when the best of all is divided off.
pub record Member : Type 0 where
  pub state : ℕ
  pub residual : Cost

-- each element has a lesser key than all that stand behind it
abbrev pub AscendsBy : {X : Type 0} → (X → ℕ) → List X → Type 0
AscendsBy key [] = Unit {0}
AscendsBy {X} key (x ∷ xs) = ((y : X) → Has xs y → key x < key y) × AscendsBy key xs

module _ (kind : ArcType) (g : Graph ℕ) where
  -- Some path from the start to q has this label word, epsilon being a label like others, and this product.
  pub record Spells (word : List ℕ) (q : ℕ) (w : Cost) : Type 0 where
    pub first : ℕ
    pub path : List (Transition ℕ)
    pub starts : g.start ≡ Some first
    pub leads : IsPath g first path q
    pub reads : label_word (letters path) ≡ word
    pub weight : w ≡ product kind (letters path)

  -- some path from the start has this label word and this product
  abbrev pub SpellsSome : List ℕ → Cost → Type 0
  SpellsSome word w = (q : ℕ) × Spells word q w

  -- The subset of a word, where this is the best product of all its paths from the start: by state, each state that the
  -- word reaches with a weight that is not Zero, and the best such weight divided by the best of all.
  pub record IsSubset (word : List ℕ) (best : Cost) (members : List Member) : Type 0 where
    pub least : IsLeast (SpellsSome word) best
    pub ascends : AscendsBy (λ m. m.state) members
    pub listed : (m : Member) → Has members m → (w : Cost) × IsLeast (Spells word m.state) w × (w ≢ infinite) × (m.residual ≡ quotient kind w best)
    pub all : (q : ℕ) (w : Cost) → Spells word q w → w ≢ infinite → (r : Cost) × Has members (record { state = q; residual = r })

  -- the members are those of the word's subset, of which there are some
  abbrev pub HasSubset : List ℕ → List Member → Type 0
  HasSubset word members = ((best : Cost) × IsSubset word best members) × ((m : Member) × Has members m)
