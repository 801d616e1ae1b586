-- What a list of rules relates. (OpenFst manual, "Replace": an arc whose output label is that of a rule stands for
-- the paths of that rule's machine.) A relation is the set of its triples: two strings and a weight.
use Rattle.std.specs.Prelude.{◌≡◌, ◌↔◌, ℕ, zero, suc, List, [], ◌∷◌, Option, None, Some, length}
use Rattle.fst_semiring.specs.Cost.{Cost, infinite}
use Rattle.fst_semiring.specs.declared.arc_type.ArcType.{ArcType}
use Rattle.fst_semiring.specs.Semiring.{one_of, times}
use Rattle.fst_machine.specs.Machine.{Arc, Machine}
use Rattle.fst_machine.specs.Graph.{graph_of}
use Rattle.fst_machine.specs.Letters.{before}
use Rattle.fst_machine.specs.Paths.{Transition, IsPath}
use Rattle.fst_rational.specs.Relations.{IsProduct, Triple}
use Rattle.fst_replace.specs.Rules.{Labelled, labels_of, machine_at, place_of}

-- Below, `triples` gives the triples of the rule in each place, and `labels` are the labels of the rules.
module _ (kind : ArcType) (labels : List ℕ) (triples : ℕ → List ℕ → List ℕ → Cost → Type 0) where
  -- How an arc is read, by the place of the rule that it calls. An arc that calls none is read as it stands. A
  -- call arc is read as a triple of the rule that it calls, with its own weight multiplied on; its own labels are
  -- not read.
  abbrev pub ReadsArc : Arc Cost ℕ → Option ℕ → List ℕ → List ℕ → Cost → Type 0
  ReadsArc a None x y w = (x ≡ before a.ilabel []) × (y ≡ before a.olabel []) × (w ≡ a.weight)
  ReadsArc a (Some rule) x y w = (v : Cost) × triples rule x y v × (w ≡ times kind a.weight v)

  -- how a path is read, one arc after the other
  abbrev pub ReadsPath : List (Transition ℕ) → List ℕ → List ℕ → Cost → Type 0
  ReadsPath [] x y w = (x ≡ []) × (y ≡ []) × (w ≡ one_of kind)
  ReadsPath (t ∷ path) x y w = IsProduct kind (ReadsArc t.arc (place_of labels t.arc.olabel)) (ReadsPath path) x y w

  -- Some path of the machine from p to a final state, read so, has these strings and, with the final weight, this
  -- weight.
  pub record IsReadFrom (m : Machine Cost) (p : ℕ) (x y : List ℕ) (w : Cost) : Type 0 where
    pub path : List (Transition ℕ)
    pub last : ℕ
    pub leads : IsPath (graph_of m) p path last
    pub final : (graph_of m).final last ≡ infinite → ⊥
    pub product : Cost
    pub reads : ReadsPath path x y product
    pub weight : w ≡ times kind product ((graph_of m).final last)

  -- The triple is that of a successful path of the machine, read so.
  pub record IsRead (m : Machine Cost) (x y : List ℕ) (w : Cost) : Type 0 where
    pub first : ℕ
    pub starts : m.start ≡ Some first
    pub says : IsReadFrom m first x y w

-- The triples of the rule in place i where calls go to this depth: at depth 0 there are none; one deeper they are
-- those of the successful paths of the rule's machine, whose calls are read as triples of the depth before.
abbrev pub IsReplacedTriple : ArcType → List (Labelled Cost) → ℕ → ℕ → List ℕ → List ℕ → Cost → Type 0
IsReplacedTriple kind rules zero i x y w = ⊥
IsReplacedTriple kind rules (suc depth) i x y w = IsRead kind (labels_of rules) (IsReplacedTriple kind rules depth) (machine_at rules i) x y w

-- The machine has just the triples of the root. Where no rule that the root reaches can call itself, calls go no
-- deeper than there are rules.
abbrev pub Replaces : ArcType → List (Labelled Cost) → Machine Cost → Type 0
Replaces kind rules m = (x y : List ℕ) (w : Cost) → Triple kind m x y w ↔ IsReplacedTriple kind rules (length rules) 0 x y w
