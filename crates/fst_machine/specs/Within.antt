-- Weights and distances by paths of at most so many arcs, and how they come from those of fewer. (Mohri 2009,
-- section 3.3: single-source shortest distances by the number of arcs.)
use Rattle.std.specs.Prelude.{◌≡◌, ℕ, ◌≤◌, zero, suc, List, [], ◌∷◌, Option, None, Some, length, cond, nat_eq}
use Rattle.fst_semiring.specs.Cost.{Cost, infinite, plus}
use Rattle.fst_semiring.specs.declared.arc_type.ArcType.{ArcType}
use Rattle.fst_semiring.specs.Semiring.{one_of, times}
use Rattle.fst_machine.specs.Machine.{Arc}
use Rattle.fst_machine.specs.Graph.{Graph}
use Rattle.fst_machine.specs.Letters.{product}
use Rattle.fst_machine.specs.Paths.{Transition, IsPath, letters}
use Rattle.fst_machine.specs.Relation.{RelFrom}

module _ {N : Type 0} (kind : ArcType) (g : Graph N) where
  -- Some path of at most k arcs from p to a final name has these strings and this weight.
  pub record RelWithin (k : ℕ) (p : N) (x y : List ℕ) (w : Cost) : Type 0 where
    pub says : RelFrom kind g p x y w
    pub short : length says.path ≤ k

  -- Some path of at most k arcs from p to q has this product.
  pub record ReachesWithin (k : ℕ) (p q : N) (w : Cost) : Type 0 where
    pub path : List (Transition N)
    pub leads : IsPath g p path q
    pub short : length path ≤ k
    pub weight : w ≡ product kind (letters path)

  -- Some path of at most k arcs from p to a name that counts, one whose target value is not Zero, has this
  -- product Times that value.
  pub record ArrivesWithin (target : N → Cost) (k : ℕ) (p : N) (w : Cost) : Type 0 where
    pub last : N
    pub path : List (Transition N)
    pub leads : IsPath g p path last
    pub counts : target last ≡ infinite → ⊥
    pub short : length path ≤ k
    pub weight : w ≡ times kind (product kind (letters path)) (target last)

-- what stands behind a label in a string; every string stands behind epsilon
abbrev pub behind : ℕ → List ℕ → Option (List ℕ)
behind zero xs = Some xs
behind (suc n) [] = None
behind (suc n) (x ∷ xs) = cond (nat_eq (suc n) x) (Some xs) None

-- the weight with which a name ends the pair: its final weight, where both strings are empty
abbrev pub end_weight : Cost → List ℕ → List ℕ → Cost
end_weight final [] [] = final
end_weight final [] (y ∷ ys) = infinite
end_weight final (x ∷ xs) ys = infinite

-- the weight of a pair by an arc, where the labels of the arc stand before it
abbrev pub arc_weight : {N : Type 0} → ArcType → (N → List ℕ → List ℕ → Cost) → Arc Cost N → Option (List ℕ) → Option (List ℕ) → Cost
arc_weight kind rest a (Some x) (Some y) = times kind a.weight (rest a.next x y)
arc_weight kind rest a (Some x) None = infinite
arc_weight kind rest a None y = infinite

-- the best of these by some arc of the list
abbrev pub arcs_weight : {N : Type 0} → ArcType → (N → List ℕ → List ℕ → Cost) → List ℕ → List ℕ → List (Arc Cost N) → Cost
arcs_weight kind rest x y [] = infinite
arcs_weight kind rest x y (a ∷ arcs) = plus (arc_weight kind rest a (behind a.ilabel x) (behind a.olabel y)) (arcs_weight kind rest x y arcs)

-- the weight of a pair from a name over paths of at most k arcs
abbrev pub weight_within : {N : Type 0} → ArcType → Graph N → ℕ → N → List ℕ → List ℕ → Cost
weight_within kind g zero p x y = end_weight (g.final p) x y
weight_within kind g (suc k) p x y = plus (end_weight (g.final p) x y) (arcs_weight kind (weight_within kind g k) x y (g.arcs p))

-- the best way by some arc of the list
abbrev pub ways_weight : {N : Type 0} → ArcType → (N → Cost) → List (Arc Cost N) → Cost
ways_weight kind rest [] = infinite
ways_weight kind rest (a ∷ arcs) = plus (times kind a.weight (rest a.next)) (ways_weight kind rest arcs)

-- the distance to the names that count, over paths of at most k arcs
abbrev pub target_within : {N : Type 0} → ArcType → Graph N → (N → Cost) → ℕ → N → Cost
target_within kind g target zero p = target p
target_within kind g target (suc k) p = plus (target p) (ways_weight kind (target_within kind g target k) (g.arcs p))

-- One at this number, and Zero at each other
abbrev pub only_at : ArcType → ℕ → ℕ → Cost
only_at kind q n = cond (nat_eq n q) (one_of kind) infinite
