-- Paths as the plain programs hold them, and the list of all of them.
use Rattle.std.specs.Prelude.{◌≡◌, ℕ, ◌<◌, ◌≤◌, suc, List, [], ◌∷◌, ◌++◌, length, map}
use Rattle.std.specs.List.{All, flat_map}
use Rattle.fst_semiring.specs.Cost.{Cost}
use Rattle.fst_semiring.specs.declared.arc_type.ArcType.{ArcType}
use Rattle.fst_semiring.specs.Semiring.{one_of, times}
use Rattle.fst_machine.specs.Machine.{Arc}
use Rattle.fst_machine.specs.Graph.{Graph}
use Rattle.fst_machine.specs.Letters.{product}
use Rattle.fst_machine.specs.Paths.{Transition, IsPath, letters}
use Rattle.fst_machine.specs.Relation.{IsSuccessful}
use Rattle.fst_machine.specs.BreadthFirst.{Has}
use Rattle.fst_machine.specs.PathOrder.{WeightedPath, Ascends}
use Rattle.fst_plain.specs.declared.path.PlainTransition.{PlainTransition}
use Rattle.fst_plain.specs.declared.path.PlainPath.{PlainPath}
use Rattle.fst_plain.specs.declared.path.PlainPart.{PlainPart}
use Rattle.fst_plain.specs.Plain.{cost_of, Fits}

-- the transition that is held
abbrev pub transition_of : PlainTransition → Transition ℕ
transition_of t = record { state = t.state; place = t.place; arc = record { ilabel = t.ilabel; olabel = t.olabel; weight = cost_of t.weight; next = t.next } }

-- the path that is held, with its weight
abbrev pub path_of : PlainPath → WeightedPath ℕ
path_of p = record { path = map transition_of p.transitions.items; weight = cost_of p.weight }

-- A path from some start, with its end and its product.
pub record Part : Type 0 where
  pub path : List (Transition ℕ)
  pub end : ℕ
  pub product : Cost

abbrev pub part_of : PlainPart → Part
part_of p = record { path = map transition_of p.transitions.items; end = p.end; product = cost_of p.product }

-- the path without arcs
abbrev pub no_arcs : ArcType → ℕ → Part
no_arcs kind start = record { path = []; end = start; product = one_of kind }

-- a path with one arc more
abbrev pub one_more : ArcType → Part → Transition ℕ → Part
one_more kind a t = record { path = a.path ++ t ∷ []; end = t.arc.next; product = times kind a.product t.arc.weight }

-- the transitions by these arcs of a state, the first of which has this place
abbrev pub outgoing : ℕ → ℕ → List (Arc Cost ℕ) → List (Transition ℕ)
outgoing p k [] = []
outgoing p k (a ∷ arcs) = record { state = p; place = k; arc = a } ∷ outgoing p (suc k) arcs

-- each of these paths with one arc more, in all ways
abbrev pub extensions : ArcType → Graph ℕ → List Part → List Part
extensions kind g parts = flat_map (λ a. map (one_more kind a) (outgoing a.end 0 (g.arcs a.end))) parts

-- all successful paths with at most k arcs, each once, in their order
pub record ListsPaths (kind : ArcType) (g : Graph ℕ) (k : ℕ) (listed : List (WeightedPath ℕ)) : Type 0 where
  pub ascends : Ascends listed
  pub only : (a : WeightedPath ℕ) → Has listed a → IsSuccessful kind g a.path a.weight × (length a.path ≤ k)
  pub all : (a : WeightedPath ℕ) → IsSuccessful kind g a.path a.weight → length a.path ≤ k → Has listed a

-- these are the paths from a start with less than k arcs, each with its end and product
pub record ArePartsBelow (kind : ArcType) (g : Graph ℕ) (start k : ℕ) (parts : List Part) : Type 0 where
  pub only : (a : Part) → Has parts a → IsPath g start a.path a.end × (length a.path < k) × (a.product ≡ product kind (letters a.path))
  pub all : (path : List (Transition ℕ)) (end : ℕ) → IsPath g start path end → length path < k
      → Has parts (record { path = path; end = end; product = product kind (letters path) })

-- each ends at a state, and its product fits
abbrev pub AllGood : ℕ → ℕ → List PlainPart → Type 0
AllGood states n parts = All (λ p. (p.end < states) × Fits n (cost_of p.product)) parts
