-- The laws of paths in a graph.
use Rattle.std.specs.Prelude.{◌≡◌, ◌⊎◌, ◌↔◌, ℕ, ◌*◌, List, ◌++◌, length, Some, slice_get, reverse, All}
use Rattle.fst_semiring.specs.Cost.{Cost}
use Rattle.fst_semiring.specs.declared.arc_type.ArcType.{ArcType}
use Rattle.fst_semiring.specs.Semiring.{one_of, times, IsCost, Within}
use Rattle.fst_machine.specs.Graph.{Graph}
use Rattle.fst_machine.specs.Letters.{Letter, input, output, label_word, product}
use Rattle.fst_machine.specs.Paths.{Transition, IsPath, places, IsWalk}
use Rattle.fst_machine.specs.Relation.{RelFrom}
use Rattle.fst_machine.specs.Futures.{SaysEnd, SaysArc}
use Rattle.fst_machine.specs.Continuing.{epsilon_arc}
use Rattle.fst_machine.specs.PathOrder.{arc_places}

-- Paths that meet are one path, and a path can be cut anywhere; as it is written down it is the same path,
-- and the places of its arcs fix it; a name says what it ends with and what its arcs say, and by an
-- epsilon arc of One what the arc's end says.
pub record PathLaws {N : Type 0} (kind : ArcType) (g : Graph N) : Type 0 where
  pub joins : (path rest : List (Transition N)) (p q r : N) → IsPath g p path q → IsPath g q rest r → IsPath g p (path ++ rest) r
  pub splits : (path rest : List (Transition N)) (p r : N) → IsPath g p (path ++ rest) r → (q : N) × IsPath g p path q × IsPath g q rest r
  pub written : (path : List (Transition N)) (p q : N) → IsPath g p path q → IsWalk g p (places path) q
  pub read : (walk : List (N × ℕ)) (p q : N) → IsWalk g p walk q → (path : List (Transition N)) × IsPath g p path q × (places path ≡ walk)
  pub fixed : (one two : List (Transition N)) (p q r : N) → IsPath g p one q → IsPath g p two r → arc_places one ≡ arc_places two → (one ≡ two) × (q ≡ r)
  pub says : (p : N) (x y : List ℕ) (w : Cost) → RelFrom kind g p x y w ↔ (SaysEnd kind g p x y w ⊎ SaysArc kind g p x y w)
  pub silent : (p q : N) (place : ℕ) (x y : List ℕ) (w : Cost) → slice_get (g.arcs p) place ≡ Some (epsilon_arc (one_of kind) q)
      → RelFrom kind g q x y w → RelFrom kind g p x y w

-- What two lists of letters say together, and what one says turned round; the product of values of the arc type
-- is one, and its numbers are within as many times the bound of its factors as there are factors.
pub record LetterLaws (kind : ArcType) : Type 0 where
  pub input_joined : (ls ms : List Letter) → input (ls ++ ms) ≡ input ls ++ input ms
  pub output_joined : (ls ms : List Letter) → output (ls ++ ms) ≡ output ls ++ output ms
  pub word_joined : (ls ms : List Letter) → label_word (ls ++ ms) ≡ label_word ls ++ label_word ms
  pub product_joined : (ls ms : List Letter) → product kind (ls ++ ms) ≡ times kind (product kind ls) (product kind ms)
  pub input_turned : (ls : List Letter) → input (reverse ls) ≡ reverse (input ls)
  pub output_turned : (ls : List Letter) → output (reverse ls) ≡ reverse (output ls)
  pub product_turned : (ls : List Letter) → product kind (reverse ls) ≡ product kind ls
  pub product_kind : (ls : List Letter) → All (λ l. IsCost kind l.weight) ls → IsCost kind (product kind ls)
  pub product_within : (n : ℕ) (ls : List Letter) → All (λ l. Within n l.weight) ls → Within (length ls * n) (product kind ls)
