-- The laws of graphs that stand to each other as operations make them.
use Rattle.std.specs.Prelude.{◌≡◌, ◌⊎◌, ◌↔◌, ℕ, List, ◌∷◌, ◌++◌, reverse}
use Rattle.fst_semiring.specs.Cost.{Cost, infinite}
use Rattle.fst_semiring.specs.declared.arc_type.ArcType.{ArcType}
use Rattle.fst_semiring.specs.Semiring.{times}
use Rattle.fst_machine.specs.Machine.{Machine}
use Rattle.fst_machine.specs.Graph.{Graph, graph_of}
use Rattle.fst_machine.specs.Letters.{input, output, product}
use Rattle.fst_machine.specs.Paths.{Transition, IsPath, letters}
use Rattle.fst_machine.specs.Relation.{RelFrom, Rel}
use Rattle.fst_machine.specs.Renaming.{moved, Renames}
use Rattle.fst_machine.specs.Serving.{Serves}
use Rattle.fst_machine.specs.Continuing.{epsilon_arc, Continues, Stays, GoesOn}
use Rattle.fst_machine.specs.Turning.{Turns}
use Rattle.fst_machine.specs.Numbering.{IsNumbered}
use Rattle.fst_machine.specs.Connected.{IsConnected}

module _ {N M : Type 0} (kind : ArcType) (g : Graph N) (h : Graph M) where
  -- A renaming carries each path there, each path back to just one, and keeps what names say.
  pub record RenamingLaws (f : N → M) (Domain : N → Type 0) : Type 0 where
    pub there : Renames f g h Domain → (p q : N) (path : List (Transition N)) → Domain p → IsPath g p path q → IsPath h (f p) (moved f path) (f q)
    pub back : Renames f g h Domain → (p : N) (m : M) (path : List (Transition M)) → Domain p → IsPath h (f p) path m
        → (old : List (Transition N)) × (q : N) × IsPath g p old q × (moved f old ≡ path) × (f q ≡ m) × Domain q
    pub once : (p q r : N) (one two : List (Transition N)) → IsPath g p one q → IsPath g p two r → moved f one ≡ moved f two → (one ≡ two) × (q ≡ r)
    pub letters_same : (path : List (Transition N)) → letters (moved f path) ≡ letters path
    pub says : Renames f g h Domain → (p : N) → Domain p → (x y : List ℕ) (w : Cost) → RelFrom kind g p x y w ↔ RelFrom kind h (f p) x y w

  -- Where arcs serve for arcs, a path to a final name has one beside it, and all that is related is related.
  pub record ServingLaws (R : N → M → Type 0) : Type 0 where
    pub path : Serves R g h → (p q : N) (m : M) (path : List (Transition N)) → (g.final q ≡ infinite → ⊥) → R p m → IsPath g p path q
        → (other : List (Transition M)) × (end : M) × IsPath h m other end × (letters other ≡ letters path) × R q end
    pub relation : Serves R g h → (x y : List ℕ) (w : Cost) → Rel kind g x y w → Rel kind h x y w

  -- Where final names go on by an epsilon arc, paths do so too, and do nothing else.
  pub record ContinuingLaws (f : N → M) (Domain : N → Type 0) (c : M) : Type 0 where
    pub goes_on : Continues f g h Domain c → (p q : N) (path : List (Transition N)) (rest : List (Transition M)) (last : M) → Domain p
        → IsPath g p path q → (g.final q ≡ infinite → ⊥) → IsPath h c rest last
        → (place : ℕ) × IsPath h (f p) (moved f path ++ (record { state = f q; place = place; arc = epsilon_arc (g.final q) c } ∷ rest)) last
    pub cases : Continues f g h Domain c → (p : N) (path : List (Transition M)) (last : M) → Domain p → IsPath h (f p) path last
        → Stays f g Domain p path last ⊎ GoesOn f g h Domain c p path last
    pub reads : Continues f g h Domain c → (p : N) (path : List (Transition M)) (last : M) (r : GoesOn f g h Domain c p path last)
        → input (letters path) ≡ input (letters r.old) ++ input (letters r.rest)
    pub writes : Continues f g h Domain c → (p : N) (path : List (Transition M)) (last : M) (r : GoesOn f g h Domain c p path last)
        → output (letters path) ≡ output (letters r.old) ++ output (letters r.rest)
    pub weighs : Continues f g h Domain c → (p : N) (path : List (Transition M)) (last : M) (r : GoesOn f g h Domain c p path last)
        → product kind (letters path) ≡ times kind (times kind (product kind (letters r.old)) (g.final r.end)) (product kind (letters r.rest))

  -- Where arcs lead back, a path has one back with its letters turned round.
  abbrev pub TurningLaw : (N → M → Type 0) → (N → Type 0) → Type 0
  TurningLaw R Domain = Turns R g h Domain → (p q : N) (m : M) (path : List (Transition N)) → Domain p → R q m → IsPath g p path q
      → (back : List (Transition M)) × (end : M) × IsPath h m back end × (letters back ≡ reverse (letters path)) × R p end

-- A machine that numbers the names of a graph relates what the graph relates, and the connected machine
-- relates what the machine relates.
pub record MachineLaws {N : Type 0} (kind : ArcType) (g : Graph N) : Type 0 where
  pub numbered : (names : List N) (m : Machine Cost) → IsNumbered g names m → (x y : List ℕ) (w : Cost) → Rel kind (graph_of m) x y w ↔ Rel kind g x y w
  pub connected : (m c : Machine Cost) → IsConnected m c → (x y : List ℕ) (w : Cost) → Rel kind (graph_of m) x y w ↔ Rel kind (graph_of c) x y w
