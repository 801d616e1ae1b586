-- What the program keeps of a machine before it lists paths: distances and counts by state.
use Rattle.std.specs.Prelude.{◌≡◌, ℕ, ◌*◌, ◌<◌, List, length, map, get_or, All}
use Rattle.fst_semiring.specs.Cost.{Cost, infinite}
use Rattle.fst_semiring.specs.declared.arc_type.ArcType.{ArcType}
use Rattle.fst_semiring.specs.Semiring.{times, IsCost, Within}
use Rattle.fst_machine.specs.Machine.{Machine, valued}
use Rattle.fst_machine.specs.Graph.{graph_of}
use Rattle.fst_trim.specs.Links.{Link}
use Rattle.fst_nbest.specs.PathWords.{AreDistances, HasSolidArcs, IsCount, path_words}

-- the distance of a state, Zero past the last, and its count
abbrev pub dist_in : {D : Type 0} → (D → Cost) → List D → ℕ → Cost
dist_in value dist q = get_or (map value dist) q infinite

abbrev pub count_in : List ℕ → ℕ → ℕ
count_in count q = get_or count q 0

-- a bound for the numbers of weights, and one for those of distances
abbrev pub most_weight : ℕ
most_weight = 1180591620717411303424

abbrev pub most_distance : ℕ
most_distance = 4951760157141521099596496896

-- the weight of a path of so many arcs
abbrev pub IsBounded : {D : Type 0} → (D → Cost) → ArcType → ℕ → D → Type 0
IsBounded value kind k t = Within (k * 1180591620717411303424) (value t) × IsCost kind (value t)

-- These are the distances of the states of a machine to its final states.
pub record HasDistances {V D : Type 0} (kind : ArcType) (value : V → Cost) (wide : D → Cost) (known : V → Type 0) (m : Machine V)
    (dist : List D) : Type 0 where
  pub dist_size : length dist ≡ length m.states
  pub exact : AreDistances kind (graph_of (valued value m)) (dist_in wide dist)
  pub firm : HasSolidArcs kind (graph_of (valued value m))
  pub numbers : (q : ℕ) → Within most_distance (dist_in wide dist q)
  pub kinds : (q : ℕ) → IsCost kind (dist_in wide dist q)
  pub weights : All (λ s. All (λ a. known a.weight) s.arcs) m.states
  pub finals : All (λ s. known s.final) m.states

-- These are the distances and the counts of a machine.
pub record IsReady {V D : Type 0} (kind : ArcType) (value : V → Cost) (wide : D → Cost) (known : V → Type 0)
    (m : Machine V) (dist : List D) (count : List ℕ) : Type 0 where
  pub measured : HasDistances kind value wide known m dist
  pub count_size : length count ≡ length m.states
  pub counts : (q : ℕ) → (dist_in wide dist q ≡ infinite → ⊥)
      → IsCount kind (path_words (graph_of (valued value m)) (dist_in wide dist)) q (dist_in wide dist q) (count_in count q)

-- a machine with its distances
pub record Measured (V D : Type 0) : Type 0 where
  pub machine : Machine V
  pub dist : List D

-- A best path may stop at this state.
pub record IsTightStop {V D : Type 0} (value : V → Cost) (wide : D → Cost) (m : Machine V) (dist : List D) (q : ℕ) : Type 0 where
  pub low : q < length m.states
  pub final : (graph_of (valued value m)).final q ≡ infinite → ⊥
  pub same : (graph_of (valued value m)).final q ≡ dist_in wide dist q

-- the link is back along the first arc of a best path
abbrev pub IsTightLink : {V D : Type 0} → ArcType → (V → Cost) → (D → Cost) → List D → Link V → ℕ → ℕ → Type 0
IsTightLink kind value wide dist l x y = (l.next ≡ x) × (times kind (value l.weight) (dist_in wide dist y) ≡ dist_in wide dist x)

-- a machine with its distances and counts
pub record Prepared (V D : Type 0) : Type 0 where
  pub machine : Machine V
  pub dist : List D
  pub count : List ℕ
