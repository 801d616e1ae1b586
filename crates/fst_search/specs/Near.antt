-- A short search along epsilon arcs: the states that were met, one after the other, and the place of each.
use Rattle.std.specs.Prelude.{◌≡◌, ◌⊎◌, ℕ, ◌+◌, ◌<◌, ◌≤◌, List, ◌∷◌, Some, get_or, if◌then◌else◌, length, map, nat_eq, slice_get}
use Rattle.fst_semiring.specs.Cost.{Cost, infinite}
use Rattle.fst_semiring.specs.declared.arc_type.ArcType.{ArcType}
use Rattle.fst_semiring.specs.Semiring.{one_of, times, InRange, IsCost}
use Rattle.fst_search.specs.Closure.{Reached}
use Rattle.fst_search.specs.Hops.{Hop, Arrives, NoWorse}

-- the place of a state: one more than where it stands among those that were met, and 0 where it was not
abbrev pub place_of : List ℕ → ℕ → ℕ
place_of places q = get_or places q 0

-- none of n states has a place
abbrev pub HasNoPlaces : ℕ → List ℕ → Type 0
HasNoPlaces n places = (length places ≡ n) × ((q : ℕ) → place_of places q ≡ 0)

-- the numbers of the states that were met, and their distances
abbrev pub names_of : {D : Type 0} → List (Reached D) → List ℕ
names_of list = map (λ r. r.state) list

abbrev pub costs_of : {D : Type 0} → (D → Cost) → List (Reached D) → List Cost
costs_of value list = map (λ r. value r.distance) list

-- The states that were met have their places, and no other has one.
pub record ArePlaced (places names : List ℕ) : Type 0 where
  pub placed : (i q : ℕ) → slice_get names i ≡ Some q → place_of places q ≡ i + 1
  pub listed : (q i : ℕ) → place_of places q ≡ i + 1 → slice_get names i ≡ Some q

-- the distance of a state so far: Zero where it was not met
abbrev pub distance_by : List ℕ → List Cost → ℕ → Cost
distance_by places costs q = get_or (infinite ∷ costs) (place_of places q) infinite

-- One at a single state, and Zero at all others
abbrev pub one_at : ArcType → ℕ → ℕ → Cost
one_at kind state q = if nat_eq q state then one_of kind else infinite

-- A state gets a value that is no worse than its distance so far. Those from its place on have to hand on again.
pub record Gives (state : ℕ) (value : Cost) (next after : ℕ) (places now : List ℕ) (costs more : List Cost) : Type 0 where
  pub here : distance_by now more state ≡ value
  pub no_worse : NoWorse value (distance_by places costs state)
  pub before : after ≤ next
  pub behind : after < place_of now state
  pub place : (place_of places state ≡ 0) ⊎ (place_of now state ≡ place_of places state)

-- The value is no better: all stays.
pub record Keeps (state : ℕ) (value : Cost) (next after : ℕ) (places now : List ℕ) (costs more : List Cost) : Type 0 where
  pub no_worse : NoWorse (distance_by places costs state) value
  pub met : place_of places state ≡ 0 → ⊥
  pub same : after ≡ next
  pub here : (distance_by now more state ≡ distance_by places costs state) × (place_of now state ≡ place_of places state)

-- A state is met with this value, behind so many others. All others stay.
pub record IsMet (state : ℕ) (value : Cost) (met : ℕ) (places now : List ℕ) (costs more : List Cost) : Type 0 where
  pub others : (q : ℕ) → (q ≡ state → ⊥) → (distance_by now more q ≡ distance_by places costs q) × (place_of now q ≡ place_of places q)
  pub here : distance_by now more state ≡ value
  pub place : place_of now state ≡ met + 1

-- A state is offered a value. All others stay.
pub record Offered (state : ℕ) (value : Cost) (next after : ℕ) (places now : List ℕ) (costs more : List Cost) : Type 0 where
  pub others : (q : ℕ) → (q ≡ state → ⊥) → (distance_by now more q ≡ distance_by places costs q) × (place_of now q ≡ place_of places q)
  pub change : Keeps state value next after places now costs more ⊎ Gives state value next after places now costs more

-- A search on its way, where the states with these places have handed on their distances.
pub record ShortSearch (kind : ArcType) (Goes : Hop → Type 0) (source : ℕ → Cost) (done : ℕ) (places : List ℕ) (costs : List Cost) : Type 0 where
  pub begins : (q : ℕ) → NoWorse (distance_by places costs q) (source q)
  pub reached : (q : ℕ) → (place_of places q ≡ 0) ⊎ Arrives kind Goes source q (distance_by places costs q)
  pub closed : (h : Hop) → Goes h → place_of places h.from ≤ done → NoWorse (distance_by places costs h.to) (times kind h.weight (distance_by places costs h.from))
  pub ranges : (q : ℕ) → InRange (distance_by places costs q)
  pub kinds : (q : ℕ) → IsCost kind (distance_by places costs q)
