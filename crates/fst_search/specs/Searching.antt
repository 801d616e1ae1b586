-- A search of distances on its way. It goes in rounds, in each of which a state is taken at most once: a state that
-- becomes better behind its turn waits for the next round.
use Rattle.std.specs.Prelude.{◌≡◌, ◌⊎◌, ℕ, ◌+◌, ◌*◌, ◌<◌, ◌≤◌, List, [], ◌∷◌, Option, None, Some, length, get_or}
use Rattle.fst_semiring.specs.Cost.{Cost, infinite}
use Rattle.fst_semiring.specs.declared.arc_type.ArcType.{ArcType}
use Rattle.fst_semiring.specs.Semiring.{one_of, times, IsCost, Within}
use Rattle.fst_machine.specs.BreadthFirst.{Apart, Has}
use Rattle.fst_machine.specs.Distance.{IsLeast}
use Rattle.fst_machine.specs.declared.path.Step.{Step}
use Rattle.fst_search.specs.Hops.{Hop, NoWorse, Better, hops_product, value_by, Arrives, IsBack}

-- What is kept of a state: its distance so far, the hop that gave it this, and its turn.
pub record Node (D : Type 0) : Type 0 where
  pub distance : D
  pub link : Option Step
  pub turn : ℕ

-- the same with the distance as its value
abbrev pub valued_node : {D : Type 0} → (D → Cost) → Node D → Node Cost
valued_node value node = record { distance = value node.distance; link = node.link; turn = node.turn }

-- the node of a state that no search has met
abbrev pub blank_node : Node Cost
blank_node = record { distance = infinite; link = None; turn = 0 }

abbrev pub distance_at : List (Node Cost) → ℕ → Cost
distance_at nodes q = (get_or nodes q blank_node).distance

abbrev pub link_at : List (Node Cost) → ℕ → Option Step
link_at nodes q = (get_or nodes q blank_node).link

abbrev pub turn_at : List (Node Cost) → ℕ → ℕ
turn_at nodes q = (get_or nodes q blank_node).turn

-- a hop as it is kept at the state to which it leads
abbrev pub step_of : Hop → Step
step_of h = record { state = h.from; place = h.place }

-- this hop is kept at q
abbrev pub Linked : (Hop → Type 0) → (ℕ → Option Step) → ℕ → Hop → Type 0
Linked Goes L q h = (L q ≡ Some (step_of h)) × Goes h × (h.to ≡ q)

-- the hops that are kept, followed back from q, lead to x
abbrev pub IsChain : (Hop → Type 0) → (ℕ → Option Step) → ℕ → List Hop → ℕ → Type 0
IsChain Goes L q [] x = q ≡ x
IsChain Goes L q (h ∷ back) x = Linked Goes L q h × IsChain Goes L h.from back x

-- each cycle of hops that are kept is better than One
abbrev pub CyclesImprove : ArcType → (Hop → Type 0) → (ℕ → Option Step) → Type 0
CyclesImprove kind Goes L = (x : ℕ) (h : Hop) (back : List Hop) → IsChain Goes L x (h ∷ back) x → Better (hops_product kind (h ∷ back)) (one_of kind)

-- What holds of the distances and of the hops that are kept at every moment.
pub record Tentative (kind : ArcType) (Goes : Hop → Type 0) (source : ℕ → Cost) (D : ℕ → Cost) (L : ℕ → Option Step) : Type 0 where
  pub begins : (q : ℕ) → NoWorse (D q) (source q)
  pub reached : (q : ℕ) → ((D q ≡ infinite) × (L q ≡ None)) ⊎ Arrives kind Goes source q (D q)
  pub origin : (q : ℕ) → ((L q ≡ None) × (D q ≡ source q)) ⊎ ((h : Hop) × Linked Goes L q h × NoWorse (times kind h.weight (D h.from)) (D q))
  pub cycles : CyclesImprove kind Goes L

-- What holds in a round that has k rounds before it. Paths of at most k hops are taken into account; a state that does
-- not wait has handed on what such a path gives it, and one that is not put off its distance; one that is put off is
-- better than they are.
pub record Round (kind : ArcType) (Goes : Hop → Type 0) (source : ℕ → Cost) (k : ℕ) (D : ℕ → Cost)
    (Waits : ℕ → Type 0) (later : List ℕ) : Type 0 where
  pub short : (q p : ℕ) (back : List Hop) → length back ≤ k → IsBack Goes q back p → NoWorse (D q) (value_by kind source back p)
  pub relaxed : (h : Hop) (p : ℕ) (back : List Hop) → Goes h → (Waits h.from → ⊥) → length back ≤ k → IsBack Goes h.from back p
      → NoWorse (D h.to) (times kind h.weight (value_by kind source back p))
  pub closed : (h : Hop) → Goes h → (Waits h.from → ⊥) → (Has later h.from → ⊥) → NoWorse (D h.to) (times kind h.weight (D h.from))
  pub strict : (q p : ℕ) (back : List Hop) → Has later q → length back ≤ k → IsBack Goes q back p → Better (D q) (value_by kind source back p)

-- the greatest absolute value of a number on a hop and at a state where hops begin
abbrev pub most_number : ℕ
most_number = 1180591620717411303424

-- Which states are members of the queue, which are put off and which were met, by their turns, and how far numbers go.
pub record Marked (kind : ArcType) (Goes : Hop → Type 0) (source : ℕ → Cost) (n bound mark takes : ℕ)
    (nodes : List (Node Cost)) (members later met : List ℕ) : Type 0 where
  pub size : length nodes ≡ n
  pub members_low : (q : ℕ) → Has members q → turn_at nodes q < mark
  pub members_met : (q : ℕ) → Has members q → Has met q
  pub later_marked : (q : ℕ) → Has later q → turn_at nodes q ≡ mark + 1
  pub put_off : (q : ℕ) → mark < turn_at nodes q → Has later q
  pub turned_met : (q : ℕ) → 0 < turn_at nodes q → Has met q
  pub met_low : (q : ℕ) → Has met q → q < n
  pub met_only : (q : ℕ) → Has met q → distance_at nodes q ≡ infinite → ⊥
  pub met_all : (q : ℕ) → (distance_at nodes q ≡ infinite → ⊥) → Has met q
  pub met_apart : Apart met
  pub numbers : (q : ℕ) → Within ((1 + takes) * most_number) (distance_at nodes q)
  pub kinds : (q : ℕ) → IsCost kind (distance_at nodes q)
  pub begun : (q : ℕ) → Within bound (source q)
  pub bounded : (q : ℕ) (h : Hop) → Linked Goes (link_at nodes) q h → Within bound h.weight

-- A search on its way, over states below n, where these states wait.
pub record Searching (kind : ArcType) (Goes : Hop → Type 0) (source : ℕ → Cost) (n bound k mark takes : ℕ) (Waits : ℕ → Type 0)
    (nodes : List (Node Cost)) (members later met : List ℕ) : Type 0 where
  pub tentative : Tentative kind Goes source (distance_at nodes) (link_at nodes)
  pub round : Round kind Goes source k (distance_at nodes) Waits later
  pub marked : Marked kind Goes source n bound mark takes nodes members later met

-- A state has been taken, with this distance, and the hops of its links so far have been looked at.
pub record Looking (kind : ArcType) (Goes : Hop → Type 0) (source : ℕ → Cost) (n bound k mark takes state : ℕ) (so_far : Cost) (done : List Hop)
    (nodes : List (Node Cost)) (members later met : List ℕ) : Type 0 where
  pub searching : Searching kind Goes source n bound k mark takes (λ q. Has members q ⊎ (q ≡ state)) nodes members later met
  pub looked : (h : Hop) → Has done h → Goes h → NoWorse (distance_at nodes h.to) (times kind h.weight so_far)
  pub short : (p : ℕ) (back : List Hop) → length back ≤ k → IsBack Goes state back p → NoWorse so_far (value_by kind source back p)
  pub kept : NoWorse (distance_at nodes state) so_far
  pub arrives : (so_far ≡ infinite) ⊎ Arrives kind Goes source state so_far
  pub off : Has later state ⊎ (distance_at nodes state ≡ so_far)
  pub turned : mark ≤ turn_at nodes state
  pub number : Within (takes * most_number) so_far

-- What a search leaves where it comes to an end.
pub record Ended (kind : ArcType) (Goes : Hop → Type 0) (source : ℕ → Cost) (n bound : ℕ) (nodes : List (Node Cost)) (met : List ℕ) : Type 0 where
  pub size : length nodes ≡ n
  pub least : (q : ℕ) → IsLeast (Arrives kind Goes source q) (distance_at nodes q)
  pub numbers : (q : ℕ) → Within (n * bound) (distance_at nodes q)
  pub kinds : (q : ℕ) → IsCost kind (distance_at nodes q)
  pub met_low : (q : ℕ) → Has met q → q < n
  pub met_only : (q : ℕ) → Has met q → distance_at nodes q ≡ infinite → ⊥
  pub met_apart : Apart met
  pub blank : (q : ℕ) → (Has met q → ⊥) → get_or nodes q blank_node ≡ blank_node

-- Hops that are kept lead from a state back to that state.
pub record Turned (kind : ArcType) (Goes : Hop → Type 0) (source : ℕ → Cost) (n : ℕ) (nodes : List (Node Cost)) (x : ℕ) : Type 0 where
  pub size : length nodes ≡ n
  pub tentative : Tentative kind Goes source (distance_at nodes) (link_at nodes)
  pub first : Hop
  pub rest : List Hop
  pub chain : IsChain Goes (link_at nodes) x (first ∷ rest) x
  pub few : length rest < n

-- what a search answers: that it came to an end, or a state to which kept hops lead back
abbrev pub Answers : ArcType → (Hop → Type 0) → (ℕ → Cost) → ℕ → ℕ → List (Node Cost) → List ℕ → List ℕ → Option ℕ → Type 0
Answers kind Goes source n bound nodes members met None = (members ≡ []) × Ended kind Goes source n bound nodes met
Answers kind Goes source n bound nodes members met (Some x) = Turned kind Goes source n nodes x

-- the links of a search, followed back from q by these steps, lead to x
abbrev pub IsTrail : (ℕ → Option Step) → ℕ → List Step → ℕ → Type 0
IsTrail L q [] x = q ≡ x
IsTrail L q (s ∷ trail) x = (L q ≡ Some s) × IsTrail L s.state trail x
