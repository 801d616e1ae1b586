-- Paths. (Mohri 2009, section 3.1: a path is a list of transitions in which each begins where the one before
-- it ends.)
use Rattle.std.specs.Prelude.{◌≡◌, ℕ, List, [], ◌∷◌, map, slice_get, Option, None, Some}
use Rattle.fst_semiring.specs.Cost.{Cost}
use Rattle.fst_machine.specs.Machine.{Arc}
use Rattle.fst_machine.specs.Graph.{Graph}
use Rattle.fst_machine.specs.Letters.{Letter, letter_of}

-- A transition: a state, the place of one of its arcs, and that arc.
pub record Transition (N : Type 0) : Type 0 where
  pub state : N
  pub place : ℕ
  pub arc : Arc Cost N

-- this transition leaves p
abbrev pub Leaves : {N : Type 0} → Graph N → N → Transition N → Type 0
Leaves g p t = (t.state ≡ p) × (slice_get (g.arcs p) t.place ≡ Some t.arc)

-- these transitions lead from p to q
abbrev pub IsPath : {N : Type 0} → Graph N → N → List (Transition N) → N → Type 0
IsPath g p [] q = p ≡ q
IsPath g p (t ∷ path) q = Leaves g p t × IsPath g t.arc.next path q

-- what the arcs of a path say
abbrev pub letters : {N : Type 0} → List (Transition N) → List Letter
letters path = map (λ t. letter_of t.arc) path

-- a path as it is written down: the state and the place of each of its arcs
abbrev pub places : {N : Type 0} → List (Transition N) → List (N × ℕ)
places path = map (λ t. (t.state, t.place)) path

-- what is asked of the value of an option that has to have one
abbrev pub HasSome : {X : Type 0} → Option X → (X → Type 0) → Type 0
HasSome None P = ⊥
HasSome (Some x) P = P x

-- These states and places lead from p to q: the first state is p, each place has an arc of its state, and
-- each later state is where the arc before it leads.
abbrev pub IsWalk : {N : Type 0} → Graph N → N → List (N × ℕ) → N → Type 0
IsWalk g p [] q = p ≡ q
IsWalk g p (s ∷ walk) q = (s.0 ≡ p) × HasSome (slice_get (g.arcs p) s.1) (λ a. IsWalk g a.next walk q)
