-- What one value does to a search.
use Rattle.std.specs.Prelude.{◌≡◌, ◌⊎◌, ℕ, ◌+◌, ◌<◌, List, [], ◌∷◌, ◌++◌, Some, cond, nat_lt, set, sum_by}
use Rattle.fst_semiring.specs.Cost.{Cost, infinite}
use Rattle.fst_machine.specs.BreadthFirst.{Has}
use Rattle.fst_machine.specs.declared.path.Step.{Step}
use Rattle.fst_search.specs.Hops.{NoWorse, Better}
use Rattle.fst_search.specs.Searching.{Node, distance_at, turn_at}

-- How a state that became better goes on: it is put where its turn is to come, put off where it was taken in this round,
-- and stays where it was put off already. Its turn is then the second one.
pub record Placed (mark state turn after : ℕ) (members now later more : List ℕ) : Type 0 where
  pub turn_stays : (turn ≡ mark → ⊥) → after ≡ turn
  pub turn_put_off : turn ≡ mark → after ≡ mark + 1
  pub members_kept : (q : ℕ) → Has members q → Has now q
  pub members_only : (q : ℕ) → Has now q → Has members q ⊎ ((q ≡ state) × (turn < mark))
  pub later_kept : (q : ℕ) → Has later q → Has more q
  pub later_only : (q : ℕ) → Has more q → Has later q ⊎ ((q ≡ state) × (turn ≡ mark))
  pub there : ((turn < mark) × Has now state) ⊎ (((turn ≡ mark) × Has more state) ⊎ (mark < turn))

-- a state that nothing came to before is met
abbrev pub Met : ℕ → Cost → List ℕ → List ℕ → Type 0
Met state before met now = ((before ≡ infinite) × (now ≡ met ++ state ∷ [])) ⊎ ((before ≡ infinite → ⊥) × (now ≡ met))

-- The value is better: the state has it now, with the step from which it came.
pub record Betters (mark state : ℕ) (value : Cost) (step : Step) (nodes after : List (Node Cost)) (members now later more met seen : List ℕ) : Type 0 where
  pub better : Better value (distance_at nodes state)
  pub turn : ℕ
  pub node : after ≡ set nodes state (record { distance = value; link = Some step; turn = turn })
  pub placed : Placed mark state (turn_at nodes state) turn members now later more
  pub meets : Met state (distance_at nodes state) met seen

-- The value is not better: all stays.
pub record Stays (state : ℕ) (value : Cost) (nodes after : List (Node Cost)) (members now later more met seen : List ℕ) : Type 0 where
  pub no_worse : NoWorse (distance_at nodes state) value
  pub nodes_same : after ≡ nodes
  pub members_same : now ≡ members
  pub later_same : more ≡ later
  pub met_same : seen ≡ met

abbrev pub Tried : ℕ → ℕ → Cost → Step → List (Node Cost) → List (Node Cost) → List ℕ → List ℕ → List ℕ → List ℕ → List ℕ → List ℕ → Type 0
Tried mark state value step nodes after members now later more met seen =
    Stays state value nodes after members now later more met seen ⊎ Betters mark state value step nodes after members now later more met seen

-- how many states have not had their turn in the round with this mark
abbrev pub waits_turn : ℕ → Node Cost → ℕ
waits_turn mark node = cond (nat_lt node.turn mark) 1 0

abbrev pub left : ℕ → List (Node Cost) → ℕ
left mark nodes = sum_by (waits_turn mark) nodes

-- all members are below n
abbrev pub AreBelow : ℕ → List ℕ → Type 0
AreBelow n members = (q : ℕ) → Has members q → q < n

-- how many takes a search makes at most: a state in each round, of which there is one more than there are states
abbrev pub most_takes : ℕ
most_takes = 17592190238720
