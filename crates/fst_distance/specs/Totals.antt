-- The total weight put on the start of a pushed machine. (OpenFst manual, "Push": unless the total weight is removed, it
-- stays. Mohri 2009, section 3.4, multiplies it onto a start that no arc enters; an entered start is copied, so that the
-- total counts once.)
use Rattle.std.specs.Prelude.{◌≡◌, ◌≢◌, ◌⊎◌, ◌↔◌, ℕ, ◌<◌, ◌≤◌, Bool, true, false, List, [], ◌∷◌, ◌++◌, Option, None, Some, length, map, get_or}
use Rattle.std.specs.Prelude.{slice_get, All, codes}
use Rattle.std.specs.Fmt.{decimal}
use Rattle.std.specs.List.{concat}
use Rattle.fst_semiring.specs.Cost.{Cost}
use Rattle.fst_semiring.specs.declared.arc_type.ArcType.{ArcType}
use Rattle.fst_semiring.specs.Semiring.{one_of, times}
use Rattle.fst_machine.specs.Machine.{Arc, State, Machine, arc_total, changed, most_arcs, most_states}
use Rattle.fst_machine.specs.Graph.{graph_of, no_state}
use Rattle.fst_machine.specs.Cycles.{IsUseful}
use Rattle.fst_machine.specs.Narrowing.{IsFirstPast, IsInRange}
use Rattle.fst_machine.specs.Relation.{Rel}
use Rattle.fst_search.specs.Distances.{IsListed, NoneImproves}
use Rattle.fst_distance.specs.Pushing.{IsPushed}
use Rattle.fst_distance.specs.declared.fault.PushFault.{PushFault}
use Rattle.fst_distance.specs.declared.fault.PushFault.TheVariants.{ImprovingCycle, TooManyStates, TooManyArcs, Overflow, Memory}
use Rattle.fst_distance.specs.declared.placing.Place.{Place}
use Rattle.fst_distance.specs.declared.placing.Place.TheVariants.{Nowhere, OnStart, OnCopy}

-- the arc and the state with a factor on their weights
abbrev pub scaled_arc : {N : Type 0} → ArcType → Cost → Arc Cost N → Arc Cost N
scaled_arc kind factor a = record { ilabel = a.ilabel; olabel = a.olabel; weight = times kind factor a.weight; next = a.next }

abbrev pub scaled : ArcType → Cost → State Cost → State Cost
scaled kind factor s = record { final = times kind factor s.final; arcs = map (scaled_arc kind factor) s.arcs }

-- An arc leads to the state.
pub record IsEntered (m : Machine Cost) (state : ℕ) : Type 0 where
  pub from : ℕ
  pub place : ℕ
  pub arc : Arc Cost ℕ
  pub there : slice_get ((graph_of m).arcs from) place ≡ Some arc
  pub leads : arc.next ≡ state

-- where the total is put: nowhere, where there is no start or it is One; on the start, where no arc leads to it; else on
-- a copy of the start
abbrev pub IsPlace : ArcType → Cost → Machine Cost → Place → Type 0
IsPlace kind total m Nowhere = (m.start ≡ None) ⊎ (total ≡ one_of kind)
IsPlace kind total m (OnStart state) = (m.start ≡ Some state) × (total ≢ one_of kind) × (IsEntered m state → ⊥)
IsPlace kind total m (OnCopy state) = (m.start ≡ Some state) × (total ≢ one_of kind) × IsEntered m state

-- the state of the place is one of so many
abbrev pub IsAmong : ℕ → Place → Type 0
IsAmong n Nowhere = Unit {0}
IsAmong n (OnStart state) = state < n
IsAmong n (OnCopy state) = state < n

-- the total is put somewhere
abbrev pub IsPlaced : Place → Type 0
IsPlaced Nowhere = ⊥
IsPlaced (OnStart state) = Unit {0}
IsPlaced (OnCopy state) = Unit {0}

-- the machine with the total there: the copy is a new last state, and the start
abbrev pub put_on : ArcType → Cost → Machine Cost → Place → Machine Cost
put_on kind total m Nowhere = m
put_on kind total m (OnStart state) = record { start = m.start; states = changed (scaled kind total) m.states state }
put_on kind total m (OnCopy state) = record { start = Some (length m.states); states = m.states ++ scaled kind total (get_or m.states state no_state) ∷ [] }

-- The state in a place of that machine is the one that the machine has there, or this one with the total.
abbrev pub IsSource : ArcType → Cost → Machine Cost → Place → ℕ → Option ℕ → Type 0
IsSource kind total m place i None = (i < length m.states) × (get_or (put_on kind total m place).states i no_state ≡ get_or m.states i no_state)
IsSource kind total m place i (Some p) = (p < length m.states) × (get_or (put_on kind total m place).states i no_state ≡ scaled kind total (get_or m.states p no_state))

-- the place, where the total is removed or put on
abbrev pub IsPlaceFor : Bool → ArcType → Cost → Machine Cost → Place → Type 0
IsPlaceFor true kind total m place = place ≡ Nowhere
IsPlaceFor false kind total m place = IsPlace kind total m place

-- r is the pushed machine of m, with its total removed or put on.
pub record IsTotalled (kind : ArcType) (removed : Bool) (m r : Machine Cost) : Type 0 where
  pub pushed : Machine Cost
  pub total : Cost
  pub place : Place
  pub pushes : IsPushed kind m pushed total
  pub placed : IsPlaceFor removed kind total pushed place
  pub same : r ≡ put_on kind total pushed place

-- what a machine relates is what the other relates, with a factor
abbrev pub RelatesBy : ArcType → Cost → Machine Cost → Machine Cost → Type 0
RelatesBy kind factor m r = (x y : List ℕ) (w : Cost) → Rel kind (graph_of m) x y w ↔ ((v : Cost) × Rel kind (graph_of r) x y v × (w ≡ times kind factor v))

-- a machine within the limits of machines
pub record IsWithin (m : Machine Cost) : Type 0 where
  pub states : length m.states ≤ most_states
  pub arcs : arc_total m.states ≤ most_arcs
  pub range : All IsInRange m.states

-- why a machine is not within the limits, the first that holds
abbrev pub Passes : Machine Cost → PushFault → Type 0
Passes r (ImprovingCycle cycle) = ⊥
Passes r TooManyStates = most_states < length r.states
Passes r TooManyArcs = (length r.states ≤ most_states) × (most_arcs < arc_total r.states)
Passes r (Overflow state) = (length r.states ≤ most_states) × (arc_total r.states ≤ most_arcs) × IsFirstPast r state
Passes r Memory = ⊥

-- no improving cycle stands against the pushed machine, and it passes a limit
pub record IsPast (kind : ArcType) (removed : Bool) (m : Machine Cost) (fault : PushFault) : Type 0 where
  pub none : NoneImproves kind (graph_of m) (IsUseful (graph_of m))
  pub machine : Machine Cost
  pub totalled : IsTotalled kind removed m machine
  pub passes : Passes machine fault

-- what a fault says of the machine; of a lack of memory nothing is said
abbrev pub IsPushFault : ArcType → Bool → Machine Cost → PushFault → Type 0
IsPushFault kind removed m (ImprovingCycle cycle) = IsListed kind (graph_of m) (IsUseful (graph_of m)) cycle
IsPushFault kind removed m TooManyStates = IsPast kind removed m TooManyStates
IsPushFault kind removed m TooManyArcs = IsPast kind removed m TooManyArcs
IsPushFault kind removed m (Overflow state) = IsPast kind removed m (Overflow state)
IsPushFault kind removed m Memory = ⊥

-- what is said of a machine that is not pushed: why
abbrev pub push_text : PushFault → List ℕ
push_text (ImprovingCycle cycle) = codes "improving cycle"
push_text TooManyStates = codes "too many states"
push_text TooManyArcs = codes "too many arcs"
push_text (Overflow state) = concat (codes "number too large at state " ∷ decimal state ∷ [])
push_text Memory = codes "out of memory"

-- There is one answer: one machine, or faults that say the same, and never both.
pub record OneAnswer (kind : ArcType) (removed : Bool) (m : Machine Cost) : Type 0 where
  pub machine : (r q : Machine Cost) → IsTotalled kind removed m r → IsTotalled kind removed m q → r ≡ q
  pub fault : (f h : PushFault) → IsPushFault kind removed m f → IsPushFault kind removed m h → push_text f ≡ push_text h
  pub apart : (r : Machine Cost) (f : PushFault) → NoneImproves kind (graph_of m) (IsUseful (graph_of m))
      → IsTotalled kind removed m r → IsWithin r → IsPushFault kind removed m f → ⊥
