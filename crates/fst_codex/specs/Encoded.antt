-- Machines whose labels, and with them the weights, are numbers of entries. (OpenFst manual, "Encode". That the
-- numbers follow the first appearances, by state and place, is this project's own choice.)
use Rattle.std.specs.Prelude.{◌≡◌, ℕ, ◌+◌, Bool, true, false, List, [], map, slice_get, Some}
use Rattle.std.specs.List.{AllZip, flat_map}
use Rattle.fst_semiring.specs.Cost.{Cost}
use Rattle.fst_semiring.specs.declared.arc_type.ArcType.{ArcType}
use Rattle.fst_semiring.specs.Semiring.{one_of}
use Rattle.fst_machine.specs.Machine.{Arc, State, Machine}
use Rattle.fst_machine.specs.BreadthFirst.{Grows}
use Rattle.fst_codex.specs.Table.{Entry, Table}

-- the weight that goes into an entry, and the weight that stays on the arc
abbrev pub taken_weight : ArcType → Bool → Cost → Cost
taken_weight kind true w = w
taken_weight kind false w = one_of kind

abbrev pub left_weight : ArcType → Bool → Cost → Cost
left_weight kind true w = one_of kind
left_weight kind false w = w

-- the entry of an arc
abbrev pub entry_of : ArcType → Bool → Arc Cost ℕ → Entry Cost
entry_of kind weights a = record { ilabel = a.ilabel; olabel = a.olabel; weight = taken_weight kind weights a.weight }

-- the entries of the arcs, by state and place
abbrev pub state_entries : ArcType → Bool → State Cost → List (Entry Cost)
state_entries kind weights s = map (entry_of kind weights) s.arcs

abbrev pub arc_entries : ArcType → Bool → List (State Cost) → List (Entry Cost)
arc_entries kind weights states = flat_map (state_entries kind weights) states

-- The arc c stands for a: on both sides it has the number of the entry of a among these, counted from 1.
pub record IsEncodedArc (kind : ArcType) (weights : Bool) (entries : List (Entry Cost)) (a c : Arc Cost ℕ) : Type 0 where
  pub place : ℕ
  pub there : slice_get entries place ≡ Some (entry_of kind weights a)
  pub ilabel : c.ilabel ≡ place + 1
  pub olabel : c.olabel ≡ place + 1
  pub weight : c.weight ≡ left_weight kind weights a.weight
  pub next : c.next ≡ a.next

-- the state t stands for s: it has the same final weight, and for each arc of s one that stands for it
pub record IsEncodedState (kind : ArcType) (weights : Bool) (entries : List (Entry Cost)) (s t : State Cost) : Type 0 where
  pub final : t.final ≡ s.final
  pub arcs : AllZip (IsEncodedArc kind weights entries) s.arcs t.arcs

-- The machine c and the codex stand for the machine m: the entries are the different ones of the arcs of m, in the
-- order in which they first appear, and each state of c stands for the one of m in its place.
pub record IsEncoded (kind : ArcType) (weights : Bool) (m c : Machine Cost) (t : Table Cost) : Type 0 where
  pub flag : t.weights ≡ weights
  pub entries : Grows [] (arc_entries kind weights m.states) t.entries
  pub start : c.start ≡ m.start
  pub states : AllZip (IsEncodedState kind weights t.entries) m.states c.states
