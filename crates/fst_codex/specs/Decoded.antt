-- Machines whose labels are numbers of entries, turned back. (OpenFst manual, "Encode": decoding. That a number
-- without an entry is refused, and the range of weights, are this project's own.)
use Rattle.std.specs.Prelude.{◌≡◌, ℕ, ◌<◌, zero, suc, Bool, true, false, List, length, map, slice_get, Option, None, Some, Result, Ok, Err}
use Rattle.fst_semiring.specs.Cost.{Cost}
use Rattle.fst_semiring.specs.declared.arc_type.ArcType.{ArcType}
use Rattle.fst_semiring.specs.Semiring.{InRange, times}
use Rattle.fst_machine.specs.Machine.{Arc, State, Machine, valued, valued_arc}
use Rattle.fst_machine.specs.declared.path.Step.{Step}
use Rattle.fst_trim.specs.FirstArcs.{HasTwoLabels, IsFirstArc, Meets}
use Rattle.fst_codex.specs.declared.decoding.DecodeFault.{DecodeFault}
use Rattle.fst_codex.specs.declared.decoding.DecodeFault.TheVariants.{NotAcceptor, NotInCodex, Overflow, Memory}
use Rattle.fst_codex.specs.Table.{Entry, Table}

-- the entry of a number, counted from 1; epsilon has none
abbrev pub entry_at : List (Entry Cost) → ℕ → Option (Entry Cost)
entry_at entries zero = None
entry_at entries (suc place) = slice_get entries place

-- the weight of an arc with that of its entry, where numbers stand for weights too
abbrev pub joined_weight : ArcType → Bool → Cost → Cost → Cost
joined_weight kind true own w = times kind own w
joined_weight kind false own w = own

-- the arc with the labels of an entry; it stays where there is none
abbrev pub with_entry : ArcType → Bool → Arc Cost ℕ → Option (Entry Cost) → Arc Cost ℕ
with_entry kind weights a None = a
with_entry kind weights a (Some e) = record { ilabel = e.ilabel; olabel = e.olabel; weight = joined_weight kind weights a.weight e.weight; next = a.next }

-- what an arc, a state and a machine stand for
abbrev pub decoded_arc : ArcType → Table Cost → Arc Cost ℕ → Arc Cost ℕ
decoded_arc kind t a = with_entry kind t.weights a (entry_at t.entries a.ilabel)

abbrev pub decoded_state : ArcType → Table Cost → State Cost → State Cost
decoded_state kind t s = record { final = s.final; arcs = map (decoded_arc kind t) s.arcs }

abbrev pub decoded : ArcType → Table Cost → Machine Cost → Machine Cost
decoded kind t m = record { start = m.start; states = map (decoded_state kind t) m.states }

-- the arc in this place has a label past so many numbers
pub record IsOutside {V : Type 0} (numbers : ℕ) (arcs : List (Arc V ℕ)) (place : ℕ) : Type 0 where
  pub arc : Arc V ℕ
  pub there : slice_get arcs place ≡ Some arc
  pub past : numbers < arc.ilabel

-- the arc in this place has this label
pub record HasLabel {V : Type 0} (label : ℕ) (arcs : List (Arc V ℕ)) (place : ℕ) : Type 0 where
  pub arc : Arc V ℕ
  pub there : slice_get arcs place ≡ Some arc
  pub is : arc.ilabel ≡ label

-- what the arc in this place stands for has a weight with a number that passes 10 to the 18
pub record PassesRange {V : Type 0} (kind : ArcType) (value : V → Cost) (t : Table Cost) (arcs : List (Arc V ℕ)) (place : ℕ) : Type 0 where
  pub arc : Arc V ℕ
  pub there : slice_get arcs place ≡ Some arc
  pub past : InRange (decoded_arc kind t (valued_arc value arc)).weight → ⊥

-- What decoding a machine by a codex gives. It is refused for the first arc with two labels; else, for the first
-- label without an entry; else, for the first arc whose weight passes the range; and otherwise only where memory
-- runs out.
abbrev pub Decodes : {V : Type 0} → ArcType → (V → Cost) → Machine V → Table Cost → Result (Machine Cost) DecodeFault → Type 0
Decodes kind value m t (Err (NotAcceptor state place)) = IsFirstArc HasTwoLabels m (Some (record { state = state; place = place }))
Decodes kind value m t (Err (NotInCodex label)) =
    IsFirstArc HasTwoLabels m None × (step : Step) × IsFirstArc (IsOutside (length t.entries)) m (Some step)
    × Meets (HasLabel label) m step.state step.place
Decodes kind value m t (Err (Overflow state)) =
    IsFirstArc HasTwoLabels m None × IsFirstArc (IsOutside (length t.entries)) m None × (place : ℕ)
    × IsFirstArc (PassesRange kind value t) m (Some (record { state = state; place = place }))
Decodes kind value m t (Err Memory) = Unit {0}
Decodes kind value m t (Ok d) =
    IsFirstArc HasTwoLabels m None × IsFirstArc (IsOutside (length t.entries)) m None × IsFirstArc (PassesRange kind value t) m None
    × (d ≡ decoded kind t (valued value m))

-- decoding has given this machine, unless memory ran out
abbrev pub GivesBack : Machine Cost → Result (Machine Cost) DecodeFault → Type 0
GivesBack m (Ok d) = d ≡ m
GivesBack m (Err (NotAcceptor state place)) = ⊥
GivesBack m (Err (NotInCodex label)) = ⊥
GivesBack m (Err (Overflow state)) = ⊥
GivesBack m (Err Memory) = Unit {0}
