-- What decoding gives of the arcs of a state, and of the states of a machine.
use Rattle.std.specs.Prelude.{◌≡◌, ℕ, List, map, None, Some, Result, Ok, Err}
use Rattle.fst_semiring.specs.Cost.{Cost}
use Rattle.fst_semiring.specs.declared.arc_type.ArcType.{ArcType}
use Rattle.fst_machine.specs.Machine.{Arc, State, Machine, valued_arc, valued_state}
use Rattle.fst_trim.specs.FirstArcs.{IsFirstArc, IsFirstPlace}
use Rattle.fst_codex.specs.declared.decoding.DecodeFault.{DecodeFault}
use Rattle.fst_codex.specs.declared.decoding.DecodeFault.TheVariants.{NotAcceptor, NotInCodex, Overflow, Memory}
use Rattle.fst_codex.specs.Table.{Table}
use Rattle.fst_codex.specs.Decoded.{PassesRange, decoded_arc, decoded_state}

-- the arcs of this state stand decoded, or the first that passes the range is why not
abbrev pub DecodesArcs : {V X : Type 0} → ArcType → (V → Cost) → Table Cost → ℕ → List (Arc V ℕ) → List (Arc V ℕ) → Result X DecodeFault → Type 0
DecodesArcs kind value t state arcs out (Ok x) =
    (map (valued_arc value) out ≡ map (decoded_arc kind t) (map (valued_arc value) arcs)) × IsFirstPlace (PassesRange kind value t) arcs None
DecodesArcs kind value t state arcs out (Err (Overflow at)) = (at ≡ state) × (place : ℕ) × IsFirstPlace (PassesRange kind value t) arcs (Some place)
DecodesArcs kind value t state arcs out (Err (NotAcceptor at place)) = ⊥
DecodesArcs kind value t state arcs out (Err (NotInCodex label)) = ⊥
DecodesArcs kind value t state arcs out (Err Memory) = Unit {0}

-- the states of a machine stand decoded, or the first arc that passes the range is why not
abbrev pub DecodesStates : {V : Type 0} → ArcType → (V → Cost) → Table Cost → Machine V → Result (List (State V)) DecodeFault → Type 0
DecodesStates kind value t m (Ok out) =
    (map (valued_state value) out ≡ map (decoded_state kind t) (map (valued_state value) m.states)) × IsFirstArc (PassesRange kind value t) m None
DecodesStates kind value t m (Err (Overflow at)) = (place : ℕ) × IsFirstArc (PassesRange kind value t) m (Some (record { state = at; place = place }))
DecodesStates kind value t m (Err (NotAcceptor at place)) = ⊥
DecodesStates kind value t m (Err (NotInCodex label)) = ⊥
DecodesStates kind value t m (Err Memory) = Unit {0}
