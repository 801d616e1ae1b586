use Rattle.std.proofs.Common.{◌≡◌, drop, length, map}
use Rattle.fst_machine.specs.Machine.{valued_arc, valued_state}
use Rattle.fst_rational.specs.Backing.{put_back}
use Rattle.fst_rational.proofs.reversal.put_arcs_back.Given as goal

-- the arcs that are left, put back, make what all of them make
abbrev pub invariant-loop-arc : goal.invariant-loop-arc
invariant-loop-arc g l =
    let arcs = map (valued_arc g.W.Weight.value) l.arcs in
    record {
      states : put_back l.place (drop l.arc-index arcs) (map (valued_state g.W.Weight.value) l.states.states) ≡ put_back l.place arcs (map (valued_state g.W.Weight.value) l.initial.states.states);
      size : length l.states.states ≡ length l.initial.states.states;
      rooms : l.states.rooms ≡ l.initial.states.rooms;
      left : l.states.left ≡ l.initial.states.left;
    }
