use Rattle.std.proofs.Common.{◌≡◌, ◌+◌, drop, length, map}
use Rattle.fst_machine.specs.Machine.{valued_state}
use Rattle.fst_rational.specs.Backing.{put_all}
use Rattle.fst_rational.proofs.reversal.put_all_back.Given as goal

abbrev pub invariant-loop-state : goal.invariant-loop-state
invariant-loop-state g l =
    let states = map (valued_state g.W.Weight.value) l.a.states in
    record {
      states : put_all (l.state + 1) (drop l.state states) (map (valued_state g.W.Weight.value) l.states.states) ≡ put_all 1 states (map (valued_state g.W.Weight.value) l.initial.states.states);
      size : length l.states.states ≡ length l.a.states + 1;
      rooms : l.states.rooms ≡ l.initial.states.rooms;
      left : l.states.left ≡ l.initial.states.left;
    }
