use Rattle.std.proofs.Common.{◌≡◌, ◌≤◌, ◌-◌, [], length, map}
use Rattle.fst_machine.specs.Machine.{arc_total, valued_state}
use Rattle.fst_binary.specs.Reading.{states_at}
use Rattle.fst_bytes.specs.Reading.{with_front}
use Rattle.fst_binary.proofs.decoding.read_states.Given as goal

abbrev pub invariant-loop : goal.invariant-loop
invariant-loop g l =
    record {
      so_far : with_front (map (valued_state g.W.Weight.value) l.list.states) (states_at g.W.Weight.KIND l.header.states l.header.arcs l.before (l.header.states - l.counter) l.bytes l.behind) ≡ states_at g.W.Weight.KIND l.header.states l.header.arcs 0 l.header.states l.bytes l.at;
      count : arc_total l.list.states ≡ l.before;
      none : l.list.arcs ≡ [];
      few : l.before ≤ l.header.arcs;
      behind : l.behind ≤ length l.bytes;
    }
