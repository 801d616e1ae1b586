use Rattle.std.proofs.Common.{◌≡◌, ◌≤◌, ◌+◌, ◌-◌, length, map}
use Rattle.fst_machine.specs.Machine.{valued_arc}
use Rattle.fst_binary.specs.Reading.{arcs_at}
use Rattle.fst_bytes.specs.Reading.{with_front}
use Rattle.fst_binary.proofs.decoding.read_more_arcs.Given as goal

abbrev pub invariant-loop : goal.invariant-loop
invariant-loop g l =
    record {
      so_far : with_front (map (valued_arc g.W.Weight.value) l.list.arcs) (arcs_at g.W.Weight.KIND l.states (l.count - l.counter) l.bytes l.behind) ≡ with_front (map (valued_arc g.W.Weight.value) l.initial.list.arcs) (arcs_at g.W.Weight.KIND l.states l.count l.bytes l.at);
      others : l.list.states ≡ l.initial.list.states;
      count : length l.list.arcs ≡ length l.initial.list.arcs + l.counter;
      behind : l.behind ≤ length l.bytes;
    }
