use Rattle.std.proofs.Common.{◌≡◌, ◌+◌, ◌++◌, drop, map, take}
use Rattle.std.specs.List.{range_with_len}
use Rattle.fst_machine.specs.Machine.{arc_total, valued, valued_state}
use Rattle.fst_rational.specs.Backing.{turned_bare}
use Rattle.fst_rational.specs.Constructions.{reverse_of}
use Rattle.fst_rational.proofs.reversal.put_bare.Given as goal

abbrev pub invariant-loop-state : goal.invariant-loop-state
invariant-loop-state g l =
    let value = g.W.Weight.value in
    let kind = g.W.Weight.KIND in
    let a = valued value l.a in
    record {
      states : map (valued_state value) l.states.states ≡ map (valued_state value) l.initial.states.states ++ map (turned_bare kind a) (range_with_len 0 l.state);
      rooms : l.states.rooms ≡ take (1 + l.state) l.counts;
      left : l.states.left ≡ arc_total (drop (1 + l.state) (reverse_of kind a).states);
    }
