use Rattle.std.proofs.Common.{◌≡◌, length, map, take, drop}
use Rattle.fst_machine.specs.Machine.{valued_state}
use Rattle.fst_trim.proofs.Places.{NoneAbove}
use Rattle.fst_codex.specs.Decoded.{PassesRange, decoded_state}
use Rattle.fst_codex.specs.Table.{valued_table}
use Rattle.fst_codex.proofs.decoding.decode_in_place.Given as goal

-- the states so far stand decoded, no arc of them passes the range, and the others are as they were
abbrev pub invariant-loop-state : goal.invariant-loop-state
invariant-loop-state g l = record {
  put : map (valued_state g.W.Weight.value) (take l.state l.machine.states) ≡ map (decoded_state g.W.Weight.KIND (valued_table g.W.Weight.value l.codex)) (map (valued_state g.W.Weight.value) (take l.state l.initial.machine.states));
  none : NoneAbove (PassesRange g.W.Weight.KIND g.W.Weight.value (valued_table g.W.Weight.value l.codex)) l.initial.machine l.state;
  rest : drop l.state l.machine.states ≡ drop l.state l.initial.machine.states;
  size : length l.machine.states ≡ length l.initial.machine.states;
  start : l.machine.start ≡ l.initial.machine.start;
}
