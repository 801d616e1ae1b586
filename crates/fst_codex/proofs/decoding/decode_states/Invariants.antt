use Rattle.std.proofs.Common.{◌≡◌, map, take}
use Rattle.fst_machine.specs.Machine.{valued_state}
use Rattle.fst_trim.proofs.Places.{NoneAbove}
use Rattle.fst_codex.specs.Decoded.{PassesRange, decoded_state}
use Rattle.fst_codex.specs.Table.{valued_table}
use Rattle.fst_codex.proofs.decoding.decode_states.Given as goal

-- the states so far stand decoded, and no arc of them passes the range
abbrev pub invariant-loop-state : goal.invariant-loop-state
invariant-loop-state g l = record {
  put : map (valued_state g.W.Weight.value) l.states ≡ map (decoded_state g.W.Weight.KIND (valued_table g.W.Weight.value l.codex)) (map (valued_state g.W.Weight.value) (take l.state l.fst.states));
  none : NoneAbove (PassesRange g.W.Weight.KIND g.W.Weight.value (valued_table g.W.Weight.value l.codex)) l.fst l.state;
}
