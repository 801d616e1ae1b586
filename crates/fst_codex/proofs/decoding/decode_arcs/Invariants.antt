use Rattle.std.proofs.Common.{◌≡◌, map, take}
use Rattle.fst_machine.specs.Machine.{valued_arc}
use Rattle.fst_trim.proofs.Places.{NoneBefore}
use Rattle.fst_codex.specs.Decoded.{PassesRange, decoded_arc}
use Rattle.fst_codex.specs.Table.{valued_table}
use Rattle.fst_codex.proofs.decoding.decode_arcs.Given as goal

-- the arcs so far stand decoded, and none of them passes the range
abbrev pub invariant-loop-arc : goal.invariant-loop-arc
invariant-loop-arc g l = record {
  put : map (valued_arc g.W.Weight.value) l.out.items ≡ map (decoded_arc g.W.Weight.KIND (valued_table g.W.Weight.value l.codex)) (map (valued_arc g.W.Weight.value) (take l.arc-index l.arcs));
  none : NoneBefore (PassesRange g.W.Weight.KIND g.W.Weight.value (valued_table g.W.Weight.value l.codex)) l.arcs l.arc-index;
}
