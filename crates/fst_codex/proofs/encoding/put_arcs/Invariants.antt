use Rattle.std.proofs.Common.{◌≤◌, ◌+◌, length, map, take}
use Rattle.fst_machine.specs.Machine.{valued_arc}
use Rattle.fst_codex.specs.Coding.{PutsArcs}
use Rattle.fst_codex.specs.Table.{valued_table}
use Rattle.fst_codex.proofs.encoding.put_arcs.Given as goal

-- the arcs so far stand there, and each has at most one entry of its own
abbrev pub invariant-loop-arc : goal.invariant-loop-arc
invariant-loop-arc g l = record {
  put : PutsArcs g.W.Weight.KIND l.initial.coder.weights (map (valued_arc g.W.Weight.value) (take l.arc-index l.arcs)) (valued_table g.W.Weight.value l.initial.coder) (valued_table g.W.Weight.value l.coder) (map (valued_arc g.W.Weight.value) l.out.items);
  few : length l.coder.entries ≤ length l.initial.coder.entries + l.arc-index;
}
