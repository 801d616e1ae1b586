use Rattle.std.proofs.Common.{take, All}
use Rattle.fst_bytes.specs.Spelling.{HasField}
use Rattle.fst_binary.proofs.encoding.arcs_have_fields.Given as goal

abbrev pub invariant-loop-arc : goal.invariant-loop-arc
invariant-loop-arc g l =
    record {
      fits : All (λ a. HasField g.W.Weight.KIND (g.W.Weight.value a.weight)) (take l.arc-index l.arcs);
    }
