use Rattle.std.proofs.Common.{map, arith}
use Rattle.fst_machine.specs.Machine.{State, valued_arc}
use Rattle.fst_semiring.specs.Cost.{Cost}
use Rattle.fst_bytes.specs.Spelling.{weight_field}
use Rattle.fst_binary.proofs.Lengths.{length-state_fields}
use Rattle.fst_bytes.proofs.Lengths.{longer}
use Rattle.fst_binary.proofs.encoding.append_state.Goals as goal

pub append_long-requires : goal.append_long-requires
append_long-requires g c =
    let state : State Cost = record { final = g.W.Weight.value c.args.last; arcs = map (valued_arc g.W.Weight.value) c.args.arcs.now } in
    let first = longer _ _ (weight_field g.W.Weight.KIND (g.W.Weight.value c.args.last)) c.append_weight.ensures.items in
    omega (arith, c.requires, first, c.append_weight.ensures.room, length-state_fields g.W.Weight.KIND state)
