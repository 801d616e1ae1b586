use Rattle.std.proofs.Common.{◌≡◌, ◌∙◌, None, map, sym, ap, subst}
use Rattle.fst_machine.specs.Machine.{IsMachine, valued, valued_state}
use Rattle.fst_machine.proofs.Valued.{IsMachine-valued, IsMachine-unvalued}
use Rattle.fst_codex.specs.Decoded.{decoded}
use Rattle.fst_codex.specs.Table.{valued_table}
use Rattle.fst_codex.proofs.TurnedBack.{IsMachine-decoded, IsTable-valued, outside_entries, states_fault}
use Rattle.fst_codex.proofs.decoding.decode_labels.Goals as goal

pub into_machine-requires : goal.into_machine-requires
into_machine-requires g c =
    let value = g.W.Weight.value in
    let kind = g.W.Weight.KIND in
    let m = valued value c.args.fst.now in
    let t = valued_table value c.args.codex.now in
    let good = IsMachine-decoded kind t (IsTable-valued kind value c.args.codex.now c.label_fault.ensures.table) m (IsMachine-valued value c.args.fst.now c.in-Ok.ensures.operand) in
    let same : decoded kind t m ≡ record { start = c.start.result; states = map (valued_state value) c.in-Ok.states } = λ i. record { start = sym c.start.ensures.value i; states = sym c.in-Ok.ensures.decoded.0 i } in
    IsMachine-unvalued value (record { start = c.start.result; states = c.in-Ok.states }) (subst (IsMachine (λ v. v)) same good)

pub returns-in-Ok : goal.returns-in-Ok
returns-in-Ok g c =
    let value = g.W.Weight.value in
    let made : valued value c.into_machine.result ≡ decoded g.W.Weight.KIND (valued_table value c.args.codex.now) (valued value c.args.fst.now) =
    ap (valued value) c.into_machine.ensures ∙ (λ i. record { start = c.start.ensures.value i; states = c.in-Ok.ensures.decoded.0 i }) in
    (c.in_default.ensures.fault.0, outside_entries value c.args.codex.now.entries c.args.fst.now None c.in_default.ensures.fault.1, c.in-Ok.ensures.decoded.1, made)

pub returns-in-Err : goal.returns-in-Err
returns-in-Err g c =
    let value = g.W.Weight.value in
    states_fault g.W.Weight.KIND value (valued_table value c.args.codex.now) c.args.fst.now c.in-Err.fault c.in_default.ensures.fault.0 (outside_entries value c.args.codex.now.entries c.args.fst.now None c.in_default.ensures.fault.1) c.in-Err.ensures.decoded
