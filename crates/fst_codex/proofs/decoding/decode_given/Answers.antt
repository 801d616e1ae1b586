use Rattle.std.proofs.Common.{◌≡◌, ◌∙◌, None, ap}
use Rattle.fst_machine.specs.Machine.{valued}
use Rattle.fst_codex.specs.Decoded.{decoded}
use Rattle.fst_codex.specs.Table.{valued_table}
use Rattle.fst_codex.proofs.TurnedBack.{outside_entries, states_fault}
use Rattle.fst_codex.proofs.decoding.decode_given.Goals as goal

pub returns-in-Ok : goal.returns-in-Ok
returns-in-Ok g c =
    let value = g.W.Weight.value in
    let made : valued value c.into_machine.result ≡ decoded g.W.Weight.KIND (valued_table value c.args.codex.now) (valued value c.args.machine) =
    ap (valued value) c.into_machine.ensures ∙ (λ i. record { start = c.decode_in_place.ensures.start i; states = c.in-Ok.ensures.decoded.0 i }) in
    (c.requires.two, outside_entries value c.args.codex.now.entries c.args.machine None c.requires.inside, c.in-Ok.ensures.decoded.1, made)

pub returns-in-Err : goal.returns-in-Err
returns-in-Err g c =
    let value = g.W.Weight.value in
    states_fault g.W.Weight.KIND value (valued_table value c.args.codex.now) c.args.machine c.in-Err.fault c.requires.two (outside_entries value c.args.codex.now.entries c.args.machine None c.requires.inside) c.in-Err.ensures.decoded
