use Rattle.std.proofs.lemmas.Result.{err_from_is_err_and}
use Rattle.fst_binary.proofs.Decoded.{tabled_stops}
use Rattle.fst_binary.proofs.decoding.read_tabled.Goals as goal

pub returns-in_err-fst : goal.returns-in_err-fst
returns-in_err-fst g c =
    let p = err_from_is_err_and c.from_residual-in_err-fst.result c.from_residual-in_err-fst.ensures.1 in
    rw (p.1, p.2) (tabled_stops g.W.Weight.KIND c.args.header c.args.bytes.now _ _ _ _ _ _ c.in_err-fst.field-0.0 c.has_input.ensures c.has_output.ensures c.in_ok-isymbols.ensures.value c.in_ok-osymbols.ensures.value c.in_err-fst.ensures)
