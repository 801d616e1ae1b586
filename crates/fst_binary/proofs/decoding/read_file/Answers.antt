use Rattle.std.proofs.Common.{sym, subst, arith}
use Rattle.std.proofs.lemmas.Result.{err_from_is_err_and}
use Rattle.fst_bytes.specs.Stopping.{Answers}
use Rattle.fst_binary.specs.Seeing.{tabled_seen}
use Rattle.fst_binary.proofs.Decoded.{header_wrong, type_alone, type_not_wrong, whole_read}
use Rattle.fst_binary.proofs.decoding.read_file.Goals as goal

pub returns-in_err-behind : goal.returns-in_err-behind
returns-in_err-behind g c = absurd (type_not_wrong c.args.bytes.now g.W.Weight.KIND c.in_err-behind.field-0.0 c.requires (sym c.in_err-behind.ensures.value))

pub returns-in_err-header : goal.returns-in_err-header
returns-in_err-header g c =
    let p = err_from_is_err_and c.from_residual-in_err-header.result c.from_residual-in_err-header.ensures.1 in
    let alone = type_alone c.args.bytes.now g.W.Weight.KIND _ c.in_ok-behind.behind (λ i. omega (arith, c.type_inv.bytes i)) c.requires (sym c.in_ok-behind.ensures.value) in
    rw (p.1, p.2) (header_wrong g.W.Weight.KIND c.args.bytes.now c.in_ok-behind.behind c.in_err-header.field-0.0 alone (sym c.in_err-header.ensures.value))

pub returns : goal.returns
returns g c =
    let alone = type_alone c.args.bytes.now g.W.Weight.KIND _ c.in_ok-behind.behind (λ i. omega (arith, c.type_inv.bytes i)) c.requires (sym c.in_ok-behind.ensures.value) in
    let read = whole_read g.W.Weight.KIND c.args.bytes.now c.in_ok-behind.behind c.in_ok-header.header alone (sym c.in_ok-header.ensures.value) in
    subst (λ r. Answers (λ t. tabled_seen g.W.Weight.value t) c.read_tabled.result r) (sym read) c.read_tabled.ensures
