use Rattle.std.proofs.Common.{sym, subst, arith}
use Rattle.fst_bytes.specs.Stopping.{Answers}
use Rattle.fst_codex.specs.Table.{valued_table}
use Rattle.fst_codex.proofs.Whole.{type_not_wrong, whole_read}
use Rattle.fst_codex.proofs.reading.read_file.Goals as goal

pub returns-in_err-behind : goal.returns-in_err-behind
returns-in_err-behind g c = absurd (type_not_wrong c.args.bytes.now g.W.Weight.KIND c.in_err-behind.field-0.0 c.requires (sym c.in_err-behind.ensures.value))

pub returns : goal.returns
returns g c =
    let read = whole_read c.args.bytes.now g.W.Weight.KIND _ c.in_ok-behind.behind (λ i. omega (arith, c.type_inv.bytes i)) c.requires (sym c.in_ok-behind.ensures.value) in
    subst (λ r. Answers (λ t. valued_table g.W.Weight.value t) c.read_table.result r) (sym read) c.read_table.ensures
