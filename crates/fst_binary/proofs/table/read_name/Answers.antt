use Rattle.std.proofs.Common.{◌<◌, length, sym, ◌∙◌, arith}
use Rattle.fst_bytes.proofs.Names.{part_takes}
use Rattle.fst_binary.specs.declared.fault.BinaryKind.TheVariants.{Short}
use Rattle.fst_binary.proofs.Tables.{are_name_bytes}
use Rattle.fst_binary.proofs.table.read_name.Goals as goal

pub returns-then-are_name_bytes-clause-name : goal.returns-then-are_name_bytes-clause-name
returns-then-are_name_bytes-clause-name c =
    let part = part_takes Short c.in_ok-count.count c.args.bytes.now c.in_ok-count.behind c.in_ok-name.name.now c.in_ok-name.behind (sym c.in_ok-name.ensures.value) in
    let filled : 0 < length c.in_ok-name.name.now = omega (arith, part.1, c.if-count-eq0.false) in
    record { filled = filled; bytes = are_name_bytes c.in_ok-name.name.now (sym c.are_name_bytes.ensures ∙ c.if-are_name_bytes.true) }
