-- How long an entry is.
use Rattle.std.proofs.Common.{◌≡◌, ◌+◌, Bool, ◌++◌, length, arith}
use Rattle.std.proofs.lemmas.List.{length-append}
use Rattle.fst_semiring.specs.declared.arc_type.ArcType.{ArcType}
use Rattle.fst_semiring.specs.Cost.{Cost}
use Rattle.fst_bytes.specs.Spelling.{word}
use Rattle.fst_bytes.proofs.Lengths.{length-word}
use Rattle.fst_codex.specs.Spelling.{entry_fields, weight_part}
use Rattle.fst_codex.specs.Table.{Entry}

pub length-entry_fields : (kind : ArcType) (weights : Bool) (e : Entry Cost) → length (entry_fields kind weights e) ≡ 8 + length (weight_part kind weights e.weight)
length-entry_fields kind weights e =
    let x = length-append (word e.ilabel ++ word e.olabel) (weight_part kind weights e.weight) in
    let y = length-append (word e.ilabel) (word e.olabel) in
    omega (arith, x, y, length-word e.ilabel, length-word e.olabel)
