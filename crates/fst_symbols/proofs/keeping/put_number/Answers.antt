use Rattle.std.proofs.Common.{◌∙◌, true, false}
use Rattle.fst_symbols.proofs.Entries.{insert_key-new, insert_key-known, not_is}
use Rattle.fst_symbols.proofs.keeping.put_number.Goals as goal

pub returns-in-Ok-true : goal.returns-in-Ok-true
returns-in-Ok-true c =
    let free = not_is _ true (rw c.in-Ok-true.field-0-test at c.in-Ok-true.ensures.added) in
    (free, c.in-Ok-true.ensures.keys ∙ insert_key-new _ _ free)

pub returns-in-Ok-false : goal.returns-in-Ok-false
returns-in-Ok-false c =
    let known = not_is _ false (rw c.in-Ok-false.field-0-test at c.in-Ok-false.ensures.added) in
    (known, c.in-Ok-false.ensures.keys ∙ insert_key-known _ _ known)
