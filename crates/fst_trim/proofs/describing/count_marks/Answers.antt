use Rattle.std.proofs.Common.{◌≡◌, ◌+◌, false, cond, get_or, take, length, ◌∙◌, arith}
use Rattle.fst_machine.specs.Renumbered.{marked}
use Rattle.fst_trim.proofs.Marking.{as_number, count_fits, count_more}
use Rattle.fst_trim.proofs.describing.count_marks.Goals as goal

pub overflow_add-count : goal.overflow_add-count
overflow_add-count c =
    let i = c.loop-mark.mark-index in
    let marks = c.args.marks.now in
    let fits = count_fits marks i (omega arith) in
    let number : c.from-count.result ≡ cond (get_or marks i false) 1 0 = c.from-count.ensures ∙ as_number (get_or marks i false) in
    omega (arith, c.loop-mark.invariant, c.requires)

pub loop-mark-preserved : goal.loop-mark-preserved
loop-mark-preserved c =
    let i = c.loop-mark.mark-index in
    let marks = c.args.marks.now in
    let number : c.from-count.result ≡ cond (get_or marks i false) 1 0 = c.from-count.ensures ∙ as_number (get_or marks i false) in
    let more = count_more marks i (omega arith) in
    let sum : c.loop-mark.count + c.from-count.result ≡ length (marked 0 (take (i + 1) marks)) = omega (arith, c.loop-mark.invariant) in
    sum
