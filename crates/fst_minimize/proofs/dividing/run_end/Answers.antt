use Rattle.std.proofs.Common.{sym, ap, ◌∙◌, arith}
use Rattle.std.proofs.lemmas.Option.{slice_get_within, get_or_from_slice_get}
use Rattle.fst_minimize.specs.declared.backs.Keyed.{Keyed}
use Rattle.fst_minimize.proofs.ByBlocks.{run_ends}
use Rattle.fst_minimize.proofs.dividing.run_end.Goals as goal

pub returns-else-items-end : goal.returns-else-items-end
returns-else-items-end c =
    let inv = c.loop-end.invariant in
    run_ends c.args.items.now c.args.first c.loop-end.end c.requires.sorted inv.some inv.within inv.one (λ a b here there e. c.if-items-end.false (ap (λ (x : Keyed). x.key) (get_or_from_slice_get c.args.items.now c.loop-end.end b (record { key = 0; state = 0 }) there)
    ∙ (e ∙ sym (ap (λ (x : Keyed). x.key) (get_or_from_slice_get c.args.items.now c.args.first a (record { key = 0; state = 0 }) here)))))

pub returns-after-loop-end : goal.returns-after-loop-end
returns-after-loop-end c =
    let inv = c.loop-end.invariant in
    run_ends c.args.items.now c.args.first c.loop-end.end c.requires.sorted inv.some inv.within inv.one (λ a b here there. let low = slice_get_within c.args.items.now c.loop-end.end b there in let off = c.loop-end-test.false in absurd (omega arith))
