use Rattle.std.proofs.Common.{ℕ, List, length, sym, subst, arith}
use Rattle.fst_minimize.specs.Dividing.{IsBoth, KeepsAlike}
use Rattle.fst_minimize.proofs.ByBlocks.{both_refined}
use Rattle.fst_minimize.proofs.dividing.refine_by_blocks.Goals as goal

pub returns-clause-refined : goal.returns-clause-refined
returns-clause-refined c = λ g are refined.
    let n = length c.args.rows.now in
    let first = c.args.first.now.numbers.items in
    let blocks = c.in_ok-parts.parts.blocks.items in
    let numbers = c.in_ok-numbering.numbering.numbers.items in
    let both = subst (λ (b : List ℕ). IsBoth first b numbers) c.deref-3.ensures.value (subst (λ (f : List ℕ). IsBoth f c.deref-3.result.now numbers) c.deref-2.ensures.value c.in_ok-numbering.ensures.both) in
    both_refined g n first blocks numbers c.requires.size both (c.in_ok-parts.ensures.alike g are (subst (KeepsAlike g n) (sym c.deref.ensures.value) refined.coarse)) refined

pub returns-clause-finer : goal.returns-clause-finer
returns-clause-finer c = λ p q low less e.
    let first = c.args.first.now.numbers.items in
    let numbers = c.in_ok-numbering.numbering.numbers.items in
    let both = subst (λ (f : List ℕ). IsBoth f c.deref-3.result.now numbers) c.deref-2.ensures.value c.in_ok-numbering.ensures.both in
    let size = c.requires.size in
    (both.same p q (omega arith) (omega arith) e).0
