use Rattle.std.proofs.Common.{◌≡◌, ℕ, List, [], ◌∷◌, ◌++◌, length, ap, ◌∙◌, subst, arith}
use Rattle.fst_minimize.specs.Numbered.{number_in}
use Rattle.fst_minimize.specs.Numberers.{HasSeen}
use Rattle.fst_minimize.proofs.ByBlocks.{HasBoth, both_more, both_none, both_tells}
use Rattle.fst_minimize.proofs.dividing.number_blocks.Goals as goal

pub loop-state-init : goal.loop-state-init
loop-state-init c = ([], both_none c.args.first.now c.args.blocks.now, c.in_ok-numberer.ensures)

pub loop-state-preserved : goal.loop-state-preserved
loop-state-preserved c =
    let inv = c.loop-state.invariant in
    let first = c.args.first.now in
    let blocks = c.args.blocks.now in
    let i = c.loop-state.state in
    let row : c.deref.result.now ≡ number_in blocks i ∷ [] = c.deref.ensures.value ∙ (c.in_ok-push.ensures.items ∙ ap (λ (xs : List ℕ). xs ++ number_in blocks i ∷ []) c.clear.ensures.items) in
    (inv.0 ++ (number_in first i, number_in blocks i ∷ []) ∷ [], both_more first blocks i inv.0 inv.1, subst (λ (r : List ℕ). HasSeen (inv.0 ++ (number_in first i, r) ∷ []) c.add.new.self) row (c.in_ok-add.ensures.seen inv.0 inv.2))

pub returns-clause-numbering : goal.returns-clause-numbering
returns-clause-numbering c = c.finish.ensures.numbering c.loop-state.invariant.0 c.loop-state.invariant.2

pub returns-clause-both : goal.returns-clause-both
returns-clause-both c =
    let inv = c.loop-state.invariant in
    let all : c.loop-state.state ≡ length c.args.first.now = omega arith in
    both_tells c.args.first.now c.args.blocks.now c.finish.result.numbers.items inv.0 (subst (λ (k : ℕ). HasBoth c.args.first.now c.args.blocks.now k inv.0) all inv.1) (c.finish.ensures.tells inv.0 inv.2)
