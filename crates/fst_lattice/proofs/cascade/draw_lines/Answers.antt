use Rattle.std.proofs.Common.{◌≡◌, ◌+◌, ◌++◌, ◌∷◌, [], ◌<◌, List, ℕ, ap, ap₂, ◌∙◌, arith}
use Rattle.fst_lattice.specs.Cascade.{drawn_letters, drawn_lines}
use Rattle.fst_lattice.specs.Draws.{drawn, next_state, skip}
use Rattle.fst_lattice.proofs.Drawn.{lines_done, lines_more}
use Rattle.fst_lattice.proofs.cascade.draw_lines.Goals as goal

pub loop-line-preserved : goal.loop-line-preserved
loop-line-preserved c =
    let low : c.loop-line._line < c.args.count = omega arith in
    let x : ℕ = c.loop-line.x in
    let put = c.in_ok-draw_letters.ensures in
    let draw = c.draw-length.ensures in
    let line : c.as_slice.result.now ≡ drawn_letters (next_state x) (1 + drawn x 0 12) = c.as_slice.ensures.value ∙ (put.letters ∙ ap₂ (λ (y z : ℕ). drawn_letters y (1 + z)) draw.state draw.value) in
    lines_more c.args.count c.loop-line._line c.loop-line.x c.draw_letters.new.x c.loop-line.lines c.push.new.self (drawn_lines c.args.x.now c.args.count) low
    (c.in_ok-push.ensures.ok ∙ ap (λ (xs : List ℕ). c.loop-line.lines ++ xs ∷ []) line) (put.state ∙ ap₂ (λ (y z : ℕ). skip 1 y (1 + z)) draw.state draw.value) c.loop-line.invariant

pub returns : goal.returns
returns c = lines_done c.args.count c.loop-line._line c.loop-line.x c.loop-line.lines (drawn_lines c.args.x.now c.args.count) (omega arith) c.loop-line.invariant
