use Rattle.std.proofs.Common.{◌+◌, ◌++◌, ◌∷◌, [], ◌<◌, ℕ, ap, ◌∙◌, arith}
use Rattle.fst_lattice.specs.Cascade.{drawn_letters}
use Rattle.fst_lattice.specs.Draws.{skip}
use Rattle.fst_lattice.proofs.Drawn.{letters_done, letters_more, skip_done, skip_more}
use Rattle.fst_lattice.proofs.cascade.draw_letters.Goals as goal

pub loop-letter-preserved : goal.loop-letter-preserved
loop-letter-preserved c =
    let inv = c.loop-letter.invariant in
    let low : c.loop-letter._letter < c.args.count = omega arith in
    let put = c.in_ok-push.ensures in
    record {
      letters = letters_more c.args.count c.loop-letter._letter c.loop-letter.x c.draw.new.x c.loop-letter.out.items c.push.new.self.items (drawn_letters c.args.x.now c.args.count) low (put.items ∙ ap (λ (y : ℕ). c.loop-letter.out.items ++ (97 + y) ∷ []) c.draw.ensures.value) c.draw.ensures.state inv.letters;
      state = skip_more 1 c.args.count c.loop-letter._letter c.loop-letter.x c.draw.new.x (skip 1 c.args.x.now c.args.count) low c.draw.ensures.state inv.state;
    }

pub returns-clause-letters : goal.returns-clause-letters
returns-clause-letters c = letters_done c.args.count c.loop-letter._letter c.loop-letter.x c.loop-letter.out.items (drawn_letters c.args.x.now c.args.count) (omega arith) c.loop-letter.invariant.letters

pub returns-clause-state : goal.returns-clause-state
returns-clause-state c = skip_done 1 c.args.count c.loop-letter._letter c.loop-letter.x (skip 1 c.args.x.now c.args.count) (omega arith) c.loop-letter.invariant.state
