use Rattle.std.proofs.Common.{ℕ, length, subst, ◌∙◌, arith}
use Rattle.fst_minimize.specs.Dividing.{KeepsAlike}
use Rattle.fst_minimize.proofs.ByBlocks.{run_empty, split_more, split_tells, splits_left, state_at}
use Rattle.fst_minimize.proofs.dividing.split_run.Goals as goal

pub split-requires : goal.split-requires
split-requires c =
    let size = c.loop-place.invariant.size in
    let low = state_at c.args.items.now 0 c.loop-place.place (length c.args.parts.now.blocks.items) c.requires.below (let w = c.requires.within in let t = c.loop-place-test.true in omega arith) in
    omega arith

pub loop-place-preserved : goal.loop-place-preserved
loop-place-preserved c =
    let inv = c.loop-place.invariant in
    let s = c.in_ok-block.ensures in
    record {
      size = s.size ∙ inv.size;
      alike = λ g tells keeps.
          let before = inv.alike g tells keeps in
          (split_tells g c.loop-place.parts c.split.new.self _ s before.0 before.1, split_more g c.loop-place.parts c.split.new.self _ s before.0 before.1);
      left = λ only. splits_left c.loop-place.parts c.split.new.self c.args.items.now c.loop-place.place c.args.end s (inv.left only);
    }

pub returns-clause-alike : goal.returns-clause-alike
returns-clause-alike c = λ g tells keeps. subst (λ (n : ℕ). KeepsAlike g n c.loop-place.parts.blocks.items) c.loop-place.invariant.size (c.loop-place.invariant.alike g tells keeps).1

pub returns-clause-none : goal.returns-clause-none
returns-clause-none c = λ only p low mark. run_empty c.args.items.now c.loop-place.place c.args.end p c.loop-place-test.false (c.loop-place.invariant.left only p low mark)
