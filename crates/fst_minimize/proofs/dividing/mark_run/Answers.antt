use Rattle.std.proofs.Common.{◌<◌, inl, length, refl, ap, ◌∙◌, arith}
use Rattle.fst_minimize.proofs.ByBlocks.{marks_all, marks_only, run_empty, run_is, run_longer, state_at}
use Rattle.fst_minimize.proofs.dividing.mark_run.Goals as goal

pub loop-place-init : goal.loop-place-init
loop-place-init c = record {
  blocks = refl;
  only = λ p low mark. inl mark;
  all = λ p r. absurd (run_empty c.args.items.now c.args.first c.args.first p (omega arith) r);
}

pub mark-requires : goal.mark-requires
mark-requires c =
    let size = ap length c.loop-place.invariant.blocks in
    let low = state_at c.args.items.now 0 c.loop-place.place (length c.args.parts.now.blocks.items) c.requires.below (let w = c.requires.within in let t = c.loop-place-test.true in omega arith) in
    omega arith

pub loop-place-preserved : goal.loop-place-preserved
loop-place-preserved c =
    let inv = c.loop-place.invariant in
    let size = ap length inv.blocks in
    let within : c.loop-place.place < length c.args.items.now = (let w = c.requires.within in let t = c.loop-place-test.true in omega arith) in
    record {
      blocks = c.mark.ensures.blocks ∙ inv.blocks;
      only = marks_only c.args.parts.now c.loop-place.parts c.mark.new.self c.args.items.now c.args.first c.loop-place.place c.mark.ensures size c.loop-place.auto.place within c.requires.below inv.only;
      all = marks_all c.args.parts.now c.loop-place.parts c.mark.new.self c.args.items.now c.args.first c.loop-place.place c.mark.ensures size c.loop-place.auto.place within c.requires.below inv.all;
    }

pub returns-clause-only : goal.returns-clause-only
returns-clause-only c = λ p low mark. run_is c.args.items.now c.args.first c.loop-place.place c.args.end p (let t = c.loop-place-test.false in let e = c.loop-place.auto.place-end c.requires.order in omega arith) (c.loop-place.invariant.only p low mark)

pub returns-clause-all : goal.returns-clause-all
returns-clause-all c = λ p r. c.loop-place.invariant.all p (run_longer c.args.items.now c.args.first c.args.end c.loop-place.place p c.loop-place-test.false r)
