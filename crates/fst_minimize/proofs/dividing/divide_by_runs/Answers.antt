use Rattle.std.proofs.Common.{ℕ, length, ap, subst, ◌∙◌, arith}
use Rattle.fst_minimize.specs.Dividing.{KeepsAlike}
use Rattle.fst_minimize.proofs.ByBlocks.{next_cut, run_alike, run_unmarked}
use Rattle.fst_minimize.proofs.dividing.divide_by_runs.Goals as goal

pub mark_run-requires-clause-below : goal.mark_run-requires-clause-below
mark_run-requires-clause-below c = λ i item there. let low = c.requires.below i item there in let same = c.loop-first.invariant.size in omega arith

pub split_run-requires-clause-below : goal.split_run-requires-clause-below
split_run-requires-clause-below c = λ i item there. let low = c.requires.below i item there in let same = c.loop-first.invariant.size in let size = ap length c.mark_run.ensures.blocks in omega arith

pub loop-first-preserved : goal.loop-first-preserved
loop-first-preserved c =
    let inv = c.loop-first.invariant in
    let items = c.args.items.now in
    let first = c.loop-first.first in
    let end = c.run_end-end.result in
    let run = c.run_end-end.ensures in
    let marks = c.mark_run.ensures in
    let split = c.in_ok-split_run.ensures in
    record {
      size = split.size ∙ (ap length marks.blocks ∙ inv.size);
      within = run.within;
      cut = next_cut items first end inv.cut run;
      none = split.none (run_unmarked items first end c.loop-first.parts c.mark_run.new.parts marks.blocks inv.none marks.only);
      alike = λ g takes keeps. run_alike g (length c.args.parts.now.blocks.items) c.loop-first.parts c.mark_run.new.parts c.split_run.new.parts items first end inv.size run inv.cut inv.none marks.blocks marks.only marks.all split.size takes (inv.alike g takes keeps) (split.alike g);
    }

pub returns-clause-alike : goal.returns-clause-alike
returns-clause-alike c = λ g takes keeps. subst (λ (n : ℕ). KeepsAlike g n c.loop-first.parts.blocks.items) c.loop-first.invariant.size (c.loop-first.invariant.alike g takes keeps)
