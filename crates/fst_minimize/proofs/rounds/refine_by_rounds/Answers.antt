use Rattle.std.proofs.Common.{◌≡◌, length, arith}
use Rattle.fst_minimize.proofs.Splitting.{count_below, count_grows, splits_finer, splits_refined, splits_last}
use Rattle.fst_minimize.proofs.rounds.refine_by_rounds.Goals as goal

pub loop-current-init : goal.loop-current-init
loop-current-init c = record {
  size = c.requires.size;
  numbering = c.requires.numbering;
  few = count_below (length c.args.rows.now) c.args.first.numbers.items c.args.first.least.items c.requires.numbering c.requires.size;
  refined = λ g are r. r;
}

pub returns-then-new-old-clause-behaviour : goal.returns-then-new-old-clause-behaviour
returns-then-new-old-clause-behaviour c =
    let rows = c.args.rows.now in
    let old = c.loop-current.current in
    let new = c.in_ok-next.next in
    let splits = c.in_ok-next.ensures.splits in
    let inv = c.loop-current.invariant in
    let equal : length old.least.items ≡ length new.least.items = omega (arith, c.len-old.ensures, c.len-new.ensures, c.if-new-old.true) in
    λ g are r. splits_last g (length rows) rows are c.requires.below old.numbers.items old.least.items new.numbers.items new.least.items inv.numbering c.in_ok-next.ensures.numbering inv.size splits.size equal splits (inv.refined g are r)

pub loop-current-smaller-then-is_worth_a_round : goal.loop-current-smaller-then-is_worth_a_round
loop-current-smaller-then-is_worth_a_round c =
    let rows = c.args.rows.now in
    let old = c.loop-current.current in
    let new = c.in_ok-next.next in
    let splits = c.in_ok-next.ensures.splits in
    let inv = c.loop-current.invariant in
    let below = count_below (length rows) new.numbers.items new.least.items c.in_ok-next.ensures.numbering splits.size in
    let grows = count_grows (length rows) old.numbers.items old.least.items new.numbers.items new.least.items inv.numbering c.in_ok-next.ensures.numbering inv.size splits.size (splits_finer old.numbers.items new.numbers.items rows splits) in
    omega (arith, c.len-old.ensures, c.len-new.ensures, c.if-new-old.false)

pub loop-current-preserved-then-is_worth_a_round : goal.loop-current-preserved-then-is_worth_a_round
loop-current-preserved-then-is_worth_a_round c =
    let rows = c.args.rows.now in
    let old = c.loop-current.current in
    let new = c.in_ok-next.next in
    let splits = c.in_ok-next.ensures.splits in
    record {
      size = splits.size;
      numbering = c.in_ok-next.ensures.numbering;
      few = count_below (length rows) new.numbers.items new.least.items c.in_ok-next.ensures.numbering splits.size;
      refined = λ g are r. splits_refined g (length rows) rows are c.requires.below old.numbers.items new.numbers.items splits (c.loop-current.invariant.refined g are r);
    }

pub loop-current-smaller : goal.loop-current-smaller
loop-current-smaller c =
    let rows = c.args.rows.now in
    let old = c.loop-current.current in
    let new = c.in_ok-next.next in
    let last = c.in_ok-current.current in
    let by = c.in_ok-current.ensures in
    let splits = c.in_ok-next.ensures.splits in
    let inv = c.loop-current.invariant in
    let below = count_below (length rows) last.numbers.items last.least.items by.numbering by.size in
    let grows = count_grows (length rows) old.numbers.items old.least.items new.numbers.items new.least.items inv.numbering c.in_ok-next.ensures.numbering inv.size splits.size (splits_finer old.numbers.items new.numbers.items rows splits) in
    let more = count_grows (length rows) new.numbers.items new.least.items last.numbers.items last.least.items c.in_ok-next.ensures.numbering by.numbering splits.size by.size by.finer in
    omega (arith, c.len-old.ensures, c.len-new.ensures, c.if-new-old.false)

pub loop-current-preserved : goal.loop-current-preserved
loop-current-preserved c =
    let rows = c.args.rows.now in
    let old = c.loop-current.current in
    let new = c.in_ok-next.next in
    let last = c.in_ok-current.current in
    let by = c.in_ok-current.ensures in
    record {
      size = by.size;
      numbering = by.numbering;
      few = count_below (length rows) last.numbers.items last.least.items by.numbering by.size;
      refined = λ g are r. by.refined g are (splits_refined g (length rows) rows are c.requires.below old.numbers.items new.numbers.items c.in_ok-next.ensures.splits (c.loop-current.invariant.refined g are r));
    }
