use Rattle.std.proofs.Common.{◌≡◌, ◌+◌, ◌-◌, ◌/◌, ℕ, ap, arith}
use Rattle.fst_machine.specs.Machine.{Arc}
use Rattle.fst_compose.specs.Names.{Name}
use Rattle.fst_delayed.proofs.Running.{none_greater, none_lower}
use Rattle.fst_delayed.proofs.run.first_place.Goals as goal

pub loop-low-preserved-then-arc-label : goal.loop-low-preserved-then-arc-label
loop-low-preserved-then-arc-label g c =
    let a = c.index-arcs-middle.result in
    let middle = c.loop-low.low + (c.loop-low.high - c.loop-low.low) / 2 in
    let read : c.arc.inside.ilabel ≡ a.ilabel = ap (λ (b : Arc g.row.W-Wide.Denot (Name ℕ ℕ)). b.ilabel) c.arc.view_is in
    let less = c.if-arc-label.true in
    record {
      order = omega arith;
      within = c.loop-low.invariant.within;
      before = λ k d low. let most = none_greater c.args.arcs.now c.requires middle a (omega (arith, c.loop-low.invariant.within)) c.index-arcs-middle.is k d low in omega (arith, most, read, less);
      from = c.loop-low.invariant.from;
    }

pub loop-low-preserved : goal.loop-low-preserved
loop-low-preserved g c =
    let a = c.index-arcs-middle.result in
    let middle = c.loop-low.low + (c.loop-low.high - c.loop-low.low) / 2 in
    let read : c.arc.inside.ilabel ≡ a.ilabel = ap (λ (b : Arc g.row.W-Wide.Denot (Name ℕ ℕ)). b.ilabel) c.arc.view_is in
    let more = c.if-arc-label.false in
    record {
      order = omega arith;
      within = omega (arith, c.loop-low.invariant.within);
      before = c.loop-low.invariant.before;
      from = λ k d past low. let least = none_lower c.args.arcs.now c.requires middle a (omega (arith, c.loop-low.invariant.within)) c.index-arcs-middle.is k d past low in omega (arith, least, read, more);
    }
