use Rattle.std.proofs.Common.{◌++◌, ◌^◌, ◌<◌, ℕ, Option, length, ap, ◌∙◌, subst, append_assoc, arith}
use Rattle.std.specs.Prelude.{IfSome}
use Rattle.std.specs.List.{flat_map}
use Rattle.fst_delayed.specs.Graphs.{IsKeyOf}
use Rattle.fst_delayed.specs.Handed.{Name}
use Rattle.fst_lattice.proofs.Between.{is_between, is_idle, is_longer, same_lines}
use Rattle.fst_lattice.proofs.Needs.{few_entries}
use Rattle.fst_lattice.proofs.batching.walk_all.Goals as goal

pub phase-requires-clause-idle : goal.phase-requires-clause-idle
phase-requires-clause-idle g c κs within =
    let start = c.start_key-start.ensures in
    let first = subst (λ (o : Option (Name ℕ ℕ)). IfSome o (IsKeyOf c.args.delayed.now)) start.start start.key in
    let few : length c.loop-report.cache < 2 ^ 46 = few_entries g.W.Weight.KIND g.W.Weight.value c.args.delayed.now start.machines.0 start.machines.1 first c.args.limit c.args.lines.now c.loop-report.cache c.len-expanded.ensures.apart c.loop-report.invariant.between.needed in
    is_idle g.W.Weight.KIND g.W.Weight.value g.W.Weight.wide_value g.M.Meter.count g.M.Meter.parts_out g.M.Meter.is_part c.args.delayed.now c.args.lines.now c.args.limit c.loop-report.cache c.loop-report.workers c.loop-report.invariant.between (omega (arith, few))

pub loop-report-preserved : goal.loop-report-preserved
loop-report-preserved g c =
    let inv = c.loop-report.invariant in
    let p = c.in_ok-_report.ensures.phase in
    record {
      between = is_between g.W.Weight.KIND g.W.Weight.value g.W.Weight.wide_value g.M.Meter.count g.M.Meter.parts_out g.M.Meter.is_part c.args.delayed.now c.args.lines.now c.args.limit c.loop-report.cache c.loop-report.workers inv.between
          c.in_ok-_report._report.claims c.in_ok-_report._report.pass c.phase.new.cache c.phase.new.workers p;
      size = p.size ∙ inv.size;
      lines = same_lines g.W.Weight.KIND g.W.Weight.value g.W.Weight.wide_value g.M.Meter.count g.M.Meter.parts_out g.M.Meter.is_part c.args.delayed.now c.args.lines.now c.args.limit c.loop-report.cache c.loop-report.workers inv.between
          c.in_ok-_report._report.claims c.in_ok-_report._report.pass c.phase.new.cache c.phase.new.workers p ∙ inv.lines;
      front = (inv.front.0 ++ flat_map (λ es. es) p.owns, p.entries ∙ (ap (λ es. es ++ flat_map (λ xs. xs) p.owns) inv.front.1 ∙ append_assoc c.args.cache.now inv.front.0 (flat_map (λ es. es) p.owns)));
    }

pub loop-report-smaller : goal.loop-report-smaller
loop-report-smaller g c =
    let start = c.start_key-start.ensures in
    let first = subst (λ (o : Option (Name ℕ ℕ)). IfSome o (IsKeyOf c.args.delayed.now)) start.start start.key in
    let few : length c.loop-report.cache < 2 ^ 46 = few_entries g.W.Weight.KIND g.W.Weight.value c.args.delayed.now start.machines.0 start.machines.1 first c.args.limit c.args.lines.now c.loop-report.cache c.len-expanded.ensures.apart c.loop-report.invariant.between.needed in
    let left = c.are_done.ensures.left c.if-are_done.false in
    let longer : length c.loop-report.cache < length c.phase.new.cache =
    is_longer g.W.Weight.KIND g.W.Weight.value g.W.Weight.wide_value g.M.Meter.count g.M.Meter.parts_out g.M.Meter.is_part c.args.delayed.now c.args.lines.now c.args.limit c.loop-report.cache c.loop-report.workers c.loop-report.invariant.between
    c.in_ok-_report._report.claims c.in_ok-_report._report.pass c.phase.new.cache c.phase.new.workers c.in_ok-_report.ensures.phase (let places = c.in_ok-_report.ensures.places in omega (arith, places)) left.0 left.1 left.2 left.3 left.4 left.5 left.6 left.7 in
    omega (arith, few, longer)

pub returns-then-are_done-clause-between : goal.returns-then-are_done-clause-between
returns-then-are_done-clause-between g c =
    is_between g.W.Weight.KIND g.W.Weight.value g.W.Weight.wide_value g.M.Meter.count g.M.Meter.parts_out g.M.Meter.is_part c.args.delayed.now c.args.lines.now c.args.limit c.loop-report.cache c.loop-report.workers c.loop-report.invariant.between
    c.in_ok-_report._report.claims c.in_ok-_report._report.pass c.phase.new.cache c.phase.new.workers c.in_ok-_report.ensures.phase

pub returns-then-are_done-clause-lines : goal.returns-then-are_done-clause-lines
returns-then-are_done-clause-lines g c =
    same_lines g.W.Weight.KIND g.W.Weight.value g.W.Weight.wide_value g.M.Meter.count g.M.Meter.parts_out g.M.Meter.is_part c.args.delayed.now c.args.lines.now c.args.limit c.loop-report.cache c.loop-report.workers c.loop-report.invariant.between
    c.in_ok-_report._report.claims c.in_ok-_report._report.pass c.phase.new.cache c.phase.new.workers c.in_ok-_report.ensures.phase ∙ c.loop-report.invariant.lines
