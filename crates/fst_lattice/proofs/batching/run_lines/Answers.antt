use Rattle.std.proofs.Common.{◌≡◌, ◌+◌, ◌^◌, ◌<◌, List, [], ℕ, Option, Some, drop, length, slice_get, sym, ap, ◌∙◌, subst, arith}
use Rattle.std.specs.Prelude.{IfSome, sum_by}
use Rattle.fst_delayed.specs.Caches.{Entries, keys}
use Rattle.fst_delayed.specs.Graphs.{IsKeyOf}
use Rattle.fst_delayed.specs.Handed.{Name}
use Rattle.std.proofs.lemmas.List.{length-map}
use Rattle.fst_machine.specs.Machine.{Arc}
use Rattle.fst_lattice.specs.Phases.{Laborer}
use Rattle.fst_lattice.specs.Runs.{IsBetween}
use Rattle.fst_lattice.proofs.Needs.{few_entries}
use Rattle.fst_lattice.proofs.Opened.{all_needed, new_between}
use Rattle.fst_lattice.proofs.Running.{whole_left}
use Rattle.fst_lattice.proofs.batching.run_lines.Goals as goal

pub run_all_lines-requires-clause-between : goal.run_all_lines-requires-clause-between
run_all_lines-requires-clause-between g c κs within =
    subst (λ (es : Entries g.row.W-Wide.Denot (Name ℕ ℕ)). IsBetween g.W.Weight.KIND g.W.Weight.value g.W.Weight.wide_value g.M.Meter.count g.M.Meter.is_part c.args.delayed.now c.args.lines.now c.args.limit es c.as_mut_slice.result.now) (sym c.new-cache.ensures)
    (subst (λ (ws : List (Laborer g.row.W-Wide.Denot g.row.M.Denot)). IsBetween g.W.Weight.KIND g.W.Weight.value g.W.Weight.wide_value g.M.Meter.count g.M.Meter.is_part c.args.delayed.now c.args.lines.now c.args.limit [] ws) (sym c.as_mut_slice.ensures.value)
    (new_between g.W.Weight.KIND g.W.Weight.value g.W.Weight.wide_value g.M.Meter.count g.M.Meter.is_part c.args.delayed.now c.args.lines.now c.args.limit c.in_ok-hired.hired.items c.in_ok-hired.ensures.new))

pub dismiss-requires-clause-parts : goal.dismiss-requires-clause-parts
dismiss-requires-clause-parts g c κs within =
    let long : length c.run_all_lines.new.workers ≡ c.in_ok-hired.hired.len = omega (arith, c.in_ok-run_all_lines.ensures.size, ap length c.as_mut_slice.ensures.value, c.in_ok-hired.hired.ok) in
    let same = whole_left c.in_ok-hired.hired.len c.run_all_lines.new.workers (drop (length c.run_all_lines.new.workers) c.in_ok-hired.hired.items) long in
    λ k w at. (c.in_ok-run_all_lines.ensures.between.hired k w (subst (λ (ws : List (Laborer g.row.W-Wide.Denot g.row.M.Denot)). slice_get ws k ≡ Some w) (sym same) at)).part

pub dismiss-requires-clause-few : goal.dismiss-requires-clause-few
dismiss-requires-clause-few g c κs within =
    let between = c.in_ok-run_all_lines.ensures.between in
    let long : length c.run_all_lines.new.workers ≡ c.in_ok-hired.hired.len = omega (arith, c.in_ok-run_all_lines.ensures.size, ap length c.as_mut_slice.ensures.value, c.in_ok-hired.hired.ok) in
    let same = whole_left c.in_ok-hired.hired.len c.run_all_lines.new.workers (drop (length c.run_all_lines.new.workers) c.in_ok-hired.hired.items) long in
    let start = c.start_key-start.ensures in
    let first = subst (λ (o : Option (Name ℕ ℕ)). IfSome o (IsKeyOf c.args.delayed.now)) start.start start.key in
    let few : length c.run_all_lines.new.cache < 2 ^ 46 = few_entries g.W.Weight.KIND g.W.Weight.value c.args.delayed.now start.machines.0 start.machines.1 first c.args.limit c.args.lines.now c.run_all_lines.new.cache c.len-expansions.ensures.apart between.needed in
    let total : sum_by (λ (w : Laborer g.row.W-Wide.Denot g.row.M.Denot). g.M.Meter.count w.meter) c.run_all_lines.new.workers < 2 ^ 46 = omega (arith, few, between.counted) in
    let meter = c.in_ok-hired.ensures.count in
    subst (λ (ws : List (Laborer g.row.W-Wide.Denot g.row.M.Denot)). g.M.Meter.count c.hire.new.meter + sum_by (λ w. g.M.Meter.count w.meter) ws < 2 ^ 63) same (omega (arith, total, meter, c.requires.count))

pub returns-clause-cache : goal.returns-clause-cache
returns-clause-cache g c =
    all_needed g.W.Weight.KIND g.W.Weight.value g.W.Weight.wide_value g.M.Meter.count g.M.Meter.is_part c.args.delayed.now c.args.lines.now c.args.limit c.run_all_lines.new.cache c.run_all_lines.new.workers c.in_ok-run_all_lines.ensures.between c.len-expansions.ensures.apart c.in_ok-run_all_lines.ensures.known

pub returns-clause-expansions : goal.returns-clause-expansions
returns-clause-expansions g c = record {
  names = keys c.run_all_lines.new.cache;
  needed = all_needed g.W.Weight.KIND g.W.Weight.value g.W.Weight.wide_value g.M.Meter.count g.M.Meter.is_part c.args.delayed.now c.args.lines.now c.args.limit c.run_all_lines.new.cache c.run_all_lines.new.workers c.in_ok-run_all_lines.ensures.between c.len-expansions.ensures.apart c.in_ok-run_all_lines.ensures.known;
  size = c.len-expansions.ensures.len ∙ sym (length-map c.run_all_lines.new.cache (λ (e : Name ℕ ℕ × List (Arc g.row.W-Wide.Denot (Name ℕ ℕ))). e.0));
}

pub returns-clause-count : goal.returns-clause-count
returns-clause-count g c =
    let between = c.in_ok-run_all_lines.ensures.between in
    let long : length c.run_all_lines.new.workers ≡ c.in_ok-hired.hired.len = omega (arith, c.in_ok-run_all_lines.ensures.size, ap length c.as_mut_slice.ensures.value, c.in_ok-hired.hired.ok) in
    let same = whole_left c.in_ok-hired.hired.len c.run_all_lines.new.workers (drop (length c.run_all_lines.new.workers) c.in_ok-hired.hired.items) long in
    let meter = c.in_ok-hired.ensures.count in
    let total = ap (λ (ws : List (Laborer g.row.W-Wide.Denot g.row.M.Denot)). g.M.Meter.count c.hire.new.meter + sum_by (λ w. g.M.Meter.count w.meter) ws) same in
    let sum : g.M.Meter.count c.hire.new.meter + sum_by (λ (w : Laborer g.row.W-Wide.Denot g.row.M.Denot). g.M.Meter.count w.meter) c.run_all_lines.new.workers ≡ g.M.Meter.count c.args.meter.now + c.len-expansions.result = omega (arith, meter, between.counted, c.len-expansions.ensures.len) in
    c.dismiss.ensures.count ∙ (sym total ∙ sum)
