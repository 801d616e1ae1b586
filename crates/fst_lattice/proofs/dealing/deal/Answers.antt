use Rattle.std.proofs.Common.{◌≡◌, inr, ◌+◌, ◌-◌, ◌*◌, ◌++◌, ◌<◌, ◌≤◌, List, ℕ, length, min, take, ap, ap₂, sym, ◌∙◌, subst, arith}
use Rattle.std.proofs.lemmas.Grind.{div_ceil_times}
use Rattle.std.proofs.lemmas.List.{take_all}
use Rattle.fst_lattice.specs.Runs.{IsDealt, all_lines, run}
use Rattle.fst_lattice.proofs.Numbers.{IsFar, all_far, goes_far, lines_changed, run_joined}
use Rattle.fst_lattice.proofs.Turns.{turn_begins, turn_ends, turn_goes}
use Rattle.fst_lattice.proofs.dealing.deal.Goals as goal

pub loop-worker-init : goal.loop-worker-init
loop-worker-init g c = record {
  low = omega arith;
  high = c.requires.order;
  turn = turn_begins (IsDealt g.W.Weight.KIND g.W.Weight.value g.W.Weight.wide_value c.args.delayed.now c.args.lines.now c.args.limit) c.args.workers.now;
  lines = let none : c.args.from - c.args.from ≡ 0 = omega arith in sym (ap (run c.args.from) none);
  far = inr (omega arith);
}

pub loop-worker-preserved : goal.loop-worker-preserved
loop-worker-preserved g c =
    let inv = c.loop-worker.invariant in
    let fill = c.in_ok-fill.ensures in
    let low : c.loop-worker.worker-index < length c.loop-worker.workers = omega arith in
    let least : c.min.result ≡ min c.div_ceil-share.result (c.args.to - c.loop-worker.next) = c.min.ensures in
    let before : c.args.from ≤ c.loop-worker.next + c.min.result = omega (arith, inv.low) in
    let within : c.loop-worker.next + c.min.result ≤ c.args.to = omega (arith, least, inv.high) in
    let onward : c.loop-worker.next ≤ c.loop-worker.next + c.min.result = omega arith in
    record {
      low = before;
      high = within;
      turn = turn_goes (IsDealt g.W.Weight.KIND g.W.Weight.value g.W.Weight.wide_value c.args.delayed.now c.args.lines.now c.args.limit) c.args.workers.now c.loop-worker.workers c.loop-worker.worker-index c.worker-item.result c.fill.new.worker inv.turn low fill.dealt;
      lines = lines_changed c.loop-worker.workers c.loop-worker.worker-index c.fill.new.worker low
          ∙ (ap₂ (λ (xs ys : List ℕ). xs ++ ys) inv.lines fill.lines ∙ sym (run_joined c.args.from c.loop-worker.next (c.loop-worker.next + c.min.result) inv.low onward));
      far = subst (λ (m : ℕ). IsFar c.args.from c.args.to c.div_ceil-share.result (c.loop-worker.worker-index + 1) (c.loop-worker.next + m)) (sym least) (goes_far c.args.from c.args.to c.div_ceil-share.result c.loop-worker.worker-index c.loop-worker.next inv.high inv.far);
    }

pub returns-clause-dealt : goal.returns-clause-dealt
returns-clause-dealt g c = turn_ends (IsDealt g.W.Weight.KIND g.W.Weight.value g.W.Weight.wide_value c.args.delayed.now c.args.lines.now c.args.limit) c.args.workers.now c.loop-worker.workers c.loop-worker.worker-index c.loop-worker.invariant.turn (omega arith)

pub returns-clause-lines : goal.returns-clause-lines
returns-clause-lines g c =
    let inv = c.loop-worker.invariant in
    let enough : c.args.to - c.args.from ≤ c.div_ceil-share.result * length c.args.workers.now =
    subst (λ (s : ℕ). c.args.to - c.args.from ≤ s * length c.args.workers.now) (sym c.div_ceil-share.ensures) (div_ceil_times (c.args.to - c.args.from) (length c.args.workers.now) c.requires.workers).0 in
    let index : c.loop-worker.worker-index ≡ length c.args.workers.now = omega (arith, inv.turn.size) in
    let whole : take c.loop-worker.worker-index c.loop-worker.workers ≡ c.loop-worker.workers = take_all c.loop-worker.worker-index c.loop-worker.workers (omega arith) in
    let all : c.loop-worker.next ≡ c.args.to = all_far c.args.from c.args.to c.div_ceil-share.result (length c.args.workers.now) c.loop-worker.next enough c.requires.order inv.high
    (subst (λ (i : ℕ). IsFar c.args.from c.args.to c.div_ceil-share.result i c.loop-worker.next) index inv.far) in
    sym (ap all_lines whole) ∙ (inv.lines ∙ ap (λ (n : ℕ). run c.args.from (n - c.args.from)) all)
