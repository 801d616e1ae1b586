use Rattle.std.proofs.Common.{◌≡◌, ⊎_elim, ◌+◌, ◌-◌, ◌++◌, [], ◌<◌, ◌≤◌, List, ℕ, length, refl, sym, ap, ◌∙◌, subst, arith}
use Rattle.std.specs.List.{AllZip}
use Rattle.std.proofs.lemmas.Bool.{cases_lt}
use Rattle.fst_lattice.specs.Runs.{IsAnswerAt, run}
use Rattle.fst_lattice.proofs.Numbers.{run_more, zip_append, zip_lines}
use Rattle.fst_lattice.proofs.Opened.{kept_entries}
use Rattle.fst_lattice.proofs.batching.run_all_lines.Goals as goal

pub loop-from-init : goal.loop-from-init
loop-from-init g c = record {
  low = omega arith;
  between = c.requires.between;
  size = refl;
  known = λ number line n low. absurd (omega (arith, low));
  answers = subst (λ (xs : List g.row.A-Answer.Denot). AllZip (IsAnswerAt (g.A.Answering.answers c.args.answering.now c.args.delayed.now) c.args.lines.now) [] xs) (sym c.requires.none) tt;
}

pub loop-from-preserved : goal.loop-from-preserved
loop-from-preserved g c =
    let inv = c.loop-from.invariant in
    let ran = c.in_ok-run_some.ensures in
    let R = IsAnswerAt (g.A.Answering.answers c.args.answering.now c.args.delayed.now) c.args.lines.now in
    let to : ℕ = c.loop-from.from + c.min.result in
    let within : to ≤ c.count-count.result = omega (arith, c.min.ensures, inv.low) in
    record {
      low = within;
      between = ran.between;
      size = ran.size ∙ inv.size;
      known = λ number line n low at need. ⊎_elim
          (λ (old : number < c.loop-from.from). kept_entries c.loop-from.cache c.run_some.new.cache ran.front.0 ran.front.1 n (inv.known number line n old at need))
          (λ (new : c.loop-from.from ≤ number). ran.known number line n new low at need)
          (cases_lt number c.loop-from.from);
      answers =
          let joined : run 0 to ≡ run 0 c.loop-from.from ++ run c.loop-from.from (to - c.loop-from.from) =
          let a : 0 + c.loop-from.from ≡ c.loop-from.from = omega arith in
          let b : c.min.result ≡ to - c.loop-from.from = omega arith in
          run_more 0 c.loop-from.from c.min.result ∙ (ap (λ (f : ℕ). run 0 c.loop-from.from ++ run f c.min.result) a ∙ ap (λ (n : ℕ). run 0 c.loop-from.from ++ run c.loop-from.from n) b) in
          subst (λ (ns : List ℕ). AllZip R ns c.run_some.new.answers.items) (sym joined)
          (subst (λ (xs : List g.row.A-Answer.Denot). AllZip R (run 0 c.loop-from.from ++ run c.loop-from.from (to - c.loop-from.from)) xs) (sym ran.answers.1)
          (zip_append R (run 0 c.loop-from.from) c.loop-from.answers.items (run c.loop-from.from (to - c.loop-from.from)) ran.answers.0 inv.answers ran.answers.2));
    }

pub returns-clause-known : goal.returns-clause-known
returns-clause-known g c = λ number line n low at need. c.loop-from.invariant.known number line n (omega (arith, low, c.count-count.ensures)) at need

pub returns-clause-answers : goal.returns-clause-answers
returns-clause-answers g c =
    let all : c.loop-from.from ≡ length c.args.lines.now = omega (arith, c.loop-from.invariant.low, c.count-count.ensures) in
    zip_lines (g.A.Answering.answers c.args.answering.now c.args.delayed.now) c.args.lines.now c.loop-from.answers.items
    (subst (λ (n : ℕ). AllZip (IsAnswerAt (g.A.Answering.answers c.args.answering.now c.args.delayed.now) c.args.lines.now) (run 0 n) c.loop-from.answers.items) all c.loop-from.invariant.answers)
