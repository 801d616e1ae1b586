use Rattle.std.proofs.Common.{◌-◌, List, ℕ, ◌∙◌, subst, arith}
use Rattle.std.specs.List.{AllZip}
use Rattle.fst_lattice.specs.Runs.{IsAnswerAt}
use Rattle.fst_lattice.proofs.Opened.{dealt_between, done_known}
use Rattle.fst_lattice.proofs.batching.run_some.Goals as goal

pub walk_all-requires-clause-between : goal.walk_all-requires-clause-between
walk_all-requires-clause-between g c κs within =
    dealt_between g.W.Weight.KIND g.W.Weight.value g.W.Weight.wide_value g.M.Meter.count g.M.Meter.is_part c.args.delayed.now c.args.lines.now c.args.limit c.args.cache.now c.args.workers.now c.deal.new.workers c.requires.between c.in_ok-deal.ensures.dealt

pub answer_all-requires-clause-some : goal.answer_all-requires-clause-some
answer_all-requires-clause-some g c κs within = omega (arith, c.requires.some, c.in_ok-walk_all.ensures.size, c.in_ok-deal.ensures.dealt.size)

pub answer_all-requires-clause-ready : goal.answer_all-requires-clause-ready
answer_all-requires-clause-ready g c κs within =
    let between = c.in_ok-walk_all.ensures.between in
    record {
      entries = between.entries;
      walked = λ k w at. record {
        each = λ i j there. let job = (between.hired k w at).jobs i j there in (job.0, job.1 ∙ c.requires.limit.0);
        over = c.in_ok-walk_all.ensures.done k w at;
      };
    }

pub returns-clause-known : goal.returns-clause-known
returns-clause-known g c = λ number line n low high at need.
    done_known g.W.Weight.KIND g.W.Weight.value g.W.Weight.wide_value g.M.Meter.count g.M.Meter.is_part c.args.delayed.now c.args.lines.now c.args.limit c.walk_all.new.cache c.walk_all.new.workers c.args.from (c.args.to - c.args.from)
    c.in_ok-walk_all.ensures.between c.in_ok-walk_all.ensures.done (c.in_ok-walk_all.ensures.lines ∙ c.in_ok-deal.ensures.lines) number line n low (omega (arith, high, low)) at need

pub returns-clause-answers : goal.returns-clause-answers
returns-clause-answers g c =
    let found = c.in_ok-answer_all.ensures in (
      found.0,
      found.1,
      subst (λ (ns : List ℕ). AllZip (IsAnswerAt (g.A.Answering.answers c.args.answering.now c.args.delayed.now) c.args.lines.now) ns found.0) (c.in_ok-walk_all.ensures.lines ∙ c.in_ok-deal.ensures.lines) found.2,
    )
