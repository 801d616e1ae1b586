use Rattle.std.proofs.Common.{◌≡◌, ℕ, ◌≤◌, ◌<◌, List, length, sym, ap, ◌∙◌, subst, arith, inl}
use Rattle.std.proofs.lemmas.Result.{err_from_is_err_and}
use Rattle.std.specs.List.{AllZip}
use Rattle.std.proofs.lemmas.Slice.Zip.{AllZip-long}
use Rattle.fst_semiring.specs.Cost.{Cost}
use Rattle.fst_semiring.specs.declared.arc_type.ArcType.TheVariants.{Tropical}
use Rattle.fst_machine.specs.Machine.{Machine}
use Rattle.fst_delayed.specs.Graphs.{delayed_graph}
use Rattle.fst_lattice.specs.Cascade.{behind_second}
use Rattle.fst_lattice.specs.Expansions.{IsExpansions}
use Rattle.fst_batch.specs.Answers.{IsAnswer}
use Rattle.fst_verbs.proofs.Drawn.{drawn_count, sorted_drawn}
use Rattle.fst_verbs.proofs.Making.{is_cascade}
use Rattle.fst_verbs.proofs.commands.making.drawn.Goals as goal

pub unreachable-requires : goal.unreachable-requires
unreachable-requires g c =
    let cascade = c.in_ok-cascade.cascade in
    c.in_default.ensures.fault (sorted_drawn c.seed_of.result cascade.first cascade.second c.in_ok-cascade.ensures.second)

pub run_batch-requires-clause-lines : goal.run_batch-requires-clause-lines
run_batch-requires-clause-lines g c =
    let size : length c.in_ok-cascade.cascade.lines ≡ c.line_count.result = ap length c.in_ok-cascade.ensures.lines ∙ drawn_count (behind_second c.seed_of.result) c.line_count.result in
    omega (arith, size, c.line_count.ensures.few)

pub text_of-requires : goal.text_of-requires
text_of-requires g c =
    let size : length c.in_ok-cascade.cascade.lines ≡ c.line_count.result = ap length c.in_ok-cascade.ensures.lines ∙ drawn_count (behind_second c.seed_of.result) c.line_count.result in
    omega (arith, size, c.line_count.ensures.few, AllZip-long _ _ _ c.in_ok-report.ensures.answers)

pub returns-in_err-text-clause-settles : goal.returns-in_err-text-clause-settles
returns-in_err-text-clause-settles g c given =
    let p = err_from_is_err_and c.from_residual-in_err-text.result c.from_residual-in_err-text.ensures.1 in
    rw p.1 (inl p.2)

pub returns-clause-settles : goal.returns-clause-settles
returns-clause-settles g c given =
    let cascade = c.in_ok-cascade.cascade in
    let report = c.in_ok-report.report in
    let n = c.asked.result.nshortest in
    let limit = c.asked.result.max_states in
    let machines : c.in-Ok.delayed ≡ (cascade.first, cascade.second) = c.in-Ok.ensures.machines in
    let each = subst (λ (d : Machine Cost × Machine Cost). AllZip (λ line answer. IsAnswer Tropical (delayed_graph Tropical (λ w. w) d) n limit line (λ w. w) answer) cascade.lines report.answers.items) machines c.in_ok-report.ensures.answers in
    let needed = subst (λ (d : Machine Cost × Machine Cost). IsExpansions cascade.lines (delayed_graph Tropical (λ w. w) d) limit report.expansions) machines c.in_ok-report.ensures.expansions in (
      (λ fault stops. stops),
      is_cascade c.args.options.now c.seed_of.result c.line_count.result cascade.first cascade.second cascade.lines report.answers.items n limit report.expansions c.in_ok-text.text.items
          c.seed_of.ensures c.line_count.ensures.same c.in_ok-cascade.ensures.first c.in_ok-cascade.ensures.second c.in_ok-cascade.ensures.lines c.asked.ensures.paths.0 c.asked.ensures.limit.0
          each needed c.in_ok-text.ensures,
    )
