use Rattle.std.proofs.Common.{◌++◌, ap, ◌∙◌, subst, arith}
use Rattle.fst_semiring.specs.Cost.{Cost}
use Rattle.fst_semiring.specs.Semiring.{InRange}
use Rattle.fst_verbs.specs.Measuring.{distance_line}
use Rattle.fst_verbs.proofs.Measured.{first_past, lines_more, range_more}
use Rattle.fst_verbs.proofs.commands.measuring.lines_of.Goals as goal

pub loop-state-preserved : goal.loop-state-preserved
loop-state-preserved g c =
    let value = g.W.Weight.wide_value in
    let kind = g.W.Weight.KIND in
    let i = c.loop-state.state in
    let told = c.in_ok-push_line-in-Some.ensures ∙ ap (λ (v : Cost). c.loop-state.lines.items ++ distance_line kind i v) c.in-Some.ensures.found in
    record {
      within = omega arith;
      told = lines_more kind value c.args.distances.now i c.index-distances-state.result (omega arith) c.index-distances-state.is c.loop-state.lines.items c.push_line.new.out.items c.loop-state.invariant.told told;
      range = range_more kind value c.args.distances.now i c.index-distances-state.result (omega arith) c.index-distances-state.is c.loop-state.invariant.range (subst InRange c.in-Some.ensures.found c.in-Some.ensures.range);
    }

pub returns-in-None-clause-past : goal.returns-in-None-clause-past
returns-in-None-clause-past g c =
    first_past g.W.Weight.KIND g.W.Weight.wide_value c.args.distances.now c.loop-state.state c.index-distances-state.result (omega arith) c.index-distances-state.is c.loop-state.invariant.range c.in-None.ensures.none
