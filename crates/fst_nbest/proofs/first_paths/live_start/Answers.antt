use Rattle.std.proofs.Common.{◌≡◌, sym, ◌∙◌, arith}
use Rattle.fst_machine.specs.Machine.{valued}
use Rattle.fst_machine.specs.Graph.{graph_of}
use Rattle.fst_nbest.specs.Ready.{dist_in}
use Rattle.fst_nbest.proofs.Preparing.{dist_is}
use Rattle.fst_nbest.proofs.TotalHeaps.{is_none, is_some}
use Rattle.fst_nbest.proofs.WrittenWords.{no_paths}
use Rattle.fst_nbest.proofs.first_paths.live_start.Given.{Over}
use Rattle.fst_nbest.proofs.first_paths.live_start.Goals.{After-index}
use Rattle.fst_nbest.proofs.first_paths.live_start.Goals as goal

-- the distance that is read
read : (g : Over) (c : After-index g) → g.W.Weight.wide_value c.index.result.now ≡ dist_in g.W.Weight.wide_value c.args.dist.now.items c.in-Some.start
read g c = dist_is g.W.Weight.wide_value c.args.dist.now.items c.in-Some.start c.index.result.now (omega (arith, c.in-Some.ensures.state, c.requires.measured.dist_size)) c.index.ensures

pub returns-then-is_zero_wide-clause-none : goal.returns-then-is_zero_wide-clause-none
returns-then-is_zero_wide-clause-none g c n =
    let h = c.requires.measured in
    let graph = graph_of (valued g.M.AsMachine.value (g.M.AsMachine.machine c.args.fst.now)) in
    let none = sym (read g (goal.at.returns-then-is_zero_wide-clause-none g c).After-index) ∙ is_none (g.W.Weight.wide_value c.index.result.now) (sym c.if-is_zero_wide.true ∙ c.is_zero_wide.ensures) in
    no_paths g.W.Weight.KIND graph (dist_in g.W.Weight.wide_value c.args.dist.now.items) h.exact h.firm c.in-Some.start (sym c.in-Some.ensures.value) n none

pub returns-clause-some : goal.returns-clause-some
returns-clause-some g c = (
  sym c.in-Some.ensures.value,
  c.in-Some.ensures.state,
  λ none. is_some (g.W.Weight.wide_value c.index.result.now) (sym c.if-is_zero_wide.false ∙ c.is_zero_wide.ensures) (read g (goal.at.returns-clause-some g c).After-index ∙ none),
)
