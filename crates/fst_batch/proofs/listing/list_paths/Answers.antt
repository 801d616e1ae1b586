use Rattle.std.proofs.Common.{None, Some, map, refl, sym, ◌∙◌, subst}
use Rattle.fst_semiring.specs.Semiring.{InRange}
use Rattle.fst_machine.specs.Graph.{graph_of}
use Rattle.fst_machine.specs.Machine.{valued}
use Rattle.fst_machine.specs.Steps.{written}
use Rattle.fst_machine.proofs.Arcs.{at_mapped}
use Rattle.fst_machine.proofs.Elements.{at_Has}
use Rattle.fst_nbest.specs.Chains.{chain_of}
use Rattle.fst_nbest.proofs.PathChains.{path_there}
use Rattle.fst_batch.proofs.Texts.{none_known, own_told, range_more, some_known, told_more, wrong_now, wrong_stays}
use Rattle.fst_batch.proofs.Weighed.{starts_somewhere}
use Rattle.fst_batch.proofs.listing.list_paths.Goals as goal

pub path_weight-requires-clause-steps : goal.path_weight-requires-clause-steps
path_weight-requires-clause-steps g c = path_there (graph_of (valued g.W.Weight.wide_value c.args.fst.now)) c.args.paths.now c.loop-place.place c.item-path.result.now c.requires.steps c.item-path.ensures

pub put_text-requires : goal.put_text-requires
put_text-requires g c = record { steps = path_there (graph_of (valued g.W.Weight.wide_value c.args.fst.now)) c.args.paths.now c.loop-place.place c.item-path.result.now c.requires.steps c.item-path.ensures }

pub loop-place-preserved-then-is_some : goal.loop-place-preserved-then-is_some
loop-place-preserved-then-is_some g c =
    let kind = g.W.Weight.KIND in
    let graph = graph_of (valued g.W.Weight.wide_value c.args.fst.now) in
    let chains = map (chain_of graph) (map written c.args.paths.now) in
    let i = c.loop-place.place in
    let walk = written c.item-path.result.now in
    let weighs = rw c.in-Some.is at c.in_ok-weight.ensures in
    let at = at_mapped (chain_of graph) (map written c.args.paths.now) i walk (at_mapped written c.args.paths.now i c.item-path.result.now c.item-path.ensures) in
    let is = sym c.is_some.ensures ∙ c.if-is_some.true in
    record {
      range = range_more kind chains i (chain_of graph walk) at c.loop-place.invariant.range (subst InRange weighs.0 weighs.1);
      wrong = wrong_stays kind chains i (chain_of graph walk) at c.loop-place.wrong is c.loop-place.invariant.wrong;
      told = λ none. absurd (some_known c.loop-place.wrong is none);
    }

pub loop-place-preserved-in-Err : goal.loop-place-preserved-in-Err
loop-place-preserved-in-Err g c =
    let kind = g.W.Weight.KIND in
    let graph = graph_of (valued g.W.Weight.wide_value c.args.fst.now) in
    let chains = map (chain_of graph) (map written c.args.paths.now) in
    let i = c.loop-place.place in
    let walk = written c.item-path.result.now in
    let weighs = rw c.in-Some.is at c.in_ok-weight.ensures in
    let at = at_mapped (chain_of graph) (map written c.args.paths.now) i walk (at_mapped written c.args.paths.now i c.item-path.result.now c.item-path.ensures) in
    let before = none_known c.loop-place.wrong (sym c.is_some.ensures ∙ c.if-is_some.false) in
    record {
      range = range_more kind chains i (chain_of graph walk) at c.loop-place.invariant.range (subst InRange weighs.0 weighs.1);
      wrong = wrong_now kind chains i (chain_of graph walk) at (Some c.in-Err.label) (sym before ∙ c.loop-place.invariant.wrong) (rw c.in-Err.is at c.in_ok-label.ensures.label);
      told = λ none. absurd (starts_somewhere (Some c.in-Err.label) c.in-Err.label refl none);
    }

pub loop-place-preserved : goal.loop-place-preserved
loop-place-preserved g c =
    let kind = g.W.Weight.KIND in
    let value = g.W.Weight.value in
    let graph = graph_of (valued g.W.Weight.wide_value c.args.fst.now) in
    let chains = map (chain_of graph) (map written c.args.paths.now) in
    let i = c.loop-place.place in
    let walk = written c.item-path.result.now in
    let weighs = rw c.in-Some.is at c.in_ok-weight.ensures in
    let at = at_mapped (chain_of graph) (map written c.args.paths.now) i walk (at_mapped written c.args.paths.now i c.item-path.result.now c.item-path.ensures) in
    let before = none_known c.loop-place.wrong (sym c.is_some.ensures ∙ c.if-is_some.false) in
    let says = rw c.in_default-2.is at c.in_ok-label.ensures.text in
    let own = own_told kind value (chain_of graph walk) c.in-Some.weight c.new-text.result.items c.put_text.new.text.items weighs.0 c.new-text.ensures.items says.0 in
    record {
      range = range_more kind chains i (chain_of graph walk) at c.loop-place.invariant.range (subst InRange weighs.0 weighs.1);
      wrong = before ∙ wrong_now kind chains i (chain_of graph walk) at None (sym before ∙ c.loop-place.invariant.wrong) says.1;
      told = λ none. told_more kind chains i (chain_of graph walk) at value c.loop-place.answers c.push.new.self _ (c.loop-place.invariant.told none) c.in_ok-push.ensures.ok own;
    }

pub returns-in_default : goal.returns-in_default
returns-in_default g c =
    let graph = graph_of (valued g.W.Weight.wide_value c.args.fst.now) in
    let chains = map (chain_of graph) (map written c.args.paths.now) in
    let i = c.loop-place.place in
    let walk = written c.item-path.result.now in
    let at = at_mapped (chain_of graph) (map written c.args.paths.now) i walk (at_mapped written c.args.paths.now i c.item-path.result.now c.item-path.ensures) in
    (chain_of graph walk, at_Has chains i (chain_of graph walk) at, rw c.in_default.is at c.in_ok-weight.ensures)
