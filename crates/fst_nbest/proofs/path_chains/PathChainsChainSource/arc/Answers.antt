use Rattle.std.proofs.Common.{ℕ, map, sym, ap, ◌∙◌}
use Rattle.fst_machine.specs.Letters.{letter_of}
use Rattle.fst_machine.specs.Machine.{Arc, valued}
use Rattle.fst_machine.specs.Graph.{graph_of}
use Rattle.fst_machine.specs.Steps.{written}
use Rattle.fst_nbest.specs.Chains.{Chain, letter_at}
use Rattle.fst_nbest.proofs.PathChains.{all_steps, chain_seen, letter_there, path_low, path_there, step_low, step_there}
use Rattle.fst_nbest.proofs.path_chains.PathChainsChainSource.arc.Goals as goal

pub item-requires : goal.item-requires
item-requires g c = path_low (graph_of (valued g.W.Weight.value c.self.inside.fst.now)) c.self.inside.paths.now c.args.self.now c.args.chain c.self.view_is c.requires.chain

pub item-requires-2 : goal.item-requires-2
item-requires-2 g c =
    step_low (graph_of (valued g.W.Weight.value c.self.inside.fst.now)) c.self.inside.paths.now c.args.self.now c.args.chain c.args.place c.item.result.now c.self.view_is c.item.ensures c.requires.place

pub step_arc-requires : goal.step_arc-requires
step_arc-requires g c =
    let graph = graph_of (valued g.W.Weight.value c.self.inside.fst.now) in
    let paths = c.self.inside.paths.now in
    step_there graph c.item.result.now c.args.place c.item-2.result.now (path_there graph paths c.args.chain c.item.result.now (all_steps graph (map written paths) c.self.invariant) c.item.ensures) c.item-2.ensures

pub returns : goal.returns
returns g c =
    let graph = graph_of (valued g.W.Weight.value c.self.inside.fst.now) in
    let path = c.item.result.now in
    ap (λ (a : Arc _ ℕ). letter_of a) c.step_arc.ensures.value ∙ (sym (letter_there graph path c.args.place c.item-2.result.now c.item-2.ensures)
    ∙ ap (λ (d : Chain). letter_at d.letters c.args.place) (chain_seen graph c.self.inside.paths.now c.args.self.now c.args.chain path c.self.view_is c.item.ensures))
