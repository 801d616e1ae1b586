use Rattle.std.proofs.Common.{◌≡◌, length, arith}
use Rattle.std.proofs.lemmas.List.{length-map}
use Rattle.fst_machine.specs.Graph.{graph_of}
use Rattle.fst_machine.specs.Machine.{valued, valued_state}
use Rattle.fst_walk.proofs.Numbered.{named_accessible}
use Rattle.fst_compose.specs.Composition.{composition}
use Rattle.fst_compose.proofs.Answering.{ok_then}
use Rattle.fst_compose.proofs.Through.{composition_of}
use Rattle.fst_compose.proofs.composing.compose.Goals as goal

pub returns-in-Ok-clause-composes : goal.returns-in-Ok-clause-composes
returns-in-Ok-clause-composes g c =
    let value = g.W.Weight.value in
    let kind = g.W.Weight.KIND in
    ok_then c.in-Ok.made _ _ (λ x made. composition_of kind (graph_of (valued value c.args.a.now)) (graph_of (valued value c.args.b.now)) x.names (valued value x.fst) made.numbered) c.in-Ok.ensures.made

pub returns-in-Ok-clause-accessible : goal.returns-in-Ok-clause-accessible
returns-in-Ok-clause-accessible g c =
    let value = g.W.Weight.value in
    let graph = composition g.W.Weight.KIND value c.args.a.now c.args.b.now in
    ok_then c.in-Ok.made _ _ (λ x named p low. named_accessible graph x.names (valued value x.fst) named p (let size : length (valued value x.fst).states ≡ length x.fst.states = length-map x.fst.states (valued_state value) in omega (arith, size, low))) c.in-Ok.ensures.made
