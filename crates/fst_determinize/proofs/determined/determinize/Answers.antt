use Rattle.fst_machine.specs.Graph.{graph_of}
use Rattle.fst_machine.specs.Machine.{valued}
use Rattle.fst_determinize.proofs.Answering.{acceptor_graph, ok_then, ok_two}
use Rattle.fst_determinize.proofs.Theorem.{are_subsets, determinized}
use Rattle.fst_determinize.proofs.determined.determinize.Goals as goal

pub returns-in-Ok-clause-subsets : goal.returns-in-Ok-clause-subsets
returns-in-Ok-clause-subsets g c =
    let graph = graph_of (valued g.W.Weight.value c.args.fst.now) in
    ok_then c.in-Ok.made _ _ (λ d named. are_subsets g.W.Weight.KIND graph c.weigh.ensures.weighted d.subsets named.listed) c.in-Ok.ensures.made

pub returns-in-Ok-clause-determinizes : goal.returns-in-Ok-clause-determinizes
returns-in-Ok-clause-determinizes g c =
    let graph = graph_of (valued g.W.Weight.value c.args.fst.now) in
    ok_two c.in-Ok.made _ _ _ (λ d named same. determinized g.W.Weight.KIND graph c.weigh.ensures.weighted d.subsets (valued g.W.Weight.value d.fst) named.numbered (acceptor_graph g.W.Weight.value c.args.fst.now same)) c.in-Ok.ensures.made c.in-Ok.ensures.acceptor
