use Rattle.fst_machine.specs.Machine.{valued}
use Rattle.fst_machine.proofs.Connected.{connected-Rel}
use Rattle.fst_trim.proofs.KeptPaths.{connected_keeps}
use Rattle.fst_trim.proofs.WholeMachine.{whole_connected}
use Rattle.fst_trim.proofs.connected.retain_useful.Goals as goal

pub returns-then-all_marked-clause-machine : goal.returns-then-all_marked-clause-machine
returns-then-all_marked-clause-machine g c =
    (whole_connected g.W.Weight.value c.args.a c.args.marks.now c.states-states.ensures.machine c.requires.size c.requires.useful (c.all_marked.ensures.0 c.if-all_marked.true)).0

pub returns-then-all_marked-clause-paths : goal.returns-then-all_marked-clause-paths
returns-then-all_marked-clause-paths g c h = connected_keeps (valued g.W.Weight.value c.args.a) (valued g.W.Weight.value c.args.a) h g.W.Weight.KIND

pub returns-clause-machine : goal.returns-clause-machine
returns-clause-machine g c = c.in_ok-connected.ensures.0

pub returns-clause-paths : goal.returns-clause-paths
returns-clause-paths g c h = connected_keeps (valued g.W.Weight.value c.args.a) (valued g.W.Weight.value c.in_ok-connected.connected) h g.W.Weight.KIND

pub returns-clause-relation : goal.returns-clause-relation
returns-clause-relation g c x y w = connected-Rel (valued g.W.Weight.value c.args.a) (valued g.W.Weight.value c.in_ok-connected.connected) c.in_ok-connected.ensures.0 g.W.Weight.KIND x y w
