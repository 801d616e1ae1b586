use Rattle.std.proofs.Common.{ℕ, Bool, List, false, get_or, sym, subst}
use Rattle.std.specs.Bool.{Decides}
use Rattle.fst_machine.specs.Machine.{valued}
use Rattle.fst_machine.specs.Graph.{graph_of}
use Rattle.fst_machine.specs.Cycles.{IsUseful}
use Rattle.fst_machine.proofs.Connected.{connected-Rel}
use Rattle.fst_trim.proofs.KeptPaths.{connected_keeps}
use Rattle.fst_trim.proofs.connected.connect.Goals as goal

pub connect_marked-requires-clause-useful : goal.connect_marked-requires-clause-useful
connect_marked-requires-clause-useful g c =
    subst (λ (ms : List Bool). (p : ℕ) → Decides (get_or ms p false) (IsUseful (graph_of (valued g.W.Weight.value c.args.a.now)) p)) (sym c.as_slice.ensures.value) c.in_ok-marks.ensures.marks

pub returns-clause-machine : goal.returns-clause-machine
returns-clause-machine g c = c.in_ok-connected.ensures.0

pub returns-clause-paths : goal.returns-clause-paths
returns-clause-paths g c h = connected_keeps (valued g.W.Weight.value c.args.a.now) (valued g.W.Weight.value c.in_ok-connected.connected) h g.W.Weight.KIND

pub returns-clause-relation : goal.returns-clause-relation
returns-clause-relation g c x y w = connected-Rel (valued g.W.Weight.value c.args.a.now) (valued g.W.Weight.value c.in_ok-connected.connected) c.in_ok-connected.ensures.0 g.W.Weight.KIND x y w
