use Rattle.std.proofs.Common.{ℕ, false, get_or, sym, ap, subst}
use Rattle.std.specs.Bool.{Decides}
use Rattle.fst_machine.specs.Cycles.{IsUseful}
use Rattle.fst_machine.specs.Graph.{graph_of}
use Rattle.fst_machine.specs.Machine.{IsMachine, Machine, valued}
use Rattle.fst_trim.specs.KeptPaths.{IsConnectedOn}
use Rattle.fst_machine.specs.Renumbered.{marked}
use Rattle.fst_trim.specs.Handed.{machine_of}
use Rattle.fst_trim.proofs.WholeMachine.{whole_connected}
use Rattle.fst_trim.proofs.connected.trim_marked.Goals as goal

pub returns-then-all_marked : goal.returns-then-all_marked
returns-then-all_marked g c =
    let value = g.W.Weight.value in
    let machine = subst (λ (m : Machine g.row.W.Denot). IsMachine value m) c.fst.ensures c.states-states.ensures.machine in
    whole_connected value (machine_of c.args.a) c.args.marks.now machine c.requires.size c.requires.useful (c.all_marked.ensures.0 c.if-all_marked.true)

pub connect_marked-requires-clause-useful : goal.connect_marked-requires-clause-useful
connect_marked-requires-clause-useful g c =
    subst (λ (m : Machine g.row.W.Denot). (p : ℕ) → Decides (get_or c.args.marks.now p false) (IsUseful (graph_of (valued g.W.Weight.value m)) p)) (ap machine_of c.in-Lent.is) c.requires.useful

pub retain_marked-requires-clause-useful : goal.retain_marked-requires-clause-useful
retain_marked-requires-clause-useful g c =
    subst (λ (m : Machine g.row.W.Denot). (p : ℕ) → Decides (get_or c.args.marks.now p false) (IsUseful (graph_of (valued g.W.Weight.value m)) p)) (ap machine_of c.in-Own.is) c.requires.useful

pub returns-in_ok-own-in-Lent : goal.returns-in_ok-own-in-Lent
returns-in_ok-own-in-Lent g c =
    subst (λ (m : Machine g.row.W.Denot). IsConnectedOn (valued g.W.Weight.value m) (valued g.W.Weight.value c.in_ok-own-in-Lent.own) (marked 0 c.args.marks.now)) (sym (ap machine_of c.in-Lent.is)) c.in_ok-own-in-Lent.ensures

pub returns-in_ok-own-in-Own : goal.returns-in_ok-own-in-Own
returns-in_ok-own-in-Own g c =
    subst (λ (m : Machine g.row.W.Denot). IsConnectedOn (valued g.W.Weight.value m) (valued g.W.Weight.value c.in_ok-own-in-Own.own) (marked 0 c.args.marks.now)) (sym (ap machine_of c.in-Own.is)) c.in_ok-own-in-Own.ensures
