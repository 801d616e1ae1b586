use Rattle.std.proofs.Common.{ℕ, Bool, List, ◌≡◌, false, get_or, sym, subst, ap, ◌∙◌}
use Rattle.std.specs.Bool.{Decides}
use Rattle.fst_machine.specs.Machine.{Machine, valued}
use Rattle.fst_machine.specs.Graph.{graph_of}
use Rattle.fst_machine.specs.Cycles.{IsUseful}
use Rattle.fst_machine.proofs.Connected.{connected-Rel}
use Rattle.fst_trim.specs.KeptPaths.{IsConnectedOn}
use Rattle.fst_machine.specs.Renumbered.{marked}
use Rattle.fst_trim.specs.Handed.{machine_of}
use Rattle.fst_trim.proofs.KeptPaths.{connected_on_keeps}
use Rattle.fst_trim.proofs.connected.connect_kept.Goals as goal

pub trim_marked-requires-clause-useful : goal.trim_marked-requires-clause-useful
trim_marked-requires-clause-useful g c =
    let marks = subst (λ (m : Machine g.row.W.Denot). (p : ℕ) → Decides (get_or c.in_ok-marks.marks.items p false) (IsUseful (graph_of (valued g.W.Weight.value m)) p)) c.fst-2.ensures c.in_ok-marks.ensures.marks in
    subst (λ (ms : List Bool). (p : ℕ) → Decides (get_or ms p false) (IsUseful (graph_of (valued g.W.Weight.value (machine_of c.args.a))) p)) (sym c.as_slice.ensures.value) marks

pub returns-clause-machine : goal.returns-clause-machine
returns-clause-machine g c =
    let same : marked 0 c.as_slice.result.now ≡ c.in_ok-kept.kept.items = ap (marked 0) (c.as_slice.ensures.value ∙ sym c.as_slice-2.ensures.value) ∙ sym c.in_ok-kept.ensures in
    subst (λ (kept : List ℕ). IsConnectedOn (valued g.W.Weight.value (machine_of c.args.a)) (valued g.W.Weight.value (machine_of c.in_ok-machine.machine)) kept) same c.in_ok-machine.ensures

pub returns-clause-paths : goal.returns-clause-paths
returns-clause-paths g c = connected_on_keeps (valued g.W.Weight.value (machine_of c.args.a)) (valued g.W.Weight.value (machine_of c.in_ok-machine.machine)) c.in_ok-kept.kept.items g.W.Weight.KIND (returns-clause-machine g c)

pub returns-clause-relation : goal.returns-clause-relation
returns-clause-relation g c x y w = connected-Rel (valued g.W.Weight.value (machine_of c.args.a)) (valued g.W.Weight.value (machine_of c.in_ok-machine.machine)) (returns-clause-machine g c).0 g.W.Weight.KIND x y w
