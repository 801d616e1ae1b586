use Rattle.std.proofs.Common.{ℕ, Bool, List, false, length, get_or, sym, subst}
use Rattle.std.specs.Bool.{Decides}
use Rattle.fst_machine.specs.Machine.{valued}
use Rattle.fst_machine.specs.Graph.{graph_of}
use Rattle.fst_machine.specs.Cycles.{IsUseful}
use Rattle.fst_trim.proofs.Backward.{accessible_marks}
use Rattle.fst_trim.proofs.connected.connect_walked.Goals as goal

pub retain_useful-requires-clause-useful : goal.retain_useful-requires-clause-useful
retain_useful-requires-clause-useful g c =
    subst (λ (ms : List Bool). (p : ℕ) → Decides (get_or ms p false) (IsUseful (graph_of (valued g.W.Weight.value c.args.a)) p)) (sym c.as_slice.ensures.value) (λ p. accessible_marks (graph_of (valued g.W.Weight.value c.args.a)) (length c.args.a.states) c.in_ok-marks.marks.items c.in_ok-marks.ensures.size c.requires.accessible c.in_ok-marks.ensures.marks p)
