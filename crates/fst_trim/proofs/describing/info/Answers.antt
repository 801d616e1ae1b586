use Rattle.std.proofs.Common.{List, Bool, false, get_or, sym, subst}
use Rattle.std.specs.Bool.{Decides}
use Rattle.fst_machine.specs.Machine.{valued}
use Rattle.fst_machine.specs.Graph.{graph_of}
use Rattle.fst_machine.specs.Cycles.{IsAccessible, IsCoaccessible, IsUseful}
use Rattle.fst_trim.proofs.Marking.{marks_count}
use Rattle.fst_trim.proofs.Backward.{both_marks}
use Rattle.fst_trim.proofs.describing.info.Goals as goal

pub returns : goal.returns
returns g c =
    let graph = graph_of (valued g.W.Weight.value c.args.a.now) in
    let one = c.in_ok-marks.marks.items in
    let two = c.in_ok-others.others.items in
    let both = c.keep_both.new.marks.items in
    record {
      arc_type = c.KIND.ensures;
      states = c.states-states.ensures.value;
      arcs = c.arc_count.ensures;
      start = c.start.ensures.value;
      final_states = c.in_ok-final_states.ensures;
      input_epsilons = c.count_epsilons-epsilons.ensures.input;
      output_epsilons = c.count_epsilons-epsilons.ensures.output;
      both_epsilons = c.count_epsilons-epsilons.ensures.both;
      accessible = marks_count (IsAccessible graph) one c.as_slice.result.now c.count_marks-accessible.result c.as_slice.ensures.value c.in_ok-marks.ensures.marks c.count_marks-accessible.ensures;
      coaccessible = marks_count (IsCoaccessible graph) two c.as_slice-2.result.now c.count_marks-coaccessible.result c.as_slice-2.ensures.value c.in_ok-others.ensures.marks c.count_marks-coaccessible.ensures;
      connected = marks_count (IsUseful graph) both c.as_slice-4.result.now c.count_marks-connected.result c.as_slice-4.ensures.value (λ p. both_marks graph p (get_or one p false) (get_or c.as_slice-3.result.now p false) (get_or both p false) (c.in_ok-marks.ensures.marks p) (subst (λ (ms : List Bool). Decides (get_or ms p false) (IsCoaccessible graph p)) (sym c.as_slice-3.ensures.value) (c.in_ok-others.ensures.marks p)) (c.keep_both.ensures.marks p)) c.count_marks-connected.ensures;
      acceptor = c.is_acceptor.ensures;
      input_sorted = c.is_sorted.ensures;
      output_sorted = c.is_sorted-2.ensures;
      deterministic = c.is_deterministic.ensures;
    }
