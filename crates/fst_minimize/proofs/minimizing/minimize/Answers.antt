use Rattle.std.proofs.Common.{refl, sym, ◌∙◌, subst}
use Rattle.fst_machine.specs.Machine.{Machine, valued}
use Rattle.fst_machine.specs.Graph.{graph_of}
use Rattle.fst_semiring.specs.Cost.{Cost}
use Rattle.fst_machine.proofs.Valued.{IsMachine-valued}
use Rattle.fst_distance.proofs.Picked.{machine_some}
use Rattle.fst_minimize.specs.Classes.{class_machine}
use Rattle.fst_machine.specs.Narrowing.{IsCause}
use Rattle.fst_minimize.specs.Laws.{totalled}
use Rattle.fst_trim.specs.WordWeights.{SameWords}
use Rattle.fst_minimize.specs.Fewest.{IsMinimal}
use Rattle.fst_minimize.proofs.Made.{has_classes}
use Rattle.fst_minimize.proofs.Whole.{raw_acceptor, raw_once, normal, pushed_ready, pushed_minimal}
use Rattle.fst_minimize.proofs.SameWords.{same_words}
use Rattle.fst_minimize.proofs.minimizing.minimize.Goals as goal

pub number_classes-requires : goal.number_classes-requires
number_classes-requires g c =
    let w = g.W.Weight in
    let m = valued w.value c.args.fst.now in
    let some = machine_some m (IsMachine-valued w.value c.args.fst.now c.states-states.ensures.machine) in
    pushed_ready w.KIND m c.in-Ok.totalled.pushed (w.wide_value c.in-Ok.totalled.total) c.in-Ok.ensures.pushed some (raw_once w.value c.args.fst.now c.in-None-not_deterministic_at.ensures) (raw_acceptor w.value c.args.fst.now c.in-None.ensures)

pub returns-in-Ok-make-clause-machine : goal.returns-in-Ok-make-clause-machine
returns-in-Ok-make-clause-machine g c =
    let r = c.in-Ok.totalled.pushed in
    let numbers = c.in-Ok-number_classes.classes.numbers.items in
    let least = c.in-Ok-number_classes.classes.least.items in
    record {
      pushed = r;
      classes = class_machine r numbers least;
      total = g.W.Weight.wide_value c.in-Ok.totalled.total;
      pushes = c.in-Ok.ensures.pushed;
      has = has_classes r numbers least c.in-Ok-number_classes.ensures.tells c.in-Ok-number_classes.ensures.numbering;
      same = c.in-Ok-make.ensures.machine;
    }

pub returns-in-Ok-make-clause-minimal : goal.returns-in-Ok-make-clause-minimal
returns-in-Ok-make-clause-minimal g c = λ cancel.
    let w = g.W.Weight in
    let m = valued w.value c.args.fst.now in
    let r = c.in-Ok.totalled.pushed in
    let numbers = c.in-Ok-number_classes.classes.numbers.items in
    let least = c.in-Ok-number_classes.classes.least.items in
    let some = machine_some m (IsMachine-valued w.value c.args.fst.now c.states-states.ensures.machine) in
    let all = pushed_minimal w.KIND m r (w.wide_value c.in-Ok.totalled.total) c.in-Ok.ensures.pushed some (raw_once w.value c.args.fst.now c.in-None-not_deterministic_at.ensures) (raw_acceptor w.value c.args.fst.now c.in-None.ensures)
    c.in-Ok-number_classes.ensures.kind (sym g.met.W.Weight.cancels_by_kind ∙ cancel) (class_machine r numbers least) (has_classes r numbers least c.in-Ok-number_classes.ensures.tells c.in-Ok-number_classes.ensures.numbering) in
    subst (IsMinimal w.KIND) (sym c.in-Ok-make.ensures.machine) all

pub returns-in-Err-Overflow-clause-fault : goal.returns-in-Err-Overflow-clause-fault
returns-in-Err-Overflow-clause-fault g c =
    let r = c.in-Ok.totalled.pushed in
    let numbers = c.in-Ok-number_classes.classes.numbers.items in
    let least = c.in-Ok-number_classes.classes.least.items in (
      c.in-None.ensures,
      c.in-None-not_deterministic_at.ensures,
      c.in-Ok.ensures.none,
      record {
        machine = totalled g.W.Weight.KIND (g.W.Weight.wide_value c.in-Ok.totalled.total) (class_machine r numbers least);
        minimized = record {
          pushed = r;
          classes = class_machine r numbers least;
          total = g.W.Weight.wide_value c.in-Ok.totalled.total;
          pushes = c.in-Ok.ensures.pushed;
          has = has_classes r numbers least c.in-Ok-number_classes.ensures.tells c.in-Ok-number_classes.ensures.numbering;
          same = refl;
        };
        first = subst (IsCause (totalled g.W.Weight.KIND (g.W.Weight.wide_value c.in-Ok.totalled.total) (class_machine r numbers least))) c.in-Err-Overflow.field-0-is c.in-Err-Overflow.ensures.fault;
      },
    )

pub returns-in-Ok-make-clause-words : goal.returns-in-Ok-make-clause-words
returns-in-Ok-make-clause-words g c =
    let w = g.W.Weight in
    let m = valued w.value c.args.fst.now in
    let r = c.in-Ok.totalled.pushed in
    let total = w.wide_value c.in-Ok.totalled.total in
    let numbers = c.in-Ok-number_classes.classes.numbers.items in
    let least = c.in-Ok-number_classes.classes.least.items in
    let some = machine_some m (IsMachine-valued w.value c.args.fst.now c.states-states.ensures.machine) in
    let ready = normal w.KIND m r total c.in-Ok.ensures.pushed some (raw_once w.value c.args.fst.now c.in-None-not_deterministic_at.ensures) (raw_acceptor w.value c.args.fst.now c.in-None.ensures) c.in-Ok-number_classes.ensures.kind in
    let all = same_words w.KIND m r total c.in-Ok.ensures.pushed some (class_machine r numbers least) (has_classes r numbers least c.in-Ok-number_classes.ensures.tells c.in-Ok-number_classes.ensures.numbering) ready in
    subst (λ (n : Machine Cost). SameWords w.KIND (graph_of m) (graph_of n)) (sym c.in-Ok-make.ensures.machine) all
