use Rattle.std.proofs.Common.{codes, ap, ◌∙◌, sym, subst}
use Rattle.fst_fields.specs.Reading as reading
use Rattle.fst_semiring.specs.declared.arc_type.ArcType.{ArcType}
use Rattle.fst_text.specs.Faults.{line_of, reason_of}
use Rattle.fst_text.specs.Options.{Options}
use Rattle.fst_text.specs.declared.fault.TextFault.TheVariants.{Memory}
use Rattle.fst_any.specs.Typed.{typed_machine_of_text}
use Rattle.fst_verbs.specs.Causes.{misread}
use Rattle.fst_verbs.specs.Given.{arc_type_of, choices_by, telling, text_in}
use Rattle.fst_verbs.specs.Seeing.{input_names, output_names}
use Rattle.fst_verbs.proofs.Refusing.{fails_read}
use Rattle.fst_command.proofs.reading.read_text.Goals as goal

pub returns-in-Ok : goal.returns-in-Ok
unfolding text_in
returns-in-Ok c =
    let held = c.args.held.now in
    let o = c.args.options.now in
    let content = c.args.content.now in
    ap (telling (λ fault. misread c.args.name.now (codes "line") (line_of fault) (reason_of fault)))
    (ap (λ (k : ArcType). typed_machine_of_text k (choices_by o (input_names held.tables) (output_names held.tables)) content) (sym c.arc_type_of-kind.ensures)
    ∙ ap (λ (x : Options). typed_machine_of_text c.arc_type_of-kind.result x content) (sym c.choices-choices.ensures)
    ∙ c.in-Ok.ensures)

pub returns-in-Err : goal.returns-in-Err
unfolding text_in
returns-in-Err c =
    let held = c.args.held.now in
    let o = c.args.options.now in
    let content = c.args.content.now in
    let fails = subst (λ (k : ArcType). reading.Fails Memory c.in-Err.fault (typed_machine_of_text k (choices_by o (input_names held.tables) (output_names held.tables)) content)) c.arc_type_of-kind.ensures
    (subst (λ (x : Options). reading.Fails Memory c.in-Err.fault (typed_machine_of_text c.arc_type_of-kind.result x content)) c.choices-choices.ensures c.in-Err.ensures) in
    fails_read (λ fault. misread c.args.name.now (codes "line") (line_of fault) (reason_of fault)) Memory c.in-Err.fault (typed_machine_of_text (arc_type_of o) (choices_by o (input_names held.tables) (output_names held.tables)) content) c.not_text.result fails c.not_text.ensures.made c.not_text.ensures.memory
