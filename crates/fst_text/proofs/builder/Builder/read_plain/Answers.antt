use Rattle.std.proofs.Common.{◌∷◌, ◌++◌, sym, subst, ap, ◌∙◌}
use Rattle.fst_fields.specs.Texts.{IsRead}
use Rattle.fst_text.specs.Building.{built, room_of, said}
use Rattle.fst_text.specs.FirstLine.{listed}
use Rattle.fst_text.specs.Options.{Options}
use Rattle.fst_text.proofs.Plain.{arc-fields}
use Rattle.fst_text.proofs.builder.Builder.read_plain.Goals as goal

pub returns-clause-read : goal.returns-clause-read
returns-clause-read g c =
    let options = c.args.options.now in
    let room = room_of options.keep_state_numbering (built g.W.Weight.value c.args.self.now) in
    let source = c.in_ok-source.source in
    let dest = c.in_ok-dest.dest in
    let ilabel = c.in_ok-ilabel.ilabel in
    let olabel = c.in_ok-olabel.olabel in
    let weight = c.in_ok-weight.weight in
    let rest = c.in_ok-weight.rest.now in
    let own = c.in_ok-olabel.ensures.own ∙ ap (λ (o : Options). o.acceptor) c.options.view_is in
    let behind_label = c.in_ok-olabel.ensures.field (listed weight) rest c.in_ok-weight.ensures.field in
    let behind_dest = c.in_ok-ilabel.ensures.field (listed olabel ++ listed weight) rest behind_label in
    let behind_source = c.in_ok-dest.ensures.field (ilabel ∷ listed olabel ++ listed weight) rest behind_dest in
    let fields = arc-fields g.W.Weight.KIND options c.args.line room source dest ilabel olabel weight own in (
      source,
      dest ∷ ilabel ∷ listed olabel ++ listed weight,
      c.in_ok-source.ensures.field (dest ∷ ilabel ∷ listed olabel ++ listed weight) rest behind_source,
      subst (λ e. IsRead (said g.W.Weight.value) c.read_arc-read.result e) (sym fields) c.read_arc-read.ensures.read,
    )
