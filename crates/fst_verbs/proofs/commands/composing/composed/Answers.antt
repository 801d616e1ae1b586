use Rattle.std.proofs.Common.{[], ◌∷◌, Ok, Err, refl}
use Rattle.fst_machine.specs.Machine.{valued}
use Rattle.fst_verbs.specs.Composing.{compose_meaning, state_limit}
use Rattle.fst_verbs.specs.Meaning.{machine}
use Rattle.fst_verbs.proofs.Composed.{composed-left, composed_passes, uncomposed_declines}
use Rattle.fst_verbs.proofs.Settled.{settled}
use Rattle.fst_verbs.proofs.commands.composing.composed.Goals as goal

pub returns-in-Err : goal.returns-in-Err
returns-in-Err g c =
    let kind = g.W.Weight.KIND in
    let value = g.W.Weight.value in
    let a = c.two-first.result.0 in
    let b = c.two-first.result.1 in
    settled (compose_meaning c.args.options.now) kind value c.args.given (a ∷ b ∷ []) (Err c.uncomposed.result) c.two-first.ensures
    (uncomposed_declines _ kind (valued value a) (valued value b) c.limit_of.result (state_limit c.args.options.now) c.in-Err.fault c.uncomposed.result c.limit_of.ensures.value c.in-Err.ensures.exact c.uncomposed.ensures.made c.uncomposed.ensures.memory)

pub returns : goal.returns
returns g c =
    let kind = g.W.Weight.KIND in
    let value = g.W.Weight.value in
    let o = c.args.options.now in
    let a = c.two-first.result.0 in
    let b = c.two-first.result.1 in
    let made = c.in_ok-left_of.field-0 in
    settled (compose_meaning o) kind value c.args.given (a ∷ b ∷ []) (Ok (machine kind (valued value made))) c.two-first.ensures (
      composed_passes kind (valued value a) (valued value b) c.limit_of.result (state_limit o) c.in-Ok.made c.limit_of.ensures.value c.in-Ok.ensures.exact,
      (refl, composed-left o kind (valued value a) (valued value b) (valued value c.in-Ok.made.fst) (valued value made) c.in-Ok.made.names c.in-Ok.ensures.made c.in-Ok.ensures.composes c.in_ok-left_of.ensures.left),
    )
