use Rattle.std.proofs.Common.{[], ◌∷◌, Ok, Err, refl, sym, ◌∙◌}
use Rattle.fst_machine.specs.Machine.{valued}
use Rattle.fst_verbs.specs.Meaning.{machine}
use Rattle.fst_verbs.specs.Removing.{rmepsilon_meaning}
use Rattle.fst_verbs.proofs.Removed.{removed-connected, removed-whole, unremoved_declines}
use Rattle.fst_verbs.proofs.Settled.{settled}
use Rattle.fst_verbs.proofs.commands.removing.removed.Goals as goal

pub returns-in-Err : goal.returns-in-Err
returns-in-Err g c =
    let kind = g.W.Weight.KIND in
    let value = g.W.Weight.value in
    let m = c.one-machine.result in
    settled (rmepsilon_meaning c.args.options.now) kind value c.args.given (m ∷ []) (Err c.unremoved.result) c.one-machine.ensures
    (unremoved_declines kind (valued value m) c.in-Err.fault c.unremoved.result c.in-Err.ensures.cause c.unremoved.ensures.made c.unremoved.ensures.memory)

pub returns-then-is_connected : goal.returns-then-is_connected
returns-then-is_connected g c =
    let kind = g.W.Weight.KIND in
    let value = g.W.Weight.value in
    let o = c.args.options.now in
    let m = c.one-machine.result in
    let whole = valued value c.in-Ok.whole in
    let made = valued value c.in_ok-into_connected.field-0 in
    settled (rmepsilon_meaning o) kind value c.args.given (m ∷ []) (Ok (machine kind made)) c.one-machine.ensures (
      (λ fault stops. c.in-Ok.ensures.passes stops.0 stops.1),
      (refl, removed-connected o kind (valued value m) whole made (sym c.is_connected.ensures ∙ c.if-is_connected.true) c.in-Ok.ensures.removed c.in-Ok.ensures.keeps c.in_ok-into_connected.ensures.machine),
    )

pub returns : goal.returns
returns g c =
    let kind = g.W.Weight.KIND in
    let value = g.W.Weight.value in
    let o = c.args.options.now in
    let m = c.one-machine.result in
    let whole = valued value c.in-Ok.whole in
    settled (rmepsilon_meaning o) kind value c.args.given (m ∷ []) (Ok (machine kind whole)) c.one-machine.ensures (
      (λ fault stops. c.in-Ok.ensures.passes stops.0 stops.1),
      (refl, removed-whole o kind (valued value m) whole (sym c.is_connected.ensures ∙ c.if-is_connected.false) c.in-Ok.ensures.removed c.in-Ok.ensures.keeps),
    )
