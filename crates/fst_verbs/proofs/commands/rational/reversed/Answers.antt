use Rattle.std.proofs.Common.{[], ◌∷◌, Ok, Err, refl}
use Rattle.fst_machine.specs.Machine.{valued}
use Rattle.fst_rational.specs.Constructions.{reverse_of}
use Rattle.fst_verbs.specs.Meaning.{machine}
use Rattle.fst_verbs.specs.Rational.{reverse_meaning}
use Rattle.fst_verbs.proofs.Settled.{settled}
use Rattle.fst_verbs.proofs.Sizes.{large_declines, small_passes}
use Rattle.fst_verbs.proofs.commands.rational.reversed.Goals as goal

pub returns-in-Ok : goal.returns-in-Ok
returns-in-Ok g c =
    let kind = g.W.Weight.KIND in
    let value = g.W.Weight.value in
    settled reverse_meaning kind value c.args.given (c.one-machine.result ∷ []) (Ok (machine kind (valued value c.in-Ok.made))) c.one-machine.ensures
    (small_passes (reverse_of kind (valued value c.one-machine.result)) c.in-Ok.made c.in-Ok.ensures.limits, (refl, (c.in-Ok.ensures.machine, c.in-Ok.ensures.relation)))

pub returns : goal.returns
returns g c =
    let kind = g.W.Weight.KIND in
    let value = g.W.Weight.value in
    settled reverse_meaning kind value c.args.given (c.one-machine.result ∷ []) (Err c.too_large.result) c.one-machine.ensures
    (large_declines _ (reverse_of kind (valued value c.one-machine.result)) c.in-Err.fault c.too_large.result c.in-Err.ensures.limits c.too_large.ensures.made c.too_large.ensures.memory)
