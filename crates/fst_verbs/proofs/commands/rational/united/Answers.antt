use Rattle.std.proofs.Common.{[], ◌∷◌, Ok, Err, refl}
use Rattle.fst_machine.specs.Machine.{valued}
use Rattle.fst_rational.specs.Constructions.{union_of}
use Rattle.fst_verbs.specs.Meaning.{machine}
use Rattle.fst_verbs.specs.Rational.{union_meaning}
use Rattle.fst_verbs.proofs.Settled.{settled}
use Rattle.fst_verbs.proofs.Sizes.{large_declines, small_passes}
use Rattle.fst_verbs.proofs.commands.rational.united.Goals as goal

pub returns-in-Ok : goal.returns-in-Ok
returns-in-Ok g c =
    let kind = g.W.Weight.KIND in
    let value = g.W.Weight.value in
    settled union_meaning kind value c.args.given (c.two-first.result.0 ∷ c.two-first.result.1 ∷ []) (Ok (machine kind (valued value c.in-Ok.made))) c.two-first.ensures
    (small_passes (union_of kind (valued value c.two-first.result.0) (valued value c.two-first.result.1)) c.in-Ok.made c.in-Ok.ensures.limits, (refl, (c.in-Ok.ensures.machine, c.in-Ok.ensures.relation)))

pub returns-in-Err : goal.returns-in-Err
returns-in-Err g c =
    let kind = g.W.Weight.KIND in
    let value = g.W.Weight.value in
    settled union_meaning kind value c.args.given (c.two-first.result.0 ∷ c.two-first.result.1 ∷ []) (Err c.too_large.result) c.two-first.ensures
    (large_declines _ (union_of kind (valued value c.two-first.result.0) (valued value c.two-first.result.1)) c.in-Err.fault c.too_large.result c.in-Err.ensures.limits c.too_large.ensures.made c.too_large.ensures.memory)
