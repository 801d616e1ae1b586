use Rattle.std.proofs.Common.{[], ◌∷◌, Ok, refl}
use Rattle.fst_machine.specs.Machine.{valued}
use Rattle.fst_verbs.specs.Meaning.{machine}
use Rattle.fst_verbs.specs.Trimming.{arcsort_meaning}
use Rattle.fst_verbs.proofs.Settled.{settled}
use Rattle.fst_verbs.proofs.Sorted.{sorts}
use Rattle.fst_verbs.proofs.commands.trimming.sorted.Goals as goal

pub returns : goal.returns
returns g c =
    let kind = g.W.Weight.KIND in
    let value = g.W.Weight.value in
    let made = c.in_ok-into_arcsorted.field-0 in
    settled (arcsort_meaning c.args.options.now) kind value c.args.given (c.one-machine.result ∷ []) (Ok (machine kind (valued value made))) c.one-machine.ensures
    ((λ fault stops. stops), (refl, sorts value kind c.side-side.result c.args.options.now.sort_type c.one-machine.result made c.side-side.ensures c.in_ok-into_arcsorted.ensures.machine c.in_ok-into_arcsorted.ensures.paths c.in_ok-into_arcsorted.ensures.relation))
