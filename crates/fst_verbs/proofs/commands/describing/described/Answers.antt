use Rattle.std.proofs.Common.{[], ◌∷◌, Ok, ap}
use Rattle.fst_trim.proofs.Valued.{IsInfo-valued}
use Rattle.fst_verbs.specs.Describing.{info_meaning}
use Rattle.fst_verbs.specs.Meaning.{text}
use Rattle.fst_verbs.proofs.Settled.{settled}
use Rattle.fst_verbs.proofs.commands.describing.described.Goals as goal

pub returns : goal.returns
returns g c =
    let kind = g.W.Weight.KIND in
    let value = g.W.Weight.value in
    settled info_meaning kind value c.args.given (c.one-machine.result ∷ []) (Ok (text c.in_ok-text_of.field-0.items)) c.one-machine.ensures
    ((λ fault stops. stops), (c.in_ok-summary.summary, IsInfo-valued kind value c.one-machine.result c.in_ok-summary.summary c.in_ok-summary.ensures, ap text c.in_ok-text_of.ensures))
