use Rattle.std.proofs.Common.{[], ◌∷◌, Ok, Err, refl, sym}
use Rattle.fst_machine.specs.Machine.{valued}
use Rattle.fst_verbs.specs.Causes.{unmade}
use Rattle.fst_verbs.specs.Meaning.{machine}
use Rattle.fst_verbs.specs.Pruning.{prune_meaning, prune_text, threshold_of}
use Rattle.fst_verbs.specs.declared.commands.pruning.Unpruned.TheVariants.{BadThreshold, ImprovingCycle}
use Rattle.fst_verbs.proofs.DecidingPruning.{listed, pruned_passes, unpruned}
use Rattle.fst_verbs.proofs.Refusing.{declines_made}
use Rattle.fst_verbs.proofs.Settled.{settled}
use Rattle.fst_verbs.proofs.commands.pruning.pruned.Goals as goal

pub returns-in_default : goal.returns-in_default
returns-in_default g c =
    let kind = g.W.Weight.KIND in
    let value = g.W.Weight.value in
    settled (prune_meaning c.args.options.now) kind value c.args.given (c.one-machine.result ∷ []) (Err c.unmade.result) c.one-machine.ensures
    (declines_made _ (unmade (prune_text BadThreshold)) c.unmade.result (BadThreshold, sym c.in_default.ensures, refl) (c.unmade.ensures (prune_text BadThreshold) refl))

pub returns-in-Ok : goal.returns-in-Ok
returns-in-Ok g c =
    let kind = g.W.Weight.KIND in
    let value = g.W.Weight.value in
    let o = c.args.options.now in
    let m = c.one-machine.result in
    let made = c.in-Ok.made in
    settled (prune_meaning o) kind value c.args.given (m ∷ []) (Ok (machine kind (valued value made))) c.one-machine.ensures (
      (λ fault stops. pruned_passes (threshold_of kind o.weight) kind (valued value m) (value c.in-Some.threshold) (sym c.in-Some.ensures) c.in-Ok.ensures.none stops.0 stops.1),
      (refl, record { factor = value c.in-Some.threshold; stands = sym c.in-Some.ensures; pruned = c.in-Ok.ensures.pruned; laws = c.in-Ok.ensures.keeps c.in-Ok.ensures.pruned }),
    )

pub returns-in-Err-ImprovingCycle : goal.returns-in-Err-ImprovingCycle
returns-in-Err-ImprovingCycle g c =
    let kind = g.W.Weight.KIND in
    let value = g.W.Weight.value in
    let o = c.args.options.now in
    let m = c.one-machine.result in
    let cycle = listed c.in-Err-ImprovingCycle.field-0 c.in-Err-ImprovingCycle.field-0-0 _ c.in-Err-ImprovingCycle.field-0-is c.in-Err-ImprovingCycle.ensures.cycle in
    settled (prune_meaning o) kind value c.args.given (m ∷ []) (Err c.unmade-in-Err-ImprovingCycle.result) c.one-machine.ensures
    (declines_made _ (unmade (prune_text ImprovingCycle)) c.unmade-in-Err-ImprovingCycle.result (ImprovingCycle, unpruned (threshold_of kind o.weight) kind (valued value m) (value c.in-Some.threshold) (sym c.in-Some.ensures) _ cycle, refl) (c.unmade-in-Err-ImprovingCycle.ensures (prune_text ImprovingCycle) refl))
