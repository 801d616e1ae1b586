use Rattle.std.proofs.Common.{[], ◌∷◌, Ok, Err, refl, sym, ◌∙◌}
use Rattle.fst_machine.specs.Machine.{valued}
use Rattle.fst_minimize.specs.Faults.{minimize_text}
use Rattle.fst_minimize.specs.declared.fault.MinimizeFault.TheVariants.{Memory}
use Rattle.fst_verbs.specs.Causes.{unmade}
use Rattle.fst_verbs.specs.Meaning.{machine}
use Rattle.fst_verbs.specs.Minimizing.{IsUnminimized, minimize_meaning}
use Rattle.fst_verbs.proofs.Exactly.{exact_declines}
use Rattle.fst_verbs.proofs.Minimized.{acceptor_values, deterministic_values, minimized_passes, unminimized_values}
use Rattle.fst_verbs.proofs.Settled.{settled}
use Rattle.fst_verbs.proofs.commands.minimizing.minimized.Goals as goal

pub returns-in-Ok : goal.returns-in-Ok
returns-in-Ok g c =
    let kind = g.W.Weight.KIND in
    let value = g.W.Weight.value in
    let m = c.one-machine.result in
    let made = c.in-Ok.made in
    settled minimize_meaning kind value c.args.given (m ∷ []) (Ok (machine kind (valued value made))) c.one-machine.ensures (
      (λ fault stops. minimized_passes kind (valued value m) (valued value made) c.in-Ok.ensures.machine c.in-Ok.ensures.range (acceptor_values kind value m c.in-Ok.ensures.acceptor) (deterministic_values kind value m c.in-Ok.ensures.deterministic) c.in-Ok.ensures.none stops.0 stops.1),
      (refl, record { minimized = c.in-Ok.ensures.machine; words = c.in-Ok.ensures.words; minimal = λ cancel. c.in-Ok.ensures.minimal (g.met.W.Weight.cancels_by_kind ∙ cancel) }),
    )

pub returns : goal.returns
returns g c =
    let kind = g.W.Weight.KIND in
    let value = g.W.Weight.value in
    let m = c.one-machine.result in
    settled minimize_meaning kind value c.args.given (m ∷ []) (Err c.unminimized.result) c.one-machine.ensures
    (exact_declines (IsUnminimized kind (valued value m)) (IsUnminimized kind (valued value m)) Memory (λ why. unmade (minimize_text why)) c.in-Err.fault c.unminimized.result
    (λ why h. h) (unminimized_values kind value m c.in-Err.fault c.in-Err.ensures.fault) c.unminimized.ensures.made c.unminimized.ensures.memory)
