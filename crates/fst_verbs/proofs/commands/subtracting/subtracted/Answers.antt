use Rattle.std.proofs.Common.{ℕ, [], ◌∷◌, Ok, Err, refl, sym, subst}
use Rattle.fst_machine.specs.Machine.{valued}
use Rattle.fst_setops.specs.Answers.{RefusesDifference}
use Rattle.fst_setops.specs.Faults.{difference_text}
use Rattle.fst_setops.specs.declared.fault.DifferenceFault.TheVariants.{Memory}
use Rattle.fst_verbs.specs.Causes.{unmade}
use Rattle.fst_verbs.specs.Composing.{state_limit}
use Rattle.fst_verbs.specs.Subtracting.{difference_meaning}
use Rattle.fst_verbs.specs.Meaning.{machine}
use Rattle.fst_verbs.proofs.DecidingSubtracting.{is_difference}
use Rattle.fst_verbs.proofs.Exactly.{exact_declines, exact_passes}
use Rattle.fst_verbs.proofs.Settled.{settled}
use Rattle.fst_verbs.proofs.commands.subtracting.subtracted.Goals as goal

pub returns-in-Err : goal.returns-in-Err
returns-in-Err g c =
    let kind = g.W.Weight.KIND in
    let value = g.W.Weight.value in
    let o = c.args.options.now in
    let a = valued value c.two-first.result.0 in
    let b = valued value c.two-first.result.1 in
    let most = c.limit_of.result in
    settled (difference_meaning o) kind value c.args.given (c.two-first.result.0 ∷ c.two-first.result.1 ∷ []) (Err c.unsubtracted.result) c.two-first.ensures
    (exact_declines (RefusesDifference kind a b (state_limit o)) (RefusesDifference kind a b most) Memory (λ why. unmade (difference_text why)) c.in-Err.fault c.unsubtracted.result
    (λ why h. subst (λ (n : ℕ). RefusesDifference kind a b n why) c.limit_of.ensures.value h) ((c.in-Err.ensures.exact c.in-Err.fault).0 refl) c.unsubtracted.ensures.made c.unsubtracted.ensures.memory)

pub returns : goal.returns
returns g c =
    let kind = g.W.Weight.KIND in
    let value = g.W.Weight.value in
    let o = c.args.options.now in
    let a = valued value c.two-first.result.0 in
    let b = valued value c.two-first.result.1 in
    let most = c.limit_of.result in
    let whole = c.in-Ok.whole in
    let made = c.in_ok-left_of.field-0 in
    settled (difference_meaning o) kind value c.args.given (c.two-first.result.0 ∷ c.two-first.result.1 ∷ []) (Ok (machine kind (valued value made))) c.two-first.ensures (
      exact_passes (RefusesDifference kind a b (state_limit o)) (RefusesDifference kind a b most) Memory (λ why. unmade (difference_text why)) whole
          (λ why h. subst (λ (n : ℕ). RefusesDifference kind a b n why) (sym c.limit_of.ensures.value) h) (λ why h. (c.in-Ok.ensures.exact why).1 h),
      (refl, is_difference o kind a b (valued value whole) (valued value made) c.in-Ok.ensures.made (c.in-Ok.ensures.subtracts c.in-Ok.ensures.made) c.in-Ok.ensures.remains c.in_ok-left_of.ensures.left c.in_ok-left_of.ensures.relation),
    )
