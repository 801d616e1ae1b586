use Rattle.std.proofs.Common.{ℕ, [], ◌∷◌, Ok, Err, refl, sym, subst}
use Rattle.fst_machine.specs.Machine.{valued}
use Rattle.fst_setops.specs.EquivalentFaults.{equivalent_text}
use Rattle.fst_setops.specs.Verdicts.{RefusesComparison}
use Rattle.fst_setops.specs.declared.equivalent_fault.EquivalentFault.TheVariants.{Memory}
use Rattle.fst_verbs.specs.Causes.{unmade}
use Rattle.fst_verbs.specs.Comparing.{equivalent_meaning}
use Rattle.fst_verbs.specs.Composing.{state_limit}
use Rattle.fst_verbs.specs.Meaning.{separation, text}
use Rattle.fst_verbs.proofs.DecidingComparing.{told_apart, told_same}
use Rattle.fst_verbs.proofs.Exactly.{exact_declines, exact_passes}
use Rattle.fst_verbs.proofs.Settled.{settled}
use Rattle.fst_verbs.proofs.commands.comparing.compared.Goals as goal

pub returns-in-Ok-Equivalent : goal.returns-in-Ok-Equivalent
returns-in-Ok-Equivalent g c =
    let kind = g.W.Weight.KIND in
    let value = g.W.Weight.value in
    let o = c.args.options.now in
    let a = valued value c.two-first.result.0 in
    let b = valued value c.two-first.result.1 in
    let most = c.limit_of.result in
    let said = c.in-Ok-Equivalent in
    let bytes = c.in_ok-from_slice-in-Ok-Equivalent in
    settled (equivalent_meaning o) kind value c.args.given (c.two-first.result.0 ∷ c.two-first.result.1 ∷ []) (Ok (text bytes.field-0.items)) c.two-first.ensures (
      exact_passes (RefusesComparison kind a b (state_limit o)) (RefusesComparison kind a b most) Memory (λ why. unmade (equivalent_text why)) said.field-0
          (λ why h. subst (λ (n : ℕ). RefusesComparison kind a b n why) (sym c.limit_of.ensures.value) h) (λ why h. (said.ensures.exact why).1 h),
      told_same kind g.W.Weight.wide_value a b said.ensures.single bytes.field-0.items said.field-0 said.field-0-is said.ensures.separated bytes.ensures.items,
    )

pub returns-in-Ok-Separated : goal.returns-in-Ok-Separated
returns-in-Ok-Separated g c =
    let kind = g.W.Weight.KIND in
    let value = g.W.Weight.value in
    let o = c.args.options.now in
    let a = valued value c.two-first.result.0 in
    let b = valued value c.two-first.result.1 in
    let most = c.limit_of.result in
    let said = c.in-Ok-Separated in
    let bytes = c.in_ok-separation_text-in-Ok-Separated in
    settled (equivalent_meaning o) kind value c.args.given (c.two-first.result.0 ∷ c.two-first.result.1 ∷ []) (Ok (separation bytes.field-0.items)) c.two-first.ensures (
      exact_passes (RefusesComparison kind a b (state_limit o)) (RefusesComparison kind a b most) Memory (λ why. unmade (equivalent_text why)) said.field-0
          (λ why h. subst (λ (n : ℕ). RefusesComparison kind a b n why) (sym c.limit_of.ensures.value) h) (λ why h. (said.ensures.exact why).1 h),
      told_apart kind g.W.Weight.wide_value a b said.ensures.single bytes.field-0.items said.field-0 _ _ _ said.field-0-is said.ensures.separated bytes.ensures,
    )

pub returns : goal.returns
returns g c =
    let kind = g.W.Weight.KIND in
    let value = g.W.Weight.value in
    let o = c.args.options.now in
    let a = valued value c.two-first.result.0 in
    let b = valued value c.two-first.result.1 in
    let most = c.limit_of.result in
    settled (equivalent_meaning o) kind value c.args.given (c.two-first.result.0 ∷ c.two-first.result.1 ∷ []) (Err c.uncompared.result) c.two-first.ensures
    (exact_declines (RefusesComparison kind a b (state_limit o)) (RefusesComparison kind a b most) Memory (λ why. unmade (equivalent_text why)) c.in-Err.fault c.uncompared.result
    (λ why h. subst (λ (n : ℕ). RefusesComparison kind a b n why) c.limit_of.ensures.value h) ((c.in-Err.ensures.exact c.in-Err.fault).0 refl) c.uncompared.ensures.made c.uncompared.ensures.memory)
