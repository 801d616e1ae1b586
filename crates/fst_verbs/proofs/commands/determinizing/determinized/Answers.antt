use Rattle.std.proofs.Common.{ℕ, [], ◌∷◌, Ok, Err, refl, sym, subst}
use Rattle.fst_machine.specs.Machine.{valued}
use Rattle.fst_determinize.specs.Answers.{Refuses}
use Rattle.fst_determinize.specs.Faults.{determinize_text}
use Rattle.fst_determinize.specs.declared.fault.DeterminizeFault.TheVariants.{Memory}
use Rattle.fst_verbs.specs.Causes.{unmade}
use Rattle.fst_verbs.specs.Composing.{state_limit}
use Rattle.fst_verbs.specs.Determinizing.{IsUndetermined, determinize_meaning}
use Rattle.fst_verbs.specs.Meaning.{machine}
use Rattle.fst_verbs.proofs.Determinized.{refuses-valued, valued-refuses}
use Rattle.fst_verbs.proofs.Exactly.{exact_declines, exact_passes}
use Rattle.fst_verbs.proofs.Settled.{settled}
use Rattle.fst_verbs.proofs.commands.determinizing.determinized.Goals as goal

pub returns-in-Ok : goal.returns-in-Ok
returns-in-Ok g c =
    let kind = g.W.Weight.KIND in
    let value = g.W.Weight.value in
    let o = c.args.options.now in
    let m = c.one-machine.result in
    let made = c.in-Ok.made in
    let most = c.limit_of.result in
    settled (determinize_meaning o) kind value c.args.given (m ∷ []) (Ok (machine kind (valued value made.fst))) c.one-machine.ensures (
      exact_passes (IsUndetermined kind (state_limit o) (valued value m)) (Refuses kind value m most) Memory (λ why. unmade (determinize_text why)) made
          (λ why h. valued-refuses kind value m most why (subst (λ (n : ℕ). Refuses kind (λ w. w) (valued value m) n why) (sym c.limit_of.ensures.value) h.1)) (λ why h. (c.in-Ok.ensures.exact why).1 h),
      (refl, record { names = made.subsets; named = c.in-Ok.ensures.made; listed = c.in-Ok.ensures.subsets; determinizes = c.in-Ok.ensures.determinizes }),
    )

pub returns : goal.returns
returns g c =
    let kind = g.W.Weight.KIND in
    let value = g.W.Weight.value in
    let o = c.args.options.now in
    let m = c.one-machine.result in
    let most = c.limit_of.result in
    settled (determinize_meaning o) kind value c.args.given (m ∷ []) (Err c.undetermined.result) c.one-machine.ensures
    (exact_declines (IsUndetermined kind (state_limit o) (valued value m)) (Refuses kind value m most) Memory (λ why. unmade (determinize_text why)) c.in-Err.fault c.undetermined.result
    (λ why h. (c.in-Err.ensures.weighted, subst (λ (n : ℕ). Refuses kind (λ w. w) (valued value m) n why) c.limit_of.ensures.value (refuses-valued kind value m most why h))) ((c.in-Err.ensures.exact c.in-Err.fault).0 refl) c.undetermined.ensures.made c.undetermined.ensures.memory)
