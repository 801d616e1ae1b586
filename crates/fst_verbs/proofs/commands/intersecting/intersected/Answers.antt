use Rattle.std.proofs.Common.{ℕ, [], ◌∷◌, Ok, Err, refl, sym, subst}
use Rattle.fst_machine.specs.Machine.{valued}
use Rattle.fst_setops.specs.Answers.{RefusesIntersection}
use Rattle.fst_setops.specs.Faults.{intersect_text}
use Rattle.fst_setops.specs.declared.fault.IntersectFault.TheVariants.{Memory}
use Rattle.fst_verbs.specs.Causes.{unmade}
use Rattle.fst_verbs.specs.Composing.{state_limit}
use Rattle.fst_verbs.specs.Intersecting.{intersect_meaning}
use Rattle.fst_verbs.specs.Meaning.{machine}
use Rattle.fst_verbs.proofs.DecidingIntersecting.{is_intersection}
use Rattle.fst_verbs.proofs.Exactly.{exact_declines, exact_passes}
use Rattle.fst_verbs.proofs.Settled.{settled}
use Rattle.fst_verbs.proofs.commands.intersecting.intersected.Goals as goal

pub returns-in-Err : goal.returns-in-Err
returns-in-Err g c =
    let kind = g.W.Weight.KIND in
    let value = g.W.Weight.value in
    let o = c.args.options.now in
    let a = valued value c.two-first.result.0 in
    let b = valued value c.two-first.result.1 in
    let most = c.limit_of.result in
    settled (intersect_meaning o) kind value c.args.given (c.two-first.result.0 ∷ c.two-first.result.1 ∷ []) (Err c.unintersected.result) c.two-first.ensures
    (exact_declines (RefusesIntersection kind a b (state_limit o)) (RefusesIntersection kind a b most) Memory (λ why. unmade (intersect_text why)) c.in-Err.fault c.unintersected.result
    (λ why h. subst (λ (n : ℕ). RefusesIntersection kind a b n why) c.limit_of.ensures.value h) ((c.in-Err.ensures.exact c.in-Err.fault).0 refl) c.unintersected.ensures.made c.unintersected.ensures.memory)

pub returns : goal.returns
returns g c =
    let kind = g.W.Weight.KIND in
    let value = g.W.Weight.value in
    let o = c.args.options.now in
    let a = valued value c.two-first.result.0 in
    let b = valued value c.two-first.result.1 in
    let most = c.limit_of.result in
    let whole = c.in-Ok.whole in
    let made = c.in_ok-left_of.field-0 in
    settled (intersect_meaning o) kind value c.args.given (c.two-first.result.0 ∷ c.two-first.result.1 ∷ []) (Ok (machine kind (valued value made))) c.two-first.ensures (
      exact_passes (RefusesIntersection kind a b (state_limit o)) (RefusesIntersection kind a b most) Memory (λ why. unmade (intersect_text why)) whole
          (λ why h. subst (λ (n : ℕ). RefusesIntersection kind a b n why) (sym c.limit_of.ensures.value) h) (λ why h. (c.in-Ok.ensures.exact why).1 h),
      (refl, is_intersection o kind a b (valued value whole) (valued value made) c.in-Ok.ensures.made (c.in-Ok.ensures.composes c.in-Ok.ensures.made) c.in-Ok.ensures.intersects c.in_ok-left_of.ensures.left c.in_ok-left_of.ensures.relation),
    )
