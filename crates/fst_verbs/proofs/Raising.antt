-- The meter of a command that does not expand.
use Rattle.std.proofs.Common.{◌≡◌, Bool, false, Result, refl, sym, subst}
use Rattle.fst_words.specs.declared.plan.Plan.{Plan}
use Rattle.fst_words.specs.Inputs.{expands}
use Rattle.fst_verbs.specs.Meaning.{Made}
use Rattle.fst_verbs.specs.Metering.{Metered, Raises}
use Rattle.fst_verbs.specs.declared.refusal.Refusal.{Refusal}

-- a command that does not expand
pub raises_nothing : (plan : Plan) (before : Metered) (result : Result Made Refusal) → expands plan ≡ false → Raises (expands plan) before before result
raises_nothing plan before result none = subst (λ (b : Bool). Raises b before before result) (sym none) refl
