-- There is one outcome: the same words and the same contents prescribe one list of outputs, with one status, or one
-- cause, and never both.
use Rattle.std.specs.Prelude.{◌≡◌, ℕ, List, Option, Some}
use Rattle.fst_desk.specs.Seen.{Files}
use Rattle.fst_words.specs.declared.plan.Plan.{Plan}
use Rattle.fst_verbs.specs.Causes.{Cause}
use Rattle.fst_verbs.specs.Meaning.{Made, ending_of}
use Rattle.fst_verbs.specs.OneMeaning.{One}
use Rattle.fst_command.specs.Outcome.{Makes, Output, Prescribes, Refuses}

-- the status is that of what the plan makes
abbrev pub EndsWith : Plan → Option Files → ℕ → Type 0
EndsWith plan told status = (made : Made) × Makes plan told made × (status ≡ ending_of made)

-- of what the files hold, a plan has one list of outputs and one status, or one cause
pub record OneOutcome (plan : Plan) (files : Files) : Type 0 where
  pub outputs : One (Prescribes plan (Some files))
  pub status : One (EndsWith plan (Some files))
  pub cause : One (Refuses plan (Some files))
  pub apart : (outputs : List Output) (cause : Cause) → Prescribes plan (Some files) outputs → Refuses plan (Some files) cause → ⊥
