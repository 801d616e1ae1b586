-- How the meter is left, from the work of a command to the end of a run.
use Rattle.std.proofs.Common.{◌≡◌, ℕ, Bool, true, false, Option, Some, None, Result, Ok, Err, refl, ap, ◌∙◌}
use Rattle.fst_desk.specs.Seen.{Files, Seen}
use Rattle.fst_semiring.specs.declared.arc_type.ArcType.{ArcType}
use Rattle.fst_words.specs.declared.plan.Plan.{Plan}
use Rattle.fst_words.specs.Inputs.{expands, plan_inputs}
use Rattle.fst_verbs.specs.Causes.{Answer, done, no_memory, refused, unread, unwritten, usage}
use Rattle.fst_verbs.specs.Commands.{meaning_for}
use Rattle.fst_verbs.specs.Given.{Given, Held, given_at, kind_of}
use Rattle.fst_verbs.specs.Meaning.{Made, Product, Settles, bytes_of, ending_of}
use Rattle.fst_verbs.specs.Metering.{Metered, Raises}
use Rattle.fst_command.specs.Outcome.{MetersBy, MetersPlan}
use Rattle.fst_verbs.specs.Tabling.{tables_for}
use Rattle.fst_command.specs.Steps.{MetersEnd, MetersWords, MetersWorkBy, Progress}
use Rattle.fst_verbs.specs.Told.{Tells, told_status}
use Rattle.fst_verbs.specs.declared.refusal.Refusal.{Refusal}
use Rattle.fst_command.proofs.Writing.{makes-ready}

-- what is made raised it, and so did the work
pub work_raised : (b : Bool) (plan : Plan) (held : Held) (kind : ArcType) (given : Given) (made : Made) (product : Product) (before after : Metered)
    → kind_of plan.options held.machines ≡ kind → given_at kind held ≡ Ok given → Settles (meaning_for plan) given (Ok made) → product.bytes ≡ bytes_of (tables_for plan given.tables) made → product.status ≡ ending_of made
    → Raises b before after (Ok made) → MetersWorkBy b plan held before after (Ok product)
work_raised false plan held kind given made product before after e reads settles spells ends raises = raises
work_raised true plan held kind given made product before after e reads settles spells ends raises =
    (record { given = given; reads = ap (λ k. given_at k held) e ∙ reads; passes = settles.0; made = made; makes = settles.1; spells = spells; ends = ends }, raises)

-- a refusal of the work
pub work_refused : (b : Bool) (plan : Plan) (held : Held) (refusal other : Refusal) (before after : Metered) → Raises b before after (Err refusal) → MetersWorkBy b plan held before after (Err other)
work_refused false plan held refusal other before after raises = raises
work_refused true plan held refusal other before after raises = tt

-- what is made is not spelled, for want of memory
pub work_unspelled : (b : Bool) (plan : Plan) (held : Held) (made : Made) (other : Refusal) (before after : Metered) → Raises b before after (Ok made) → MetersWorkBy b plan held before after (Err other)
work_unspelled false plan held made other before after raises = raises
work_unspelled true plan held made other before after raises = tt

-- a refusal before the work
pub work_untouched : (b : Bool) (plan : Plan) (held : Held) (refusal : Refusal) (before : Metered) → MetersWorkBy b plan held before before (Err refusal)
work_untouched false plan held refusal before = refl
work_untouched true plan held refusal before = tt

pub end_untouched : (b : Bool) (plan : Plan) (told : Option Files) (refusal : Refusal) (before : Metered) → MetersEnd b plan told before before (Err refusal)
end_untouched false plan told refusal before = refl
end_untouched true plan told refusal before = tt

-- from the work to the end of the command
pub end_refused : (b : Bool) (plan : Plan) (held : Held) (told : Option Files) (refusal other : Refusal) (before after : Metered)
    → MetersWorkBy b plan held before after (Err refusal) → MetersEnd b plan told before after (Err other)
end_refused false plan held told refusal other before after work = work
end_refused true plan held told refusal other before after work = tt

pub end_stored : (b : Bool) (plan : Plan) (held : Held) (product : Product) (old now : Seen) (result : Result ℕ Refusal) (before after : Metered)
    → Progress plan (plan_inputs plan) held old now → MetersWorkBy b plan held before after (Ok product) → MetersEnd b plan old.filed.told before after result
end_stored false plan held product old now result before after p work = work
end_stored true plan held product old now (Ok status) before after p (w, e) = (w.made, makes-ready plan held product old now p w, e)
end_stored true plan held product old now (Err refusal) before after p work = tt

-- a refusal has no status of Ok
pub no_success : (answer : Answer) (refusal : Refusal) → Tells answer refusal → told_status refusal ≡ 0 → ⊥
no_success (done status) refusal tells zero = let none = tells.line in absurd cc
no_success usage refusal tells zero = let one = tells.status in absurd cc
no_success (refused cause) refusal tells zero = let one = tells.status in absurd cc
no_success no_memory refusal tells zero = let three = tells.status in absurd cc
no_success (unread name) refusal tells zero = let four = tells.status in absurd cc
no_success (unwritten name) refusal tells zero = let five = tells.status in absurd cc

-- from the end of the command to the run
pub run_ended : (plan : Option Plan) (told : Option Files) (status : ℕ) (before after : Metered) → MetersWords plan told before after (Ok status) → MetersPlan plan told before after status
run_ended None told status before after meters = meters
run_ended (Some plan) told status before after meters = by (expands plan) meters
  where
    by : (b : Bool) → MetersEnd b plan told before after (Ok status) → MetersBy b plan told before after status
    by false same = same
    by true made = λ e. made

pub run_refused : (plan : Option Plan) (told : Option Files) (refusal : Refusal) (status : ℕ) (before after : Metered)
    → (status ≡ 0 → ⊥) → MetersWords plan told before after (Err refusal) → MetersPlan plan told before after status
run_refused None told refusal status before after other meters = meters
run_refused (Some plan) told refusal status before after other meters = by (expands plan) meters
  where
    by : (b : Bool) → MetersEnd b plan told before after (Err refusal) → MetersBy b plan told before after status
    by false same = same
    by true nothing = λ e. absurd (other e)
