-- What a command decides of what was read.
use Rattle.std.proofs.Common.{◌≡◌, ℕ, List, Ok, Err, refl, ap, ◌∙◌, inl, inr}
use Rattle.fst_fields.specs.Reading.{◌>>=◌}
use Rattle.fst_semiring.specs.declared.arc_type.ArcType.{ArcType}
use Rattle.fst_words.specs.declared.plan.Plan.{Plan}
use Rattle.fst_verbs.specs.Commands.{meaning_for}
use Rattle.fst_semiring.specs.Cost.{Cost}
use Rattle.fst_machine.specs.Machine.{Machine}
use Rattle.fst_any.specs.Taken.{machines_as}
use Rattle.fst_verbs.specs.Causes.{kinds_differ}
use Rattle.fst_verbs.specs.Given.{Given, Held, codex_at, given_at, kind_of, telling}
use Rattle.fst_verbs.specs.Meaning.{Declines, Made, Product, Settles, bytes_of, ending_of}
use Rattle.fst_verbs.specs.Tabling.{tables_for}
use Rattle.fst_command.specs.Steps.{Decides, IsWorked}
use Rattle.fst_verbs.specs.Told.{Fails}
use Rattle.fst_verbs.specs.declared.refusal.Refusal.{Refusal}

-- what was read is not all of one arc type: a codex has another
pub codex_apart : (kind : ArcType) (held : Held) (ms : List (Machine Cost)) (refusal : Refusal) → telling (kinds_differ kind) (machines_as kind held.machines) ≡ Ok ms → Fails refusal (telling (kinds_differ kind) (codex_at kind held.codex)) → Fails refusal (given_at kind held)
unfolding given_at
codex_apart kind held ms refusal taken (inl memory) = inl memory
codex_apart kind held ms refusal taken (inr (fault, is, tells)) = inr (fault, rw (taken, is) refl, tells)

pub decides_apart : (plan : Plan) (held : Held) (kind : ArcType) (refusal : Refusal) → kind_of plan.options held.machines ≡ kind → Fails refusal (given_at kind held) → Decides plan held (Err refusal)
decides_apart plan held kind refusal e (inl memory) = inl memory
decides_apart plan held kind refusal e (inr (fault, is, tells)) = inr (fault, inl (ap (λ k. given_at k held) e ∙ is), tells)

pub decides_stopped : (plan : Plan) (held : Held) (kind : ArcType) (given : Given) (refusal : Refusal) → kind_of plan.options held.machines ≡ kind → given_at kind held ≡ Ok given → Declines ((meaning_for plan).stops given) refusal → Decides plan held (Err refusal)
decides_stopped plan held kind given refusal e reads (inl memory) = inl memory
decides_stopped plan held kind given refusal e reads (inr (fault, stops, tells)) = inr (fault, inr (given, ap (λ k. given_at k held) e ∙ reads, stops), tells)

pub decides_made : (plan : Plan) (held : Held) (kind : ArcType) (given : Given) (made : Made) (product : Product) → kind_of plan.options held.machines ≡ kind → given_at kind held ≡ Ok given → Settles (meaning_for plan) given (Ok made)
    → product.bytes ≡ bytes_of (tables_for plan given.tables) made → product.status ≡ ending_of made → IsWorked plan held product
decides_made plan held kind given made product e reads settles spells ends = record {
  given = given;
  reads = ap (λ k. given_at k held) e ∙ reads;
  passes = settles.0;
  made = made;
  makes = settles.1;
  spells = spells;
  ends = ends;
}
