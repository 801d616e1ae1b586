-- As many bytes are made as the plan has outputs.
use Rattle.std.proofs.Common.{◌≡◌, length, sym, ap, ◌∙◌}
use Rattle.fst_words.specs.declared.plan.Plan.{Plan}
use Rattle.fst_words.specs.PlanLaws.{IsWhole}
use Rattle.fst_words.specs.Plans.{outputs_of}
use Rattle.fst_words.proofs.Counts.{stored_all}
use Rattle.fst_verbs.specs.Given.{Held}
use Rattle.fst_verbs.specs.Meaning.{Product}
use Rattle.fst_verbs.specs.Tabling.{tables_for}
use Rattle.fst_verbs.proofs.Lawful.{lawful}
use Rattle.fst_verbs.proofs.OneMade.{as_many}
use Rattle.fst_command.specs.Steps.{IsWorked}

-- the bytes of a command are as many as its outputs
pub stored_fits : (plan : Plan) (held : Held) (product : Product) → IsWhole plan → IsWorked plan held product → length (outputs_of plan) ≡ length product.bytes
stored_fits plan held product whole w =
    stored_all plan whole ∙ sym ((lawful plan.command _ plan.options w.given).makes.count w.made w.makes) ∙ sym (as_many (tables_for plan w.given.tables) w.made) ∙ ap length (sym w.spells)
