-- What a command settles of the machines that it took out of what it is given.
use Rattle.std.proofs.Common.{◌≡◌, List, map, Result, sym, subst}
use Rattle.fst_semiring.specs.declared.arc_type.ArcType.{ArcType}
use Rattle.fst_semiring.specs.Cost.{Cost}
use Rattle.fst_machine.specs.Machine.{Machine, valued}
use Rattle.fst_words.specs.declared.plan.Plan.{Plan}
use Rattle.fst_words.specs.declared.verb.Verb.{Verb}
use Rattle.fst_words.specs.Plans.{rule_labels}
use Rattle.fst_verbs.specs.Commands.{meaning_by, meaning_for}
use Rattle.fst_verbs.specs.Given.{Given}
use Rattle.fst_verbs.specs.Meaning.{Made, Meaning, Settles}
use Rattle.fst_verbs.specs.Seeing.{given_seen, given_with}
use Rattle.fst_verbs.specs.declared.tables.Tables.{Tables as DeclaredTables}
use Rattle.fst_verbs.specs.declared.given.Given.{Given as DeclaredGiven}
use Rattle.fst_verbs.specs.declared.refusal.Refusal.{Refusal}

pub settled : {W X : Type 0} (meaning : Meaning) (kind : ArcType) (value : W → Cost) (g : DeclaredGiven W X) (ms : List (Machine W)) (result : Result Made Refusal) → g.machines.items ≡ ms
    → Settles meaning (record (given_seen kind value g) { machines = map (valued value) ms }) result → Settles meaning (given_seen kind value g) result
settled meaning kind value g ms result e h =
    subst (λ (xs : List (Machine _)). Settles meaning (record (given_seen kind value g) { machines = map (valued value) xs }) result) (sym e) h

pub settled_with : {W X : Type 0} (meaning : Meaning) (t : DeclaredTables) (kind : ArcType) (value : W → Cost) (g : DeclaredGiven W X) (ms : List (Machine W)) (result : Result Made Refusal) → g.machines.items ≡ ms
    → Settles meaning (record (given_with t kind value g) { machines = map (valued value) ms }) result → Settles meaning (given_with t kind value g) result
settled_with meaning t kind value g ms result e h =
    subst (λ (xs : List (Machine _)). Settles meaning (record (given_with t kind value g) { machines = map (valued value) xs }) result) (sym e) h

-- the meaning of a plan is that of its command
pub settles_for : (plan : Plan) (verb : Verb) (given : Given) (result : Result Made Refusal) → plan.command ≡ verb → Settles (meaning_by verb (rule_labels plan) plan.options) given result → Settles (meaning_for plan) given result
settles_for plan verb given result is h = subst (λ (v : Verb). Settles (meaning_by v (rule_labels plan) plan.options) given result) (sym is) h
