use Rattle.std.proofs.Common.{◌≡◌, ◌∙◌, true, sym, ap, ℕ, ◌/◌}
use Rattle.fst_words.specs.Plans.{is_replace}
use Rattle.fst_words.proofs.PlannedFiles.{machine_count}
use Rattle.fst_words.proofs.plan.Plan.input_count.Goals as goal

pub returns-then-has_rules : goal.returns-then-has_rules
returns-then-has_rules c =
    let is : is_replace c.args.self.now.command ≡ true = sym c.has_rules.ensures ∙ c.if-has_rules.true in
    rw is (ap (λ (n : ℕ). n / 2) c.len.ensures ∙ sym (machine_count c.args.self.now.names))
