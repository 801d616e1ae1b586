use Rattle.std.proofs.Common.{◌≡◌, ◌∙◌, ◌<◌, length, true, arith, sym}
use Rattle.fst_words.specs.Plans.{is_replace, pair_machines}
use Rattle.fst_words.proofs.PlannedFiles.{machine_count, machine_in}
use Rattle.fst_words.proofs.plan.Plan.input.Goals as goal

pub prove-unreachable-requires : goal.prove-unreachable-requires
prove-unreachable-requires c =
    let is : is_replace c.args.self.now.command ≡ true = sym c.has_rules.ensures ∙ c.if-has_rules.true in
    let count = machine_count c.args.self.now.names in
    let room : c.args.place < length (pair_machines c.args.self.now.names) = rw is at c.requires in
    omega arith

pub returns-then-has_rules : goal.returns-then-has_rules
returns-then-has_rules c =
    let is : is_replace c.args.self.now.command ≡ true = sym c.has_rules.ensures ∙ c.if-has_rules.true in
    let count = machine_count c.args.self.now.names in
    let room : c.args.place < length (pair_machines c.args.self.now.names) = rw is at c.requires in
    rw is (machine_in c.args.self.now.names c.args.place c.item.result.now (omega arith) c.item.ensures)
