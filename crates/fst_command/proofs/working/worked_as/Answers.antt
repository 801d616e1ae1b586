use Rattle.std.proofs.Common.{ℕ, ◌≤◌, List, length, sym, ◌∙◌, subst}
use Rattle.std.proofs.lemmas.List.{length-map}
use Rattle.fst_machine.specs.Machine.{valued}
use Rattle.fst_codex.specs.Table.{valued_table}
use Rattle.fst_any.specs.Typed.{typed, typed_codex}
use Rattle.fst_verbs.specs.Given.{read_limit}
use Rattle.fst_verbs.specs.Seeing.{given_with}
use Rattle.fst_command.specs.Views.{held_seen}
use Rattle.fst_command.proofs.Counted.{given_codex, given_lines, given_machines, some_seen}
use Rattle.fst_command.proofs.working.worked_as.Goals as goal

pub product_as-requires-clause-machines : goal.product_as-requires-clause-machines
product_as-requires-clause-machines g c lives within =
    let value = g.W.Weight.value in
    let given = c.in-Ok.given in
    sym (length-map given.machines.items (valued value)) ∙ given_machines g.W.Weight.KIND (held_seen c.args.held) (given_with c.in-Ok.tables g.W.Weight.KIND value given) c.in-Ok.ensures ∙ length-map c.args.held.machines.items typed ∙ c.requires.machines

pub product_as-requires-clause-codex : goal.product_as-requires-clause-codex
product_as-requires-clause-codex g c lives within has =
    let value = g.W.Weight.value in
    let given = c.in-Ok.given in
    sym (some_seen (valued_table value) given.codex) ∙ given_codex g.W.Weight.KIND (held_seen c.args.held) (given_with c.in-Ok.tables g.W.Weight.KIND value given) c.in-Ok.ensures (some_seen typed_codex c.args.held.codex ∙ c.requires.codex has)

pub product_as-requires-clause-lines : goal.product_as-requires-clause-lines
product_as-requires-clause-lines g c lives within =
    let given = given_with c.in-Ok.tables g.W.Weight.KIND g.W.Weight.value c.in-Ok.given in
    subst (λ (lines : List ℕ). length lines ≤ read_limit) (sym (given_lines g.W.Weight.KIND (held_seen c.args.held) given c.in-Ok.ensures)) c.requires.lines
