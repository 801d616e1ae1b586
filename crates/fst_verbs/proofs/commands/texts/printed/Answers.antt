use Rattle.std.proofs.Common.{ℕ, List, [], ◌∷◌, Err}
use Rattle.fst_machine.specs.Machine.{valued}
use Rattle.fst_verbs.specs.Seeing.{tables_seen}
use Rattle.fst_verbs.specs.Texts.{print_choices, print_meaning}
use Rattle.fst_verbs.proofs.Printed.{unprinted_declines}
use Rattle.fst_verbs.proofs.Settled.{settled_with}
use Rattle.fst_verbs.proofs.commands.texts.printed.Goals as goal

pub returns : goal.returns
returns g c =
    let kind = g.W.Weight.KIND in
    let value = g.W.Weight.value in
    let o = c.args.options.now in
    settled_with (print_meaning o) c.args.tables.now kind value c.args.given (c.one-machine.result ∷ []) (Err c.unprinted.result) c.one-machine.ensures
    (unprinted_declines {X = List ℕ} (λ t. t) kind c.print_choices-choices.result (print_choices o (tables_seen c.args.tables.now)) (valued value c.one-machine.result) c.in-Err.fault c.unprinted.result c.print_choices-choices.ensures c.in-Err.ensures c.unprinted.ensures.made c.unprinted.ensures.memory)
