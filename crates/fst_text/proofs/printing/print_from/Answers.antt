use Rattle.std.proofs.Common.{map, ◌∙◌}
use Rattle.fst_machine.specs.Machine.{valued_state}
use Rattle.fst_text.specs.Printed.{entries_at, other_entries}
use Rattle.fst_text.proofs.Naming.{entries-behind, entries-front, entries-later}
use Rattle.fst_text.proofs.printing.print_from.Goals as goal

pub returns-in-Err-clause-named : goal.returns-in-Err-clause-named
returns-in-Err-clause-named g c =
    let mapped = map (valued_state g.W.Weight.value) c.args.fst.now.states in
    entries-front c.in-Err.fault c.args.options.now (entries_at c.args.start mapped) (other_entries c.args.start 0 mapped) (rw c.in-Err.is at c.in_ok-push_state.ensures.named)

pub returns-in-Err-2-clause-named : goal.returns-in-Err-2-clause-named
returns-in-Err-2-clause-named g c =
    let mapped = map (valued_state g.W.Weight.value) c.args.fst.now.states in
    entries-later c.in-Err-2.fault c.args.options.now (entries_at c.args.start mapped) (other_entries c.args.start 0 mapped) (rw c.in-Ok.is at c.in_ok-push_state.ensures.named) (rw c.in-Err-2.is at c.in_ok-push_others.ensures.named)

pub returns-clause-named : goal.returns-clause-named
returns-clause-named g c =
    let mapped = map (valued_state g.W.Weight.value) c.args.fst.now.states in
    entries-behind c.args.options.now (entries_at c.args.start mapped) (other_entries c.args.start 0 mapped) (rw c.in-Ok.is at c.in_ok-push_state.ensures.named)
    ∙ (rw c.in-Ok-2.is at c.in_ok-push_others.ensures.named)
