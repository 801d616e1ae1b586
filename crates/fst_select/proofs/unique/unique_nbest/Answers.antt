use Rattle.std.proofs.Common.{map, sym, subst}
use Rattle.fst_machine.specs.Graph.{graph_of}
use Rattle.fst_machine.specs.Machine.{Machine, valued}
use Rattle.fst_machine.proofs.Valued.{IsMachine-valued}
use Rattle.fst_select.specs.Strings.{AreFirstStrings, IsPlain, weighted}
use Rattle.fst_select.proofs.OneStrings.{words_apart, words_labels}
use Rattle.fst_select.proofs.unique.unique_nbest.Goals as goal

pub list_strings-requires : goal.list_strings-requires
list_strings-requires g c =
    record { plain = subst (λ (z : Machine g.row.W.Denot). IsPlain (graph_of (valued g.W.Weight.value z))) (sym c.in-Ok.ensures.machine) c.in_default.ensures.plain }

pub returns-in-Ok-list_strings-clause-apart : goal.returns-in-Ok-list_strings-clause-apart
returns-in-Ok-list_strings-clause-apart g c =
    let w = g.W.Weight in
    let strings = c.in-Ok-list_strings.strings in
    let first = subst (λ (z : Machine g.row.W.Denot). AreFirstStrings w.KIND (graph_of (valued w.value z)) c.args.n (map (weighted w.wide_value) strings)) c.in-Ok.ensures.machine c.in-Ok-list_strings.ensures.first in
    words_apart w.KIND (graph_of (valued w.value c.args.fst.now)) w.wide_value c.args.n strings first

pub returns-in-Ok-list_strings-clause-labels : goal.returns-in-Ok-list_strings-clause-labels
returns-in-Ok-list_strings-clause-labels g c =
    let w = g.W.Weight in
    let strings = c.in-Ok-list_strings.strings in
    let first = subst (λ (z : Machine g.row.W.Denot). AreFirstStrings w.KIND (graph_of (valued w.value z)) c.args.n (map (weighted w.wide_value) strings)) c.in-Ok.ensures.machine c.in-Ok-list_strings.ensures.first in
    words_labels w.KIND (valued w.value c.args.fst.now) (IsMachine-valued w.value c.args.fst.now c.states-states.ensures.machine) w.wide_value c.args.n strings first
