use Rattle.std.proofs.Common.{◌≡◌, ◌++◌, map, take}
use Rattle.fst_machine.specs.Machine.{valued_arc}
use Rattle.fst_text.specs.Entries.{arc_entry}
use Rattle.fst_text.specs.Printed.{text_of_entries}
use Rattle.fst_text.proofs.printing.push_numbered_arcs.Given as goal

-- the lines of the arcs so far are appended
abbrev pub invariant-loop-arc : goal.invariant-loop-arc
invariant-loop-arc g l =
    l.out.items ≡ l.fn.out.items ++ text_of_entries g.W.Weight.KIND l.options (map (arc_entry l.state) (map (valued_arc g.W.Weight.value) (take l.arc-index l.arcs)))
