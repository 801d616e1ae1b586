use Rattle.std.proofs.Common.{map, sym, ◌∙◌}
use Rattle.fst_machine.specs.Machine.{valued_arc}
use Rattle.fst_text.specs.Entries.{arc_entry}
use Rattle.fst_text.proofs.Naming.{numbers-named}
use Rattle.fst_text.proofs.printing.push_arcs.Goals as goal

pub returns-then-is_numbered-clause-named : goal.returns-then-is_numbered-clause-named
returns-then-is_numbered-clause-named g c = numbers-named c.args.options.now (sym c.is_numbered.ensures ∙ c.if-is_numbered.true) (map (arc_entry c.args.state) (map (valued_arc g.W.Weight.value) c.args.arcs.now))
