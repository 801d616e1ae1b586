use Rattle.std.proofs.Common.{◌≡◌, ◌++◌, true, map}
use Rattle.std.specs.Vec.Iter.{drain_items}
use Rattle.fst_machine.specs.Machine.{valued_arc}
use Rattle.fst_walk.specs.Making.{PutsArcs}
use Rattle.fst_walk.specs.Names.{key_arc}
use Rattle.fst_walk.proofs.numbering.number_arcs.Given as goal

abbrev pub invariant-loop-arc : goal.invariant-loop-arc
invariant-loop-arc g l = record {
  all : drain_items l.initial.arc-iterator ≡ l.yielded ++ drain_items l.arc-iterator;
  puts : PutsArcs l.limit (l.initial.fits ≡ true) (map (key_arc g.W.Weight.wide_value) l.yielded) l.initial.names l.names (map (valued_arc g.W.Weight.value) l.initial.states.arcs) (map (valued_arc g.W.Weight.value) l.states.arcs) l.fits;
  others : l.states.states ≡ l.initial.states.states;
}
