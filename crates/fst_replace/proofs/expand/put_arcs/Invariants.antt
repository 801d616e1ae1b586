use Rattle.std.proofs.Common.{◌≡◌, ◌+◌, ◌++◌, map, take}
use Rattle.fst_machine.specs.Graph.{renamed}
use Rattle.fst_machine.specs.Machine.{valued_arc}
use Rattle.fst_replace.specs.Calls.{calls_in}
use Rattle.fst_replace.specs.Expansion.{blocks_size, entered}
use Rattle.fst_replace.specs.Rules.{labels_of}
use Rattle.fst_replace.specs.Totals.{shape_at, shifted, standing}
use Rattle.fst_replace.proofs.expand.put_arcs.Given as goal

abbrev pub invariant-loop-arc : goal.invariant-loop-arc
invariant-loop-arc g l = record {
  own : map (valued_arc g.W.Weight.value) l.own.items ≡ map (valued_arc g.W.Weight.value) l.initial.own.items ++ map (renamed (λ p. l.at + p)) (entered (labels_of l.rules) (shape_at l.shapes) l.block (map (valued_arc g.W.Weight.value) (take l.arc-index l.arcs)));
  calls : l.calls.items ≡ l.initial.calls.items ++ map (shifted l.at) (standing (shape_at l.shapes) (calls_in (labels_of l.rules) (take l.arc-index l.arcs)));
  next : l.next ≡ l.block + blocks_size (labels_of l.rules) (shape_at l.shapes) (calls_in (labels_of l.rules) (take l.arc-index l.arcs));
}
