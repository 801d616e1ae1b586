use Rattle.std.proofs.Common.{take}
use Rattle.fst_table.specs.Placed.{placed_in}
use Rattle.fst_minimize.specs.Pairs.{KnowsMore, Spells}
use Rattle.fst_minimize.proofs.pairs.Pairs.spell.Given as goal

abbrev pub invariant-loop-value : goal.invariant-loop-value
invariant-loop-value l = record {
  spells : Spells (placed_in l.self.table) l.fn.head (take l.value-index l.values) l.end;
  kept : KnowsMore (placed_in l.initial.self.table) (placed_in l.self.table);
}
