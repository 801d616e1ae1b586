use Rattle.fst_trim.specs.declared.side.Side.{Side}
use Rattle.fst_trim.specs.declared.side.Side.TheVariants.{Input, Output}
use Rattle.fst_compose.specs.Matching.{IsSearchable}
use Rattle.fst_compose.specs.Names.{name_at}
use Rattle.fst_compose.proofs.Searching.{searchable_first, searchable_second}
use Rattle.fst_machine_tests.proofs.runs.searched.Goals as goal

pub expand_counted-requires-clause-sorted : goal.expand_counted-requires-clause-sorted
expand_counted-requires-clause-sorted g c = by_side c.args.side
  where
    by_side : (side : Side) → IsSearchable side c.args.a.now c.args.b.now (name_at 0 0 0)
    by_side Input = searchable_second c.args.a.now c.args.b.now (name_at 0 0 0) (c.is_sorted-else-not-is_sorted.ensures.0 c.if-not-is_sorted-2.false)
    by_side Output = searchable_first c.args.a.now c.args.b.now (name_at 0 0 0) (c.is_sorted.ensures.0 c.if-not-is_sorted.false)
