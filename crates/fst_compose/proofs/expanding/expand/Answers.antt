use Rattle.std.proofs.Common.{◌⊎◌, inl, inr, sym, true≢false, ◌∙◌}
use Rattle.fst_trim.specs.declared.side.Side.TheVariants.{Input, Output}
use Rattle.fst_trim.specs.Sides.{IsSortedOn, StandsBy}
use Rattle.fst_compose.proofs.Searching.{state_in_order}
use Rattle.fst_compose.proofs.expanding.expand.Goals as goal

pub expand_by-requires-2-clause-sorted : goal.expand_by-requires-2-clause-sorted
expand_by-requires-2-clause-sorted g c firsts seconds left right = by_side c.requires.sorted
  where
    by_side : IsSortedOn Output c.args.a.now ⊎ IsSortedOn Input c.args.b.now → StandsBy Output firsts
    by_side (inl sorted) = state_in_order Output c.args.a.now c.args.key.first firsts sorted left
    by_side (inr sorted) =
        let stands : StandsBy Input c.arcs.result.now = state_in_order Input c.args.b.now c.key.inside.second c.arcs.result.now sorted c.arcs.ensures in
        absurd (true≢false (sym (c.stands_by.ensures.1 stands) ∙ c.if-stands_by.false))
