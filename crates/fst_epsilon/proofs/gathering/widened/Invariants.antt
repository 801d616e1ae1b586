use Rattle.std.proofs.Common.{◌≡◌, All, map, take}
use Rattle.fst_semiring.specs.Semiring.{IsWide}
use Rattle.fst_search.specs.Closure.{Reached, valued_reached}
use Rattle.fst_epsilon.proofs.gathering.widened.Given as goal

abbrev pub invariant-loop-item : goal.invariant-loop-item
invariant-loop-item g l =
    let wide = g.W.Weight.wide_value in
    record {
      same : map (valued_reached wide) l.wide.items ≡ take l.item-index (map (valued_reached g.W.Weight.value) l.closure);
      range : All (λ (r : Reached g.row.W-Wide.Denot). IsWide (wide r.distance)) l.wide.items;
    }
