use Rattle.std.proofs.Common.{◌≡◌, ◌<◌, ℕ, true, false, get_or, map, take}
use Rattle.fst_minimize.specs.Numberers.{HasSeen}
use Rattle.fst_minimize.proofs.OnePass.{alone}
use Rattle.fst_minimize.proofs.along.Pass.finish.Given as goal

abbrev pub invariant-loop-state : goal.invariant-loop-state
invariant-loop-state l = record {
  seen : HasSeen (map alone (take l.state l.numbers.items)) l.again;
  marked : (q : ℕ) → q < l.state → get_or l.marks.items q false ≡ true;
}
