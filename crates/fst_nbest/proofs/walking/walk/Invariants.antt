use Rattle.std.proofs.Common.{◌≡◌, ◌≤◌, ◌-◌, length}
use Rattle.fst_nbest.specs.Entries.{most_long}
use Rattle.fst_nbest.proofs.Walks.{WalkingOn}
use Rattle.fst_nbest.proofs.walking.walk.Given as goal

abbrev pub invariant-loop-core : goal.invariant-loop-core
invariant-loop-core g l =
    let s = g.S.System in
    record {
      on : WalkingOn s.kind (s.words l.system) (s.dist l.system) (s.count l.system) s.value s.bounded l.listed l.initial.orders l.orders (length l.listed) l.fn.entry l.core l.left.items l.word;
      size : length l.orders ≡ length l.initial.orders;
      few : l.core.arcs ≤ most_long;
    }

abbrev pub decreases-loop-core : goal.decreases-loop-core
decreases-loop-core g l = l.core.arcs - l.core.depth
