use Rattle.std.proofs.Common.{◌<◌, ◌↔◌, ℕ, take}
use Rattle.std.specs.List.{All}
use Rattle.fst_machine.specs.BreadthFirst.{Has}
use Rattle.fst_trim.specs.Links.{Link}
use Rattle.fst_nbest.proofs.counting.put_sources.Given as goal

abbrev pub invariant-loop-link : goal.invariant-loop-link
invariant-loop-link g l = record {
  just : (x : ℕ) → Has l.sources.items x ↔ ((k : Link g.row.V.Denot) × Has (take l.link-index (g.B.Backward.links l.back l.name)) k × g.B.Backward.leads l.back k x l.name);
  low : All (λ x. x < g.B.Backward.size l.back) l.sources.items;
}
