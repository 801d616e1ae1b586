use Rattle.std.proofs.Common.{◌≡◌, ◌+◌}
use Rattle.fst_claims.specs.Passes.{IsPassOf, found, parts, won}
use Rattle.fst_lattice.specs.Phases.{IsHanded}
use Rattle.fst_lattice.proofs.Turns.{InTurn}
use Rattle.fst_lattice.proofs.phasing.hand_out.Given as goal

abbrev pub invariant-loop-worker : goal.invariant-loop-worker
invariant-loop-worker g l = record {
  pass : IsPassOf l.claims l.pass × (won l.pass ≡ won l.initial.pass) × (found l.pass ≡ found l.initial.pass) × (parts l.pass + l.worker-index ≡ parts l.initial.pass);
  turn : InTurn (IsHanded l.claims) l.initial.workers l.workers l.worker-index;
}
