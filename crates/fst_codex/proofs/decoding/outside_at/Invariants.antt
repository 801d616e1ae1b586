use Rattle.fst_trim.proofs.Places.{NoneAbove}
use Rattle.fst_codex.specs.Decoded.{IsOutside}
use Rattle.fst_codex.proofs.decoding.outside_at.Given as goal

abbrev pub invariant-loop-state : goal.invariant-loop-state
invariant-loop-state g l = NoneAbove (IsOutside l.numbers) l.fst l.state
