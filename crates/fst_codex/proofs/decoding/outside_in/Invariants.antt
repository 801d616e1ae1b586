use Rattle.fst_trim.proofs.Places.{NoneBefore}
use Rattle.fst_codex.specs.Decoded.{IsOutside}
use Rattle.fst_codex.proofs.decoding.outside_in.Given as goal

abbrev pub invariant-loop-place : goal.invariant-loop-place
invariant-loop-place g l = NoneBefore (IsOutside l.numbers) l.arcs l.place
