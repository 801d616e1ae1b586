use Rattle.fst_minimize.specs.Spans.{RenumbersPlaces}
use Rattle.fst_minimize.proofs.parts.renumber.Given as goal

abbrev pub invariant-loop-place : goal.invariant-loop-place
invariant-loop-place l = RenumbersPlaces l.members l.fn.places.first l.place l.number l.fn.numbers l.numbers
