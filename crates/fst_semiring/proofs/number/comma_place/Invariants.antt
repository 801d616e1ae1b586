use Rattle.std.proofs.Common.{◌≡◌, ◌+◌, ◌==◌, drop}
use Rattle.std.specs.List.{position_or_len}
use Rattle.fst_semiring.proofs.number.comma_place.Given as goal

-- what is counted so far and what is left to count are the whole
abbrev pub invariant-loop-i : goal.invariant-loop-i
invariant-loop-i l = l.i + position_or_len (λ c. c == 44) (drop l.i l.field) ≡ position_or_len (λ c. c == 44) l.field
