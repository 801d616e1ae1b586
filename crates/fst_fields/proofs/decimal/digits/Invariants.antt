use Rattle.std.proofs.Common.{◌≡◌, ◌<◌, ◌^◌, drop}
use Rattle.fst_fields.specs.Decimal.{digits_after}
use Rattle.fst_fields.proofs.decimal.digits.Given as goal

-- the digits that are left complete the number so far, which has as many digits as were read
abbrev pub invariant-loop-c : goal.invariant-loop-c
invariant-loop-c l = (digits_after l.n (drop l.c-index l.field) ≡ digits_after 0 l.field) × (l.n < 10 ^ l.c-index)
