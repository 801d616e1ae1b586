use Rattle.std.proofs.Common.{◌≤◌, ◌^◌, lit<, arith}
use Rattle.std.proofs.Math.Nat.{pow-le-pow_right}
use Rattle.fst_fields.proofs.decimal.digits.Goals as goal

pub overflow_mul-n : goal.overflow_mul-n
overflow_mul-n c =
    let bound : 10 ^ c.loop-c.c-index ≤ 10 ^ 18 = pow-le-pow_right {n = 10} (lit< tt) {i = c.loop-c.c-index} {j = 18} (omega arith) in
    omega (arith, c.loop-c.invariant.1)

pub overflow_add-n : goal.overflow_add-n
overflow_add-n c =
    let bound : 10 ^ c.loop-c.c-index ≤ 10 ^ 18 = pow-le-pow_right {n = 10} (lit< tt) {i = c.loop-c.c-index} {j = 18} (omega arith) in
    omega (arith, c.loop-c.invariant.1)
