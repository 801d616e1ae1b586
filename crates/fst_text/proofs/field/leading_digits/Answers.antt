use Rattle.std.proofs.Common.{◌≤◌, ◌^◌, lit<, arith}
use Rattle.std.proofs.Math.Nat.{pow-le-pow_right}
use Rattle.fst_text.proofs.field.leading_digits.Goals as goal

pub overflow_mul-n : goal.overflow_mul-n
overflow_mul-n c =
    let bound : 10 ^ c.loop-i.i ≤ 10 ^ 18 = pow-le-pow_right {n = 10} (lit< tt) {i = c.loop-i.i} {j = 18} (omega arith) in
    omega (arith, c.loop-i.invariant.small)

pub overflow_add-n : goal.overflow_add-n
overflow_add-n c =
    let bound : 10 ^ c.loop-i.i ≤ 10 ^ 18 = pow-le-pow_right {n = 10} (lit< tt) {i = c.loop-i.i} {j = 18} (omega arith) in
    omega (arith, c.loop-i.invariant.small)
