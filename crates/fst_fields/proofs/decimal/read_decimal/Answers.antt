use Rattle.std.proofs.Common.{◌<◌, ◌≤◌, ◌^◌, length, lit<, arith}
use Rattle.std.proofs.Math.Nat.{pow-le-pow_right}
use Rattle.std.proofs.lemmas.Option.{IfSome_then}
use Rattle.fst_fields.proofs.decimal.read_decimal.Goals as goal

pub returns-clause-small : goal.returns-clause-small
returns-clause-small c =
    let more : 10 ^ length c.args.field.now ≤ 10 ^ c.args.most = pow-le-pow_right {n = 10} (lit< tt) {i = length c.args.field.now} {j = c.args.most} (omega arith) in
    IfSome_then _ {P = λ n. n < 10 ^ length c.args.field.now} {Q = λ n. n < 10 ^ c.args.most} c.digits.ensures.small (λ n small. omega arith)
