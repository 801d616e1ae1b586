-- Different names have different codes.
use Rattle.std.proofs.Common.{◌≡◌, ℕ, arith}
use Rattle.fst_delayed.specs.DelayedLaws.{CodesDiffer}

pub codes_differ : (states others : ℕ) → CodesDiffer states others
codes_differ states others few few' n m (a, b, c) (a', b', c') e =
    let one : n.first ≡ m.first = omega (arith, e) in
    let two : n.second ≡ m.second = omega (arith, e, one) in
    let three : n.filter ≡ m.filter = omega (arith, e, one, two) in
    λ i. record { first = one i; second = two i; filter = three i }
