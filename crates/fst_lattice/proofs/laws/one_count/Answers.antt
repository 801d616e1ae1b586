use Rattle.std.proofs.Common.{◌≤◌, length, arith}
use Rattle.fst_machine.proofs.Elements.{Apart_within}
use Rattle.fst_lattice.proofs.laws.one_count.Goals as goal

pub returns : goal.returns
returns g c = λ lines graph limit a b one other.
    let low : length one.names ≤ length other.names = Apart_within one.names other.names one.needed.apart (λ n h. other.needed.all n (one.needed.needed n h)) in
    let high : length other.names ≤ length one.names = Apart_within other.names one.names other.needed.apart (λ n h. one.needed.all n (other.needed.needed n h)) in
    omega (arith, low, high, one.size, other.size)
