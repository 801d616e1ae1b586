use Rattle.std.proofs.Common.{ap₂, subst}
use Rattle.fst_semiring.specs.Cost.{Cost}
use Rattle.fst_machine.specs.Machine.{Machine, valued}
use Rattle.fst_rational.specs.Constructions.{concat_of}
use Rattle.fst_rational.specs.Limits.{IsSize}
use Rattle.fst_rational.proofs.concatenate.JoiningConstruction.size.Goals as goal

pub returns : goal.returns
returns g c =
    let value = g.W.Weight.value in
    let both = ap₂ (λ (a b : Machine g.row.W.Denot). concat_of (valued value a) (valued value b)) c.first.ensures c.second.ensures in
    subst (λ (m : Machine Cost). IsSize m c.concat_size.result) both c.concat_size.ensures
