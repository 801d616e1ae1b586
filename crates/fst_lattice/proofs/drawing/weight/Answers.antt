use Rattle.std.proofs.Common.{refl, sym, ◌∙◌, arith, pos}
use mir.Syntax.{w128}
use Rattle.std.proofs.lemmas.Int.{to_z-of_z}
use Rattle.fst_semiring.specs.Semiring.{InRange}
use Rattle.fst_lattice.specs.Cascade.{whole}
use Rattle.fst_lattice.proofs.drawing.weight.Goals as goal

pub returns-in-None : goal.returns-in-None
returns-in-None c =
    let first = to_z-of_z w128 c.from.result (record { sfits = c.from.type_inv }) ∙ c.from.ensures in
    let small : InRange (whole c.args.number) = grind (arith, c.ranges.number) in
    absurd (c.in-None.ensures.none (whole c.args.number) refl small (λ i. record { class = 1; first = sym first i; second = pos 0 }))
