use Rattle.std.proofs.Common.{◌≡◌, Some, sym, ap, ◌∙◌, arith}
use Rattle.fst_semiring.specs.Semiring.{single_number}
use Rattle.fst_machine.specs.Machine.{valued_arc}
use Rattle.fst_bytes.proofs.Lengths.{length-by_number}
use Rattle.fst_binary.proofs.Lengths.{length-arc_fields}
use Rattle.fst_binary.proofs.encoding.append_arc.Goals as goal

pub append_arc_of_number-requires : goal.append_arc_of_number-requires
append_arc_of_number-requires g c =
    let arc = valued_arc g.W.Weight.value c.args.arc in
    let same = ap (λ w. single_number g.W.Weight.KIND (g.W.Weight.value w)) (ap (λ a. a.weight) (sym c.arc.view_is)) in
    let one : single_number g.W.Weight.KIND arc.weight ≡ Some c.in-Some.number = same ∙ (sym c.single_number.ensures ∙ c.in-Some.is) in
    omega (arith, length-by_number g.W.Weight.KIND arc.weight c.in-Some.number one, length-arc_fields g.W.Weight.KIND arc, c.requires)
