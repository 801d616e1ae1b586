use Rattle.std.proofs.Common.{◌≡◌, ℕ, drop, map, ap, arith}
use Rattle.fst_machine.specs.Machine.{valued_arc}
use Rattle.fst_compose.specs.Composition.{first_arcs, second_arcs}
use Rattle.fst_compose.proofs.Parting.{all_left}
use Rattle.std.specs.List.{flat_map}
use Rattle.fst_compose.proofs.parts.put_part_by_second.Goals as goal

pub returns-clause-put : goal.returns-clause-put
returns-clause-put g c =
    let seconds = map (valued_arc g.W.Weight.value) c.args.bs.now in
    let zero : 0 ≡ c.args.from = omega arith in
    all_left (first_arcs g.W.Weight.KIND c.args.key seconds) (valued_arc g.W.Weight.value) c.args.arcs.now (flat_map (second_arcs c.args.key) seconds) c.args.from c.args.arcs.now _ _ (ap (λ (n : ℕ). drop n c.args.arcs.now) zero) c.in_ok-put_by_second.ensures.put
