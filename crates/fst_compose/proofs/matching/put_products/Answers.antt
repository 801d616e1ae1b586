use Rattle.std.proofs.Common.{map}
use Rattle.std.specs.List.{flat_map}
use Rattle.fst_semiring.specs.Cost.{Cost}
use Rattle.fst_machine.specs.Machine.{Arc, valued_arc}
use Rattle.std.proofs.Common.{ℕ}
use Rattle.fst_compose.specs.Composition.{match_arcs}
use Rattle.fst_compose.proofs.Appending.{brings_more}
use Rattle.fst_compose.proofs.matching.put_products.Goals as goal

pub loop-a-preserved : goal.loop-a-preserved
loop-a-preserved g c =
    let made = λ (x : Arc Cost ℕ). flat_map (match_arcs {N = ℕ} {M = ℕ} g.W.Weight.KIND x) (map (valued_arc g.W.Weight.value) c.args.bs.now) in
    brings_more made (valued_arc g.W.Weight.value) c.args.arcs.now _ _ _ c.loop-a.a-index c.a-item.result c.loop-a-test.true c.a-item.is c.loop-a.invariant c.in_ok-put_matches.ensures
