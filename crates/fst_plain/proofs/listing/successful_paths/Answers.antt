use Rattle.std.proofs.Common.{◌≡◌, ◌+◌, ℕ, List, Some, length, map, sym, subst, arith}
use Rattle.fst_machine.specs.Machine.{valued}
use Rattle.fst_machine.specs.Graph.{graph_of}
use Rattle.fst_machine.specs.PathOrder.{WeightedPath}
use Rattle.fst_plain.specs.declared.path.PlainPart.{PlainPart}
use Rattle.fst_plain.specs.PlainPaths.{AllGood, ArePartsBelow, ListsPaths, part_of}
use Rattle.fst_plain.proofs.Collecting.{collected_lists}
use Rattle.fst_plain.proofs.listing.successful_paths.Goals as goal

pub collect-requires : goal.collect-requires
collect-requires g c = (c.args.arcs + 1, omega arith, subst (λ (ps : List PlainPart). AllGood (length c.args.fst.now.states) (c.args.arcs + 1) ps) (sym c.as_slice.ensures.value) c.in_ok-parts.ensures.good)

pub returns : goal.returns
returns g c =
    let kind = g.W.Weight.KIND in
    let graph = graph_of (valued g.W.Weight.value c.args.fst.now) in
    let start = c.in-Some.start in
    let starts : graph.start ≡ Some start = sym c.in-Some.ensures.value in
    let parts : ArePartsBelow kind graph start (c.args.arcs + 1) (map part_of c.as_slice.result.now) = subst (λ (ps : List PlainPart). ArePartsBelow kind graph start (c.args.arcs + 1) (map part_of ps)) (sym c.as_slice.ensures.value) c.in_ok-parts.ensures.value in
    subst (λ (ps : List (WeightedPath ℕ)). ListsPaths kind graph c.args.arcs ps) (sym c.in_ok-found.ensures) (collected_lists kind graph start c.args.arcs (map part_of c.as_slice.result.now) starts parts)
