use Rattle.std.proofs.Common.{◌≡◌, ◌<◌, ◌++◌, ◌∷◌, length, map, sym, ap, ◌∙◌, subst, arith}
use Rattle.fst_machine.specs.Machine.{valued, valued_arc}
use Rattle.fst_machine.specs.Graph.{graph_of}
use Rattle.fst_machine.proofs.Walking.{graph_arcs, nexts_within}
use Rattle.fst_plain.specs.declared.path.PlainPart.{PlainPart}
use Rattle.fst_plain.specs.Plain.{cost_of, Fits}
use Rattle.fst_plain.specs.PlainPaths.{no_arcs, one_more, outgoing, part_of}
use Rattle.fst_plain.proofs.Parts.{extensions_more}
use Rattle.fst_plain.proofs.listing.longer.Goals as goal

pub extend-requires : goal.extend-requires
extend-requires g c =
    let n = c.requires.good.0 in
    let low : c.loop-part.part-index < length c.args.parts.now = omega arith in
    (n, c.requires.good.1, subst (λ (p : PlainPart). Fits n (cost_of p.product)) (sym c.part-item.is) (c.requires.good.2 c.loop-part.part-index c.part-item.result low).1)

pub loop-part-preserved : goal.loop-part-preserved
loop-part-preserved g c =
    let kind = g.W.Weight.KIND in
    let value = g.W.Weight.value in
    let fst = c.args.fst.now in
    let graph = graph_of (valued value fst) in
    let part = c.part-item.result in
    let arcs = c.arcs-arcs.result.now in
    let low : c.loop-part.part-index < length c.args.parts.now = omega arith in
    let same : graph.arcs part.end ≡ map (valued_arc value) arcs = graph_arcs value fst part.end arcs c.arcs-arcs.ensures in
    let further = extensions_more kind graph part_of c.args.parts.now c.loop-part.part-index part low c.part-item.is in
    record {
      value = c.in_ok-extend.ensures.value ∙ ((λ i. c.loop-part.invariant.value i ++ map (one_more kind (part_of part)) (outgoing part.end 0 (sym same i))) ∙ ap (λ parts. no_arcs kind c.args.start ∷ parts) (sym further));
      good = λ n all. c.in_ok-extend.ensures.good (length fst.states) n (subst (λ (p : PlainPart). Fits n (cost_of p.product)) (sym c.part-item.is) (all c.loop-part.part-index part low).1) (nexts_within value fst part.end arcs c.states-states.ensures.machine c.arcs-arcs.ensures) (c.loop-part.invariant.good n all);
    }
