use Rattle.std.proofs.Common.{◌≡◌, ◌<◌, ◌+◌, ◌++◌, ◌∷◌, [], List, length, map, take, sym, ap, ◌∙◌, subst, arith}
use Rattle.std.proofs.lemmas.List.{map_more}
use Rattle.fst_machine.specs.Machine.{valued}
use Rattle.fst_machine.specs.Graph.{graph_of}
use Rattle.fst_plain.specs.declared.path.PlainPart.{PlainPart}
use Rattle.fst_plain.specs.Plain.{cost_of, Fits}
use Rattle.fst_plain.specs.PlainPaths.{Part, part_of}
use Rattle.fst_plain.specs.Collected.{collected, kept}
use Rattle.fst_plain.proofs.Bounds.{Fits-sum}
use Rattle.fst_plain.proofs.Collecting.{collected-push}
use Rattle.fst_plain.proofs.Tables.{graph_final}
use Rattle.fst_plain.proofs.listing.collect.Goals as goal

pub keep-requires : goal.keep-requires
keep-requires g c =
    let n = c.requires.0 in
    let low : c.loop-part.part-index < length c.args.parts.now = omega arith in
    let fits : Fits n (cost_of c.part-item.result.product) = subst (λ (p : PlainPart). Fits n (cost_of p.product)) (sym c.part-item.is) (c.requires.2 c.loop-part.part-index c.part-item.result low).1 in
    Fits-sum n 1 (cost_of c.part-item.result.product) (cost_of c.plain_cost-last.result) (omega (arith, c.requires.1)) fits c.plain_cost-last.ensures.fits

pub loop-part-preserved : goal.loop-part-preserved
loop-part-preserved g c =
    let kind = g.W.Weight.KIND in
    let value = g.W.Weight.value in
    let fst = c.args.fst.now in
    let graph = graph_of (valued value fst) in
    let part = c.part-item.result in
    let i = c.loop-part.part-index in
    let low : i < length c.args.parts.now = omega arith in
    let final : cost_of c.plain_cost-last.result ≡ graph.final part.end = c.plain_cost-last.ensures.value ∙ sym (graph_final value fst part.end c.final_weight.result c.final_weight.ensures) in
    let front = map part_of (take i c.args.parts.now) in
    let longer : map part_of (take (i + 1) c.args.parts.now) ≡ front ++ part_of part ∷ [] = map_more part_of c.args.parts.now i part low ∙ ap (λ (p : PlainPart). front ++ part_of p ∷ []) (sym c.part-item.is) in
    c.in_ok-keep.ensures ∙ ((λ j. kept (c.KIND.ensures j) (final j) (part_of part) (c.loop-part.invariant j)) ∙ (sym (collected-push kind graph front (part_of part) []) ∙ ap (λ (ps : List Part). collected kind graph ps []) (sym longer)))
