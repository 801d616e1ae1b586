use Rattle.std.proofs.Common.{◌+◌, List, length, map, sym, subst, arith}
use Rattle.fst_machine.specs.Machine.{valued}
use Rattle.fst_machine.specs.Graph.{graph_of}
use Rattle.fst_plain.specs.declared.path.PlainPart.{PlainPart}
use Rattle.fst_plain.specs.PlainPaths.{AllGood, ArePartsBelow, Part, part_of}
use Rattle.fst_plain.proofs.Parts.{parts_more}
use Rattle.fst_plain.proofs.listing.parts_within.Goals as goal

pub longer-requires-in-loop-round-clause-good : goal.longer-requires-in-loop-round-clause-good
longer-requires-in-loop-round-clause-good g c = (c.loop-round._round + 1, omega arith, subst (λ (ps : List PlainPart). AllGood (length c.args.fst.now.states) (c.loop-round._round + 1) ps) (sym c.as_slice-in-loop-round.ensures.value) c.loop-round.invariant.good)

pub loop-round-preserved : goal.loop-round-preserved
loop-round-preserved g c =
    let kind = g.W.Weight.KIND in
    let graph = graph_of (valued g.W.Weight.value c.args.fst.now) in
    let k = c.loop-round._round + 1 in
    let r = c.in_ok-parts-2.ensures in
    let slice = c.as_slice-in-loop-round.result.now in
    let old : ArePartsBelow kind graph c.args.start k (map part_of slice) = subst (λ (ps : List PlainPart). ArePartsBelow kind graph c.args.start k (map part_of ps)) (sym c.as_slice-in-loop-round.ensures.value) c.loop-round.invariant.value in
    record {
      value = subst (λ (ps : List Part). ArePartsBelow kind graph c.args.start (k + 1) ps) (sym r.value) (parts_more kind graph c.args.start k (map part_of slice) old);
      good = r.good k (subst (λ (ps : List PlainPart). AllGood (length c.args.fst.now.states) k ps) (sym c.as_slice-in-loop-round.ensures.value) c.loop-round.invariant.good);
    }
