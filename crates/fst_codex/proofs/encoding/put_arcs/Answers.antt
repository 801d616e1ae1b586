use Rattle.std.proofs.Common.{◌≡◌, map, take, sym, subst₂, ◌++◌, ◌∷◌, [], List, ◌+◌, ℕ, arith}
use Rattle.std.proofs.lemmas.List.{map-append}
use Rattle.fst_semiring.specs.Cost.{Cost}
use Rattle.fst_machine.specs.Machine.{Arc, valued_arc}
use Rattle.fst_codex.specs.Coding.{PutsArcs}
use Rattle.fst_codex.specs.Table.{valued_table}
use Rattle.fst_codex.proofs.Putting.{arc_next, items_more}
use Rattle.fst_codex.proofs.encoding.put_arcs.Goals as goal

pub loop-arc-preserved : goal.loop-arc-preserved
loop-arc-preserved g c =
    let value = g.W.Weight.value in
    let kind = g.W.Weight.KIND in
    let i = c.loop-arc.arc-index in
    let arc = c.arc-item.result in
    let old = valued_table value c.args.coder.now in
    let mid = valued_table value c.loop-arc.coder in
    let new = valued_table value c.encode.new.self in
    let so_far = map (valued_arc value) (take i c.args.arcs.now) in
    let out = map (valued_arc value) c.loop-arc.out.items in
    let more = arc_next kind so_far out old mid new (valued_arc value arc) (valued_arc value c.in_ok-encode.field-0) c.loop-arc.invariant.put c.encode.ensures.flag c.in_ok-encode.ensures.grown c.in_ok-encode.ensures.encoded c.encode.ensures.range in
    let read : map (valued_arc value) (take (i + 1) c.args.arcs.now) ≡ so_far ++ valued_arc value arc ∷ [] = items_more (valued_arc value) c.args.arcs.now i arc c.loop-arc-test.true c.arc-item.is in
    let written : map (valued_arc value) c.push.new.self.items ≡ out ++ valued_arc value c.in_ok-encode.field-0 ∷ [] = rw c.in_ok-push.ensures.items (map-append (valued_arc value) c.loop-arc.out.items (c.in_ok-encode.field-0 ∷ [])) in
    record {
      put = subst₂ (λ (xs ys : List (Arc Cost ℕ)). PutsArcs kind c.args.coder.now.weights xs old new ys) (sym read) (sym written) more;
      few = omega (arith, c.in_ok-encode.ensures.few, c.loop-arc.invariant.few);
    }
