use Rattle.std.proofs.Common.{◌≡◌, ◌+◌, ◌<◌, ◌++◌, Some, length, map, take, slice_get, sym, ap, ◌∙◌, append_assoc, refl, arith}
use Rattle.std.proofs.lemmas.List.{take_all}
use Rattle.std.proofs.lemmas.Option.{slice_get_read}
use Rattle.fst_machine.specs.Graph.{renamed}
use Rattle.fst_machine.specs.Machine.{valued_arc}
use Rattle.fst_replace.specs.Calls.{call_of, calls_in}
use Rattle.fst_replace.specs.Expansion.{blocks_size, entered, entered_by}
use Rattle.fst_replace.specs.Rules.{labels_of, place_of}
use Rattle.fst_replace.specs.Totals.{shape_at, shifted, standing}
use Rattle.fst_replace.proofs.Emitting.{entered_more, size_more, size_within, standing_more, starts_within}
use Rattle.fst_replace.proofs.expand.put_arcs.Goals as goal

pub put_arc-requires-clause-starts : goal.put_arc-requires-clause-starts
put_arc-requires-clause-starts g c =
    let arcs = c.args.arcs.now in
    let low : c.loop-arc.arc-index < length arcs = omega arith in
    let there : slice_get arcs c.loop-arc.arc-index ≡ Some c.arc-item.result = slice_get_read arcs (length arcs) c.loop-arc.arc-index c.arc-item.result refl low c.arc-item.is in
    starts_within (labels_of c.args.rules.now) (shape_at c.args.shapes.now) g.W.Weight.value arcs c.loop-arc.arc-index c.arc-item.result there c.requires.starts

pub put_arc-requires-clause-room : goal.put_arc-requires-clause-room
put_arc-requires-clause-room g c =
    let arcs = c.args.arcs.now in
    let low : c.loop-arc.arc-index < length arcs = omega arith in
    let there : slice_get arcs c.loop-arc.arc-index ≡ Some c.arc-item.result = slice_get_read arcs (length arcs) c.loop-arc.arc-index c.arc-item.result refl low c.arc-item.is in
    let few = size_within (labels_of c.args.rules.now) (shape_at c.args.shapes.now) g.W.Weight.value arcs c.loop-arc.arc-index c.arc-item.result there in
    omega (arith, few, c.loop-arc.invariant.next, c.requires.room)

pub loop-arc-preserved : goal.loop-arc-preserved
loop-arc-preserved g c =
    let value = g.W.Weight.value in
    let arcs = c.args.arcs.now in
    let i = c.loop-arc.arc-index in
    let a = c.arc-item.result in
    let labels = labels_of c.args.rules.now in
    let s = shape_at c.args.shapes.now in
    let at = c.args.at in
    let f = c.in_ok-next.ensures in
    let low : i < length arcs = omega arith in
    let there : slice_get arcs i ≡ Some a = slice_get_read arcs (length arcs) i a refl low c.arc-item.is in
    let old = map (valued_arc value) c.args.own.now.items in
    let done = map (renamed (λ p. at + p)) (entered labels s c.args.block (map (valued_arc value) (take i arcs))) in
    let here = map (renamed (λ p. at + p)) (entered_by s (c.args.block + blocks_size labels s (calls_in labels (take i arcs))) (valued_arc value a) (place_of labels a.olabel)) in
    record {
      own = f.own ∙ (ap (λ n. map (valued_arc value) c.loop-arc.own.items ++ map (renamed (λ p. at + p)) (entered_by s n (valued_arc value a) (place_of labels a.olabel))) c.loop-arc.invariant.next
          ∙ (ap (λ zs. zs ++ here) c.loop-arc.invariant.own ∙ (append_assoc old done here
          ∙ ap (λ zs. old ++ zs) (sym (entered_more labels s value arcs i a there c.args.block at)))));
      calls = f.calls ∙ (ap (λ zs. zs ++ map (shifted at) (standing s (call_of labels a))) c.loop-arc.invariant.calls
          ∙ (append_assoc c.args.calls.now.items (map (shifted at) (standing s (calls_in labels (take i arcs)))) (map (shifted at) (standing s (call_of labels a)))
          ∙ ap (λ zs. c.args.calls.now.items ++ zs) (sym (standing_more labels s value arcs i a there at))));
      next = let more = size_more labels s value arcs i a there in omega (arith, f.next, c.loop-arc.invariant.next, more);
    }

pub returns-clause-own : goal.returns-clause-own
returns-clause-own g c = c.loop-arc.invariant.own ∙ ap (λ zs. map (valued_arc g.W.Weight.value) c.args.own.now.items ++ map (renamed (λ p. c.args.at + p)) (entered (labels_of c.args.rules.now) (shape_at c.args.shapes.now) c.args.block (map (valued_arc g.W.Weight.value) zs))) (take_all c.loop-arc.arc-index c.args.arcs.now (omega arith))

pub returns-clause-next : goal.returns-clause-next
returns-clause-next g c = c.loop-arc.invariant.next ∙ ap (λ zs. c.args.block + blocks_size (labels_of c.args.rules.now) (shape_at c.args.shapes.now) (calls_in (labels_of c.args.rules.now) zs)) (take_all c.loop-arc.arc-index c.args.arcs.now (omega arith))
