use Rattle.std.proofs.Common.{◌<◌, ℕ, length, sym, ap, ◌∙◌, subst}
use Rattle.std.specs.List.{All}
use Rattle.std.proofs.lemmas.List.Elements.{All-push}
use Rattle.fst_semiring.specs.Semiring.{times, IsCost, Within}
use Rattle.fst_semiring.specs.Division.{push_quotient}
use Rattle.fst_machine.specs.Machine.{Arc, valued_arc}
use Rattle.fst_machine.proofs.Changes.{read_as}
use Rattle.fst_distance.specs.Pushing.{pushed_by}
use Rattle.fst_distance.specs.Values.{most_pushed, value_in}
use Rattle.fst_distance.proofs.Lists.{map_step, value_read}
use Rattle.fst_distance.proofs.pushing.put_pushed.Goals as goal

pub loop-arc-preserved : goal.loop-arc-preserved
loop-arc-preserved g c =
    let w = g.W.Weight in
    let inside = c.arc.inside in
    let y : Arc _ ℕ = record { ilabel = inside.ilabel; olabel = inside.olabel; weight = inside.weight; next = inside.next } in
    let read = read_as c.args.arcs.now c.loop-arc.arc-index y c.arc-item.result c.arc.view_is c.arc-item.is in
    let near = subst (λ (a : Arc _ ℕ). a.next < length c.args.distances.now) (sym read) (c.requires.ends c.loop-arc.arc-index y c.loop-arc-test.true) in
    let value = value_read w.wide_value c.args.distances.now inside.next c.index-distances-arc.result near c.index-distances-arc.is in
    let weight = c.push_weight-weight.ensures.pushed ∙ ap (λ v. push_quotient w.KIND (times w.KIND (w.value inside.weight) v) (w.wide_value c.args.own)) (sym value) in
    let x : Arc _ ℕ = record { ilabel = inside.ilabel; olabel = inside.olabel; weight = c.push_weight-weight.result; next = inside.next } in
    record {
      arcs = map_step (valued_arc w.wide_value) (λ a. pushed_by w.KIND (value_in w.wide_value c.args.distances.now) (w.wide_value c.args.own) (valued_arc w.value a)) c.loop-arc.out.items c.push.new.self.items x c.args.arcs.now c.loop-arc.arc-index y c.loop-arc-test.true read
          c.in_ok-push.ensures.items (λ j. record { ilabel = inside.ilabel; olabel = inside.olabel; weight = weight j; next = inside.next }) c.loop-arc.invariant.arcs;
      good = subst (All (λ a. IsCost w.KIND (w.wide_value a.weight) × Within most_pushed (w.wide_value a.weight))) (sym c.in_ok-push.ensures.items)
          (All-push (λ a. IsCost w.KIND (w.wide_value a.weight) × Within most_pushed (w.wide_value a.weight)) c.loop-arc.out.items x c.loop-arc.invariant.good (c.push_weight-weight.ensures.kind, c.push_weight-weight.ensures.range));
    }
