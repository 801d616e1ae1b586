use Rattle.std.proofs.Common.{◌≡◌, ◌<◌, ◌+◌, ◌-◌, ℕ, Some, slice_get, length, sym, ap, ◌∙◌, arith}
use Rattle.std.proofs.lemmas.Option.{slice_get_within}
use Rattle.fst_machine.specs.Machine.{Arc}
use Rattle.fst_trim.specs.FirstArcs.{Repeats}
use Rattle.fst_trim.proofs.Places.{read_here, none_more, new_label, first_is_new, next_is_new}
use Rattle.fst_trim.proofs.repeat.repeat_in_sorted.Goals as goal

pub loop-place-init : goal.loop-place-init
loop-place-init g c = first_is_new c.args.arcs.now

pub returns-then-before-arc : goal.returns-then-before-arc
returns-then-before-arc g c =
    let b = c.index-arcs-place.result in
    let a = c.index-arcs-place-in-loop-place.result in
    let before : c.before-in-loop-place.inside.ilabel ≡ b.ilabel = ap (λ (d : Arc g.row.W.Denot ℕ). d.ilabel) c.before-in-loop-place.view_is in
    let here : c.arc.inside.ilabel ≡ a.ilabel = ap (λ (d : Arc g.row.W.Denot ℕ). d.ilabel) c.arc.view_is in (
      record {
        arc = a;
        there = read_here c.args.arcs.now c.loop-place.place a (omega arith) c.index-arcs-place-in-loop-place.is;
        repeated = record {
          earlier = c.loop-place.place - 1;
          arc = b;
          before = omega (arith, c.loop-place.auto.place);
          there = read_here c.args.arcs.now (c.loop-place.place - 1) b (omega arith) c.index-arcs-place.is;
          same = sym before ∙ (c.if-before-arc.true ∙ here);
        };
      },
      c.loop-place.invariant,
    )

pub loop-place-preserved : goal.loop-place-preserved
loop-place-preserved g c =
    let b = c.index-arcs-place.result in
    let a = c.index-arcs-place-in-loop-place.result in
    let before : c.before-in-loop-place.inside.ilabel ≡ b.ilabel = ap (λ (d : Arc g.row.W.Denot ℕ). d.ilabel) c.before-in-loop-place.view_is in
    let here : c.arc.inside.ilabel ≡ a.ilabel = ap (λ (d : Arc g.row.W.Denot ℕ). d.ilabel) c.arc.view_is in
    let there : slice_get c.args.arcs.now (c.loop-place.place - 1) ≡ Some b = read_here c.args.arcs.now (c.loop-place.place - 1) b (omega arith) c.index-arcs-place.is in
    let at : slice_get c.args.arcs.now c.loop-place.place ≡ Some a = read_here c.args.arcs.now c.loop-place.place a (omega arith) c.index-arcs-place-in-loop-place.is in
    let next : (c.loop-place.place - 1) + 1 ≡ c.loop-place.place = omega (arith, c.loop-place.auto.place) in
    let other : b.ilabel ≡ a.ilabel → ⊥ = λ same. c.if-before-arc.false (before ∙ (same ∙ sym here)) in
    none_more Repeats c.args.arcs.now c.loop-place.place c.loop-place.invariant (new_label c.args.arcs.now c.loop-place.place a at (next_is_new c.args.arcs.now (c.loop-place.place - 1) c.loop-place.place b a c.requires.sorted next there at other))

pub returns : goal.returns
returns g c place h =
    let low : place < length c.args.arcs.now = slice_get_within c.args.arcs.now place h.arc h.there in
    c.loop-place.invariant place (omega arith) h
