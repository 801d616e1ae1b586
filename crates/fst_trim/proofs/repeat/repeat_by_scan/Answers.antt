use Rattle.std.proofs.Common.{◌≡◌, ◌<◌, ℕ, Some, slice_get, length, true, false, sym, ap, ◌∙◌, subst, arith}
use Rattle.std.proofs.lemmas.Option.{slice_get_within}
use Rattle.fst_machine.specs.Machine.{Arc}
use Rattle.fst_trim.specs.FirstArcs.{HasEarlier, Repeats}
use Rattle.fst_trim.proofs.Places.{read_here, none_more, new_label}
use Rattle.fst_trim.proofs.repeat.repeat_by_scan.Goals as goal

pub returns-then-has_earlier : goal.returns-then-has_earlier
returns-then-has_earlier g c =
    let a = c.index-arcs-place.result in
    let ilabel : c.arc.inside.ilabel ≡ a.ilabel = ap (λ (b : Arc g.row.W.Denot ℕ). b.ilabel) c.arc.view_is in (
      record {
        arc = a;
        there = read_here c.args.arcs.now c.loop-place.place a (omega arith) c.index-arcs-place.is;
        repeated = subst (λ (label : ℕ). HasEarlier c.args.arcs.now c.loop-place.place label) ilabel (c.has_earlier.ensures.0 c.if-has_earlier.true);
      },
      c.loop-place.invariant,
    )

pub loop-place-preserved : goal.loop-place-preserved
loop-place-preserved g c =
    let a = c.index-arcs-place.result in
    let ilabel : c.arc.inside.ilabel ≡ a.ilabel = ap (λ (b : Arc g.row.W.Denot ℕ). b.ilabel) c.arc.view_is in
    let there : slice_get c.args.arcs.now c.loop-place.place ≡ Some a = read_here c.args.arcs.now c.loop-place.place a (omega arith) c.index-arcs-place.is in
    let none : HasEarlier c.args.arcs.now c.loop-place.place a.ilabel → ⊥ = λ h. let wrong : false ≡ true = sym c.if-has_earlier.false ∙ c.has_earlier.ensures.1 (subst (λ (label : ℕ). HasEarlier c.args.arcs.now c.loop-place.place label) (sym ilabel) h) in absurd (cc) in
    none_more Repeats c.args.arcs.now c.loop-place.place c.loop-place.invariant (new_label c.args.arcs.now c.loop-place.place a there none)

pub returns : goal.returns
returns g c place h =
    let low : place < length c.args.arcs.now = slice_get_within c.args.arcs.now place h.arc h.there in
    c.loop-place.invariant place (omega arith) h
