use Rattle.std.proofs.Common.{◌≡◌, ◌<◌, ℕ, Some, slice_get, length, sym, ap, ◌∙◌, arith}
use Rattle.std.proofs.lemmas.Option.{slice_get_within}
use Rattle.fst_machine.specs.Machine.{Arc}
use Rattle.fst_setops.specs.Unweighted.{ReadsEpsilon}
use Rattle.fst_trim.proofs.Places.{read_here, none_more}
use Rattle.fst_setops.proofs.Unweighing.{reads_label}
use Rattle.fst_setops.proofs.unweighted.epsilon_in.Goals as goal

pub returns-then-arc-eq0 : goal.returns-then-arc-eq0
returns-then-arc-eq0 g c =
    let a = c.index-arcs-place.result in
    let ilabel : c.arc.inside.ilabel ≡ a.ilabel = ap (λ (b : Arc g.row.W.Denot ℕ). b.ilabel) c.arc.view_is in (
      record { arc = a; there = read_here c.args.arcs.now c.loop-place.place a (omega arith) c.index-arcs-place.is; epsilon = sym ilabel ∙ c.if-arc-eq0.true },
      c.loop-place.invariant,
    )

pub loop-place-preserved : goal.loop-place-preserved
loop-place-preserved g c =
    let a = c.index-arcs-place.result in
    let ilabel : c.arc.inside.ilabel ≡ a.ilabel = ap (λ (b : Arc g.row.W.Denot ℕ). b.ilabel) c.arc.view_is in
    let there : slice_get c.args.arcs.now c.loop-place.place ≡ Some a = read_here c.args.arcs.now c.loop-place.place a (omega arith) c.index-arcs-place.is in
    none_more ReadsEpsilon c.args.arcs.now c.loop-place.place c.loop-place.invariant (reads_label c.args.arcs.now c.loop-place.place a there (λ e. c.if-arc-eq0.false (ilabel ∙ e)))

pub returns : goal.returns
returns g c place h =
    let low : place < length c.args.arcs.now = slice_get_within c.args.arcs.now place h.arc h.there in
    c.loop-place.invariant place (omega arith) h
