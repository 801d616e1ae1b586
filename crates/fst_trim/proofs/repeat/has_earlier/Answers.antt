use Rattle.std.proofs.Common.{◌≡◌, ◌⊎◌, inl, inr, ℕ, Some, slice_get, refl, sym, ap, ◌∙◌, arith}
use Rattle.fst_machine.specs.Machine.{Arc}
use Rattle.fst_trim.specs.FirstArcs.{HasEarlier}
use Rattle.fst_trim.proofs.Places.{read_here, earlier_cases}
use Rattle.fst_trim.proofs.repeat.has_earlier.Goals as goal

pub returns-then-arc-label : goal.returns-then-arc-label
returns-then-arc-label g c =
    let a = c.index-arcs-earlier.result in
    let ilabel : c.arc.inside.ilabel ≡ a.ilabel = ap (λ (b : Arc g.row.W.Denot ℕ). b.ilabel) c.arc.view_is in (
      (λ found. record {
        earlier = c.loop-earlier.earlier;
        arc = a;
        before = omega arith;
        there = read_here c.args.arcs.now c.loop-earlier.earlier a (omega arith) c.index-arcs-earlier.is;
        same = sym ilabel ∙ c.if-arc-label.true;
      }),
      (λ h. refl),
    )

pub loop-earlier-preserved : goal.loop-earlier-preserved
loop-earlier-preserved g c h =
    let a = c.index-arcs-earlier.result in
    let ilabel : c.arc.inside.ilabel ≡ a.ilabel = ap (λ (b : Arc g.row.W.Denot ℕ). b.ilabel) c.arc.view_is in
    let there : slice_get c.args.arcs.now c.loop-earlier.earlier ≡ Some a = read_here c.args.arcs.now c.loop-earlier.earlier a (omega arith) c.index-arcs-earlier.is in
    let none : HasEarlier c.args.arcs.now c.loop-earlier.earlier c.args.label → ⊥ = c.loop-earlier.invariant in
    let other : a.ilabel ≡ c.args.label → ⊥ = λ same. c.if-arc-label.false (ilabel ∙ same) in
    neither none other (earlier_cases c.args.arcs.now c.loop-earlier.earlier c.args.label a there h)
  where
    neither : {P Q : Type 0} → (P → ⊥) → (Q → ⊥) → P ⊎ Q → ⊥
    neither none other (inl p) = none p
    neither none other (inr q) = other q
