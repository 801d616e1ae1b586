use Rattle.std.proofs.Common.{◌≡◌, ◌-◌, List, Bool, true, false, length, subst, sym, ◌∙◌, arith}
use Rattle.fst_machine.specs.Machine.{valued}
use Rattle.fst_machine.specs.Graph.{graph_of}
use Rattle.fst_trim.specs.Back.{LeadsTo}
use Rattle.fst_trim.proofs.Backward.{grows_length, leads_back, leads_nowhere, sweep_added, sweep_adds, sweep_passed}
use Rattle.fst_trim.proofs.useful.sweep.Goals as goal

pub loop-left-preserved-in-Continue-1 : goal.loop-left-preserved-in-Continue-1
loop-left-preserved-in-Continue-1 g c =
    let l = c.loop-left in
    let i = l.invariant in
    let value = g.W.Weight.value in
    let m = c.args.fst.now in
    let at = l.left - 1 in
    let f = c.in_ok-find.ensures in
    let leads : LeadsTo l.seen.items c.arcs.result.now = subst (λ (marks : List Bool). LeadsTo marks c.arcs.result.now) c.as_slice.ensures.value (c.leads_to.ensures.0 c.if-leads_to.true) in
    let arc = leads_back value m l.names.items l.seen.items i.marks at c.arcs.result.now c.arcs.ensures leads in
    let more = grows_length l.names.items c.find.new.names.items at f.grows in
    record {
      walking = sweep_adds (graph_of (valued value m)) l.names.items c.find.new.names.items at arc.0 arc.1 i.walking arc.2 arc.3 f.grows;
      marks = f.marks;
      size = f.size ∙ i.size;
      within = omega (arith, i.within);
      grown = omega (arith, i.grown, more);
      still = sweep_added (graph_of (valued value m)) l.names.items c.find.new.names.items l.left at (length c.args.names.now.items) (omega (arith, c.loop-left-test.true)) i.still i.grown f.grows;
    }

pub loop-left-preserved : goal.loop-left-preserved
loop-left-preserved g c =
    let l = c.loop-left in
    let i = l.invariant in
    let value = g.W.Weight.value in
    let m = c.args.fst.now in
    let at = l.left - 1 in
    let none : LeadsTo l.seen.items c.arcs.result.now → ⊥ =
    λ leads. let wrong : false ≡ true = sym c.if-leads_to.false ∙ c.leads_to.ensures.1 (subst (λ (marks : List Bool). LeadsTo marks c.arcs.result.now) (sym c.as_slice.ensures.value) leads) in absurd (cc) in
    record {
      walking = i.walking;
      marks = i.marks;
      size = i.size;
      within = omega (arith, i.within);
      grown = i.grown;
      still = λ few. sweep_passed (graph_of (valued value m)) l.names.items l.left at (omega (arith, c.loop-left-test.true)) (i.still few) (leads_nowhere value m l.names.items l.seen.items i.marks at c.arcs.result.now c.arcs.ensures none);
    }
