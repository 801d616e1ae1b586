use Rattle.std.proofs.Common.{ℕ, All, Some, map, sym, ap, ◌∙◌, subst, arith}
use Rattle.std.proofs.lemmas.Bool.Decides.{not_from_Decides}
use Rattle.std.proofs.lemmas.List.Elements.{All-nil}
use Rattle.fst_semiring.specs.Semiring.{InRange}
use Rattle.fst_machine.specs.Cycles.{IsAccessible}
use Rattle.fst_machine.specs.Graph.{graph_of}
use Rattle.fst_machine.specs.Machine.{Arc, valued, valued_arc, valued_state}
use Rattle.fst_epsilon.proofs.Growing.{near_state}
use Rattle.fst_epsilon.proofs.Whole.{far_state, removing_more}
use Rattle.fst_epsilon.proofs.removing.put_all.Goals as goal

pub loop-state-preserved-then-not-marks-state : goal.loop-state-preserved-then-not-marks-state
loop-state-preserved-then-not-marks-state g c =
    let value = g.W.Weight.value in
    let kind = g.W.Weight.KIND in
    let graph = graph_of (valued value c.args.fst.now) in
    let i = c.loop-state.state in
    let s = valued_state value (record { final = c.zero.result; arcs = c.as_slice.result.now }) in
    let far : IsAccessible graph i → ⊥ = not_from_Decides _ (c.requires.marks i) c.if-not-marks-state.true in
    let here = far_state kind graph i s far (ap (map (valued_arc value)) (c.as_slice.ensures.value ∙ c.new-none.ensures.items)) c.zero.ensures in
    record {
      closures = c.loop-state.invariant.closures;
      empty = c.loop-state.invariant.empty;
      within = omega arith;
      removing = removing_more kind graph i s (map (valued_state value) c.loop-state.output.states) (map (valued_state value) c.put_near.new.output.states) c.loop-state.output.total c.put_near.new.output.total c.loop-state.output.overflow c.put_near.new.output.overflow here c.loop-state.invariant.removing (λ all at made. c.in_ok-put_near.ensures all made);
    }

pub put_closure-requires-clause-near : goal.put_closure-requires-clause-near
put_closure-requires-clause-near g c = (c.requires.marks c.loop-state.state).0 c.if-not-marks-state.false

pub put_near-requires-clause-range : goal.put_near-requires-clause-range
put_near-requires-clause-range g c =
    let value = g.W.Weight.value in
    near_state value (Some c.zero.result) c.as_slice.result.now (subst InRange (sym c.zero.ensures) tt)
    (subst (All (λ (a : Arc g.row.W.Denot ℕ). InRange (value a.weight))) (sym (c.as_slice.ensures.value ∙ c.new-none.ensures.items)) (All-nil (λ (a : Arc g.row.W.Denot ℕ). InRange (value a.weight))))
