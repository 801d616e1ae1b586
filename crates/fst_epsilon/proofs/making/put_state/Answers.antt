use Rattle.std.proofs.Common.{◌≡◌, ◌+◌, ℕ, length, map, min, sym, ap, ◌∙◌}
use Rattle.std.proofs.lemmas.List.{length-map}
use Rattle.std.proofs.lemmas.Bool.Decides.{not_from_Decides}
use Rattle.fst_machine.specs.Machine.{valued_arc, valued_state}
use Rattle.fst_epsilon.proofs.Growing.{after_none, after_none_out, after_past, made_many}
use Rattle.fst_epsilon.proofs.making.put_state.Goals.{then-output-via-then-output, then-output-via-else-output+then-is_some}
use Rattle.fst_epsilon.proofs.making.put_state.Goals as goal

pub returns-then-output : goal.returns-then-output
returns-then-output g c all at made =
    let wide = g.W.Weight.wide_value in
    let kept = map (valued_state g.W.Weight.value) c.args.output.now.states in
    let total = c.args.output.now.total in
    let count = c.saturating_add-output.result in
    let s = valued_state wide (record { final = c.args.last; arcs = c.args.arcs.now }) in
    let size : count ≡ min (total + length s.arcs) 18446744073709551615 = c.saturating_add-output.ensures ∙ ap (λ (n : ℕ). min (total + n) 18446744073709551615) (sym (length-map c.args.arcs.now (valued_arc wide))) in
    elim c.then-output.branch [ then-output-via-then-output w ↦ made_many all kept total count s size kept c.args.output.now.overflow made w.if-output.true | then-output-via-else-output+then-is_some w ↦ after_past all kept total count s size c.args.output.now.overflow (sym w.is_some.ensures ∙ w.if-is_some.true) made ]

pub returns-then-not-branch : goal.returns-then-not-branch
returns-then-not-branch g c all at made =
    let wide = g.W.Weight.wide_value in
    let value = g.W.Weight.value in
    let kept = map (valued_state value) c.args.output.now.states in
    let total = c.args.output.now.total in
    let count = c.saturating_add-output.result in
    let s = valued_state wide (record { final = c.args.last; arcs = c.args.arcs.now }) in
    let size : count ≡ min (total + length s.arcs) 18446744073709551615 = c.saturating_add-output.ensures ∙ ap (λ (n : ℕ). min (total + n) 18446744073709551615) (sym (length-map c.args.arcs.now (valued_arc wide))) in
    after_none_out all kept total count s size c.args.output.now.overflow (map (valued_state value) c.narrow_state.new.list) c.args.state (sym c.is_some.ensures ∙ c.if-is_some.false) at made (not_from_Decides _ c.in_ok-narrow_state.ensures.fits c.if-not-branch.true)

pub returns-else-not-branch : goal.returns-else-not-branch
returns-else-not-branch g c all at made =
    let wide = g.W.Weight.wide_value in
    let value = g.W.Weight.value in
    let kept = map (valued_state value) c.args.output.now.states in
    let total = c.args.output.now.total in
    let count = c.saturating_add-output.result in
    let s = valued_state wide (record { final = c.args.last; arcs = c.args.arcs.now }) in
    let size : count ≡ min (total + length s.arcs) 18446744073709551615 = c.saturating_add-output.ensures ∙ ap (λ (n : ℕ). min (total + n) 18446744073709551615) (sym (length-map c.args.arcs.now (valued_arc wide))) in
    after_none all kept total count s size c.args.output.now.overflow (map (valued_state value) c.narrow_state.new.list) (sym c.is_some.ensures ∙ c.if-is_some.false) made (c.in_ok-narrow_state.ensures.fits.0 c.if-not-branch.false) (c.in_ok-narrow_state.ensures.list c.if-not-branch.false)
