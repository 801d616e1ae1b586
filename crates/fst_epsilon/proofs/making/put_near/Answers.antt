use Rattle.std.proofs.Common.{◌≡◌, ◌+◌, ◌∷◌, [], ℕ, length, map, min, sym, ap, ◌∙◌}
use Rattle.std.proofs.lemmas.List.{length-map, map-append}
use Rattle.fst_machine.specs.Machine.{State, valued_arc, valued_state}
use Rattle.fst_epsilon.proofs.Growing.{after_none, after_past, made_many}
use Rattle.fst_epsilon.proofs.making.put_near.Goals.{then-output-via-then-output, then-output-via-else-output+then-is_some}
use Rattle.fst_epsilon.proofs.making.put_near.Goals as goal

pub returns-then-output : goal.returns-then-output
returns-then-output g c all made =
    let value = g.W.Weight.value in
    let kept = map (valued_state value) c.args.output.now.states in
    let total = c.args.output.now.total in
    let count = c.saturating_add-output.result in
    let s = valued_state value (record { final = c.args.last; arcs = c.args.arcs.now }) in
    let size : count ≡ min (total + length s.arcs) 18446744073709551615 = c.saturating_add-output.ensures ∙ ap (λ (n : ℕ). min (total + n) 18446744073709551615) (sym (length-map c.args.arcs.now (valued_arc value))) in
    elim c.then-output.branch [ then-output-via-then-output w ↦ made_many all kept total count s size kept c.args.output.now.overflow made w.if-output.true | then-output-via-else-output+then-is_some w ↦ after_past all kept total count s size c.args.output.now.overflow (sym w.is_some.ensures ∙ w.if-is_some.true) made ]

pub returns : goal.returns
returns g c all made =
    let value = g.W.Weight.value in
    let kept = map (valued_state value) c.args.output.now.states in
    let total = c.args.output.now.total in
    let count = c.saturating_add-output.result in
    let own : State g.row.W.Denot = record { final = c.args.last; arcs = c.args.arcs.now } in
    let s = valued_state value own in
    let size : count ≡ min (total + length s.arcs) 18446744073709551615 = c.saturating_add-output.ensures ∙ ap (λ (n : ℕ). min (total + n) 18446744073709551615) (sym (length-map c.args.arcs.now (valued_arc value))) in
    after_none all kept total count s size c.args.output.now.overflow (map (valued_state value) c.push.new.self) (sym c.is_some.ensures ∙ c.if-is_some.false) made c.requires.range
    (ap (map (valued_state value)) c.in_ok-push.ensures.ok ∙ map-append (valued_state value) c.args.output.now.states (own ∷ []))
