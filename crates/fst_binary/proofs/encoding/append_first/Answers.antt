use Rattle.std.proofs.Common.{◌≡◌, ◌+◌, ◌++◌, map, drop, sym, ap, ◌∙◌, arith}
use Rattle.std.specs.List.{flat_map}
use Rattle.std.proofs.lemmas.List.{drop-map}
use Rattle.fst_machine.specs.Machine.{State, valued_arc, valued_state}
use Rattle.fst_semiring.specs.Cost.{Cost}
use Rattle.fst_binary.specs.Spelling.{state_fields}
use Rattle.fst_binary.proofs.Lists.{state_left}
use Rattle.fst_bytes.proofs.Lists.{item_fits, item_written}
use Rattle.fst_binary.proofs.encoding.append_first.Goals as goal

pub append_state-requires : goal.append_state-requires
append_state-requires g c =
    let value = g.W.Weight.value in
    let i = c.loop-place.place in
    let states = map (valued_state value) (g.S.States.states c.args.states.now) in
    let state : State Cost = record { final = value c.final_at.result; arcs = map (valued_arc value) c.arcs_at.result.now } in
    let left = state_left value (g.S.States.states c.args.states.now) i c.final_at.result c.arcs_at.result.now c.final_at.ensures c.arcs_at.ensures in
    item_fits (state_fields g.W.Weight.KIND) c.loop-place.out.items state (drop (i + 1) states) (drop i states) _ _ left c.loop-place.invariant.whole c.loop-place.invariant.room

pub loop-place-preserved : goal.loop-place-preserved
loop-place-preserved g c =
    let value = g.W.Weight.value in
    let fields = state_fields g.W.Weight.KIND in
    let i = c.loop-place.place in
    let states = map (valued_state value) (g.S.States.states c.args.states.now) in
    let state : State Cost = record { final = value c.final_at.result; arcs = map (valued_arc value) c.arcs_at.result.now } in
    let left = state_left value (g.S.States.states c.args.states.now) i c.final_at.result c.arcs_at.result.now c.final_at.ensures c.arcs_at.ensures in
    let written = item_written fields c.loop-place.out.items state (drop (i + 1) states) (drop i states) _ left c.loop-place.invariant.whole in
    record {
      whole = ap (λ items. items ++ flat_map fields (drop (i + 1) states)) c.append_state.ensures.items ∙ written;
      room = omega (arith, c.loop-place.invariant.room, c.append_state.ensures.room);
      grows = omega (arith, c.loop-place.invariant.grows, c.append_state.ensures.room);
    }

pub returns-clause-items : goal.returns-clause-items
returns-clause-items g c =
    let value = valued_state g.W.Weight.value in
    let fields = state_fields g.W.Weight.KIND in
    let states = map value (g.S.States.states c.args.states.now) in
    let done : c.loop-place.place ≡ c.args.count = omega (arith, c.loop-place-test.false, c.loop-place.auto.place-end) in
    ap (λ rest. c.loop-place.out.items ++ flat_map fields rest) (sym (drop-map value c.args.count (g.S.States.states c.args.states.now)) ∙ ap (λ n. drop n states) (sym done)) ∙ c.loop-place.invariant.whole
