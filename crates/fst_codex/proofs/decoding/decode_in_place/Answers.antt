use Rattle.std.proofs.Common.{◌≡◌, ◌++◌, ◌∷◌, ◌+◌, [], ℕ, List, map, take, length, refl, sym, ap, ◌∙◌, subst, arith}
use Rattle.std.specs.List.{All}
use Rattle.std.proofs.lemmas.List.{length-map, map-append}
use Rattle.fst_semiring.specs.Cost.{Cost}
use Rattle.fst_machine.specs.Machine.{Arc, IsArc, Machine, State, valued_arc, valued_state}
use Rattle.fst_machine.proofs.ArcsReplaced.{all_replaced, arcs_of_machine, counted_by, next_replaced}
use Rattle.fst_rational.proofs.States.{state_put}
use Rattle.fst_trim.proofs.Places.{above_all, above_more}
use Rattle.fst_codex.specs.Decoded.{PassesRange, decoded_arc, decoded_state}
use Rattle.fst_codex.specs.Table.{valued_table}
use Rattle.fst_codex.proofs.TurnedBack.{IsTable-valued, all_inside, arcs_fault, decoded_good}
use Rattle.fst_codex.proofs.decoding.decode_in_place.Goals as goal

pub decode_arcs-requires : goal.decode_arcs-requires
decode_arcs-requires g c =
    let m = c.args.machine.now in
    let next = next_replaced m.states c.loop-state.machine.states _ c.loop-state.state c.arcs.result.now [] c.loop-state.invariant.rest c.loop-state.invariant.size c.arcs.ensures refl in
    all_inside (length c.args.codex.now.entries) m c.loop-state.state c.arcs.result.now next.has c.requires.inside

pub returns-in-Err-clause-decoded : goal.returns-in-Err-clause-decoded
returns-in-Err-clause-decoded g c =
    let m = c.args.machine.now in
    let next = next_replaced m.states c.loop-state.machine.states _ c.loop-state.state c.arcs.result.now [] c.loop-state.invariant.rest c.loop-state.invariant.size c.arcs.ensures refl in
    arcs_fault g.W.Weight.KIND g.W.Weight.value (valued_table g.W.Weight.value c.args.codex.now) m c.loop-state.state c.arcs.result.now c.decode_arcs.new.out.items c.in-Err.fault next.has c.loop-state.invariant.none c.in-Err.ensures

pub replace_arcs-requires-clause-size : goal.replace_arcs-requires-clause-size
replace_arcs-requires-clause-size g c =
    let value = g.W.Weight.value in
    let decode = decoded_arc g.W.Weight.KIND (valued_table value c.args.codex.now) in
    let arcs = c.arcs.result.now in
    let out = c.decode_arcs.new.out.items in
    let many : length out ≡ length arcs = sym (length-map out (valued_arc value)) ∙ (ap length c.in-Ok.ensures.0 ∙ (length-map (map (valued_arc value) arcs) decode ∙ length-map arcs (valued_arc value))) in
    counted_by _ arcs c.as_slice.result.now c.arcs.ensures (ap length c.as_slice.ensures.value ∙ many)

pub replace_arcs-requires-clause-arcs : goal.replace_arcs-requires-clause-arcs
replace_arcs-requires-clause-arcs g c =
    let value = g.W.Weight.value in
    let kind = g.W.Weight.KIND in
    let m = c.args.machine.now in
    let arcs = c.arcs.result.now in
    let next = next_replaced m.states c.loop-state.machine.states _ c.loop-state.state arcs [] c.loop-state.invariant.rest c.loop-state.invariant.size c.arcs.ensures refl in
    let good = arcs_of_machine value m c.loop-state.state arcs c.states-state-end.ensures.machine next.has in
    let own = decoded_good value kind (valued_table value c.args.codex.now) (IsTable-valued kind value c.args.codex.now c.requires.table) (length m.states) arcs c.decode_arcs.new.out.items c.in-Ok.ensures.0 good in
    subst (λ (n : ℕ). All (IsArc value n) c.as_slice.result.now) (sym c.loop-state.invariant.size) (subst (λ (xs : List (Arc g.row.W.Denot ℕ)). All (IsArc value (length m.states)) xs) (sym c.as_slice.ensures.value) own)

pub loop-state-preserved : goal.loop-state-preserved
loop-state-preserved g c =
    let value = g.W.Weight.value in
    let t = valued_table value c.args.codex.now in
    let change = decoded_state g.W.Weight.KIND t in
    let i = c.loop-state.state in
    let m = c.args.machine.now in
    let arcs = c.arcs.result.now in
    let own = c.as_slice.result.now in
    let now = c.loop-state.machine.states in
    let next = next_replaced m.states now c.replace_arcs.new.self.states i arcs own c.loop-state.invariant.rest c.loop-state.invariant.size c.arcs.ensures (ap (λ (k : Machine g.row.W.Denot). k.states) c.replace_arcs.ensures) in
    let last = next.last in
    let stands : map (valued_arc value) own ≡ map (decoded_arc g.W.Weight.KIND t) (map (valued_arc value) arcs) = ap (map (valued_arc value)) c.as_slice.ensures.value ∙ c.in-Ok.ensures.0 in
    let written : map (valued_state value) (take (i + 1) c.replace_arcs.new.self.states) ≡ map (valued_state value) (take i now) ++ change (record { final = value last; arcs = map (valued_arc value) arcs }) ∷ [] =
    ap (map (valued_state value)) next.done ∙ (map-append (valued_state value) (take i now) (record { final = last; arcs = own } ∷ []) ∙ ap (λ (xs : List (Arc Cost ℕ)). map (valued_state value) (take i now) ++ record { final = value last; arcs = xs } ∷ []) stands) in
    record {
      put = state_put value change m.states i last arcs next.final next.has [] (take i now) (take (i + 1) c.replace_arcs.new.self.states) c.loop-state.invariant.put written;
      none = above_more (PassesRange g.W.Weight.KIND value t) m i arcs next.has c.loop-state.invariant.none c.in-Ok.ensures.1;
      rest = next.rest;
      size = next.size;
      start = ap (λ (k : Machine g.row.W.Denot). k.start) c.replace_arcs.ensures ∙ c.loop-state.invariant.start;
    }

pub returns-clause-decoded : goal.returns-clause-decoded
returns-clause-decoded g c =
    let value = g.W.Weight.value in
    let kind = g.W.Weight.KIND in
    let t = valued_table value c.args.codex.now in
    let m = c.args.machine.now in
    let now = c.loop-state.machine.states in
    let all = all_replaced m.states now c.loop-state.state c.loop-state.invariant.size (omega (arith, c.loop-state-test.false, c.states-state-end.ensures.value)) in
    let whole : map (valued_state value) now ≡ map (decoded_state kind t) (map (valued_state value) m.states) =
    ap (map (valued_state value)) (sym all.0) ∙ (c.loop-state.invariant.put ∙ ap (λ (ss : List (State g.row.W.Denot)). map (decoded_state kind t) (map (valued_state value) ss)) all.1) in
    (whole, above_all (PassesRange kind value t) m (λ state place low. c.loop-state.invariant.none state place (omega (arith, c.loop-state-test.false, c.states-state-end.ensures.value, low))))
