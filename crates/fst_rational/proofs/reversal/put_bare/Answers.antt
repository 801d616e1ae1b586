use Rattle.std.proofs.Common.{◌≡◌, ◌+◌, ◌<◌, ◌≤◌, ◌++◌, ◌∷◌, [], drop, get_or, length, map, refl, sym, take, ap, ◌∙◌, arith}
use Rattle.std.proofs.lemmas.List.{drop_all, length-map, take_all, take_more}
use Rattle.fst_semiring.specs.Cost.{Cost}
use Rattle.fst_machine.specs.Machine.{State, arc_total, valued, valued_state}
use Rattle.fst_machine.specs.Placing.{arc_counts}
use Rattle.fst_rational.specs.Constructions.{reverse_of}
use Rattle.fst_machine.proofs.Valued.{IsMachine-valued}
use Rattle.fst_rational.proofs.Backing.{bare_step, length-reverse}
use Rattle.fst_rational.proofs.Counting.{drop_total}
use Rattle.fst_rational.proofs.reversal.put_bare.Goals as goal

pub bounds-counts-state : goal.bounds-counts-state
bounds-counts-state g c =
    let value = g.W.Weight.value in
    let a = valued value c.args.a.now in
    let whole = (reverse_of g.W.Weight.KIND a).states in
    let good = IsMachine-valued value c.args.a.now c.states-state-end.ensures.machine in
    omega (arith, ap length c.requires.counts, length-map whole (λ (s : State Cost). length s.arcs), length-reverse g.W.Weight.KIND a good, length-map c.args.a.now.states (valued_state value), c.loop-state-test.true, c.states-state-end.ensures.value)

pub push-requires : goal.push-requires
push-requires g c =
    let value = g.W.Weight.value in
    let a = valued value c.args.a.now in
    let i = c.loop-state.state in
    let whole = (reverse_of g.W.Weight.KIND a).states in
    let good = IsMachine-valued value c.args.a.now c.states-state-end.ensures.machine in
    let low : 1 + i < length whole = omega (arith, length-reverse g.W.Weight.KIND a good, length-map c.args.a.now.states (valued_state value), c.loop-state-test.true, c.states-state-end.ensures.value) in
    omega (arith, drop_total whole (1 + i) low, c.loop-state.invariant.left, ap (λ ns. get_or ns (1 + i) 0) c.requires.counts)

pub loop-state-preserved : goal.loop-state-preserved
loop-state-preserved g c =
    let value = g.W.Weight.value in
    let kind = g.W.Weight.KIND in
    let a = valued value c.args.a.now in
    let i = c.loop-state.state in
    let counts = c.args.counts.now in
    let whole = (reverse_of kind a).states in
    let good = IsMachine-valued value c.args.a.now c.states-state-end.ensures.machine in
    let low : 1 + i < length whole = omega (arith, length-reverse kind a good, length-map c.args.a.now.states (valued_state value), c.loop-state-test.true, c.states-state-end.ensures.value) in
    let size : length counts ≡ length whole = ap length c.requires.counts ∙ length-map whole (λ (s : State Cost). length s.arcs) in
    let next : 1 + i + 1 ≡ 1 + (i + 1) = omega arith in
    let room : get_or counts (1 + i) 0 ≡ get_or (arc_counts whole) (1 + i) 0 = ap (λ ns. get_or ns (1 + i) 0) c.requires.counts in
    let rest : arc_total (drop (1 + i + 1) whole) ≡ arc_total (drop (1 + (i + 1)) whole) = ap (λ k. arc_total (drop k whole)) next in
    let left = ap (λ p. p.left) c.in_ok-push.ensures.ok in
    record {
      states = bare_step value kind a i c.start.result c.weight_at.result [] (map (valued_state value) c.args.states.now.states) c.loop-state.states.states c.push.new.self.states c.loop-state.invariant.states (ap (λ p. p.states) c.in_ok-push.ensures.ok) refl c.weight_at.ensures c.start.ensures.value;
      rooms = ap (λ p. p.rooms) c.in_ok-push.ensures.ok ∙ (ap (λ ns. ns ++ get_or counts (1 + i) 0 ∷ []) c.loop-state.invariant.rooms ∙ (sym (take_more counts (1 + i) 0 (omega (arith, low, size))) ∙ ap (λ k. take k counts) next));
      left = omega (arith, left, drop_total whole (1 + i) low, c.loop-state.invariant.left, room, rest);
    }

pub returns-clause-rooms : goal.returns-clause-rooms
returns-clause-rooms g c =
    let value = g.W.Weight.value in
    let a = valued value c.args.a.now in
    let whole = (reverse_of g.W.Weight.KIND a).states in
    let good = IsMachine-valued value c.args.a.now c.states-state-end.ensures.machine in
    let past : length c.args.counts.now ≤ 1 + c.loop-state.state = omega (arith, ap length c.requires.counts, length-map whole (λ (s : State Cost). length s.arcs), length-reverse g.W.Weight.KIND a good, length-map c.args.a.now.states (valued_state value), c.loop-state-test.false, c.states-state-end.ensures.value) in
    c.loop-state.invariant.rooms ∙ take_all (1 + c.loop-state.state) c.args.counts.now past

pub returns-clause-left : goal.returns-clause-left
returns-clause-left g c =
    let value = g.W.Weight.value in
    let a = valued value c.args.a.now in
    let whole = (reverse_of g.W.Weight.KIND a).states in
    let good = IsMachine-valued value c.args.a.now c.states-state-end.ensures.machine in
    let past : length whole ≤ 1 + c.loop-state.state = omega (arith, length-reverse g.W.Weight.KIND a good, length-map c.args.a.now.states (valued_state value), c.loop-state-test.false, c.states-state-end.ensures.value) in
    c.loop-state.invariant.left ∙ ap arc_total (drop_all (1 + c.loop-state.state) whole past)
