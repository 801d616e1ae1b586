use Rattle.std.proofs.Common.{◌∙◌, ◌∷◌, ◌++◌, ap, map, sym, subst, arith}
use Rattle.fst_machine.specs.Machine.{Machine, valued, valued_state}
use Rattle.fst_rational.proofs.Putting.{put_machine, put_valued}
use Rattle.fst_replace.specs.Expansion.{replaced}
use Rattle.fst_replace.specs.Rules.{valued_rules}
use Rattle.fst_replace.specs.Totals.{IsExpanding}
use Rattle.fst_replace.proofs.Valuing.{v_done, v_start}
use Rattle.fst_replace.proofs.expand.expand_root.Goals as goal

pub put_block-requires-clause-expanding : goal.put_block-requires-clause-expanding
put_block-requires-clause-expanding g c =
    let value = g.W.Weight.value in
    subst (λ ws. IsExpanding (valued_rules value c.args.rules.now) c.args.shapes.now (map (valued_state value) c.loop-call.output.states) ws c.loop-call.at) c.in-Some.ensures.items c.loop-call.invariant.expanding

pub into_machine-requires : goal.into_machine-requires
into_machine-requires g c =
    let value = g.W.Weight.value in
    let rules = c.args.rules.now in
    let shapes = c.args.shapes.now in
    let made = v_done value rules shapes c.requires.table (map (valued_state value) c.loop-call.output.states) c.loop-call.waiting.items c.loop-call.at c.loop-call.invariant.expanding (let none = c.in_default.ensures.cases.0 in omega (arith, none)) in
    let start = v_start value rules shapes c.requires.table c.start.result (c.start.ensures.value ∙ ap (λ (m : Machine g.row.W.Denot). m.start) c.machine-root.ensures) in
    put_machine value (replaced (valued_rules value rules)) c.start.result c.loop-call.output.states start made c.requires.table.machine

pub returns : goal.returns
returns g c =
    let value = g.W.Weight.value in
    let rules = c.args.rules.now in
    let shapes = c.args.shapes.now in
    let made = v_done value rules shapes c.requires.table (map (valued_state value) c.loop-call.output.states) c.loop-call.waiting.items c.loop-call.at c.loop-call.invariant.expanding (let none = c.in_default.ensures.cases.0 in omega (arith, none)) in
    let start = v_start value rules shapes c.requires.table c.start.result (c.start.ensures.value ∙ ap (λ (m : Machine g.row.W.Denot). m.start) c.machine-root.ensures) in
    ap (λ m. valued value m) c.into_machine.ensures ∙ put_valued value (replaced (valued_rules value rules)) c.start.result c.loop-call.output.states start made
