use Rattle.std.proofs.Common.{map, sym, ap, ◌∙◌}
use Rattle.fst_machine.specs.Machine.{valued_state}
use Rattle.fst_rational.proofs.Backing.{map-with_arc}
use Rattle.fst_rational.proofs.Counting.{final_none, final_some}
use Rattle.fst_rational.proofs.reversal.put_final.Goals as goal

pub returns-then-is_zero-clause-states : goal.returns-then-is_zero-clause-states
returns-then-is_zero-clause-states g c =
    let value = g.W.Weight.value in
    final_none (value c.args.last) c.args.next (map (valued_state value) c.args.states.now.states) (sym c.is_zero.ensures ∙ c.if-is_zero.true)

pub returns-clause-states : goal.returns-clause-states
returns-clause-states g c =
    let value = g.W.Weight.value in
    ap (λ p. map (valued_state value) p.states) c.put.ensures
    ∙ (map-with_arc value (record { ilabel = 0; olabel = 0; weight = c.args.last; next = c.args.next }) c.args.states.now.states 0
    ∙ final_some (value c.args.last) c.args.next (map (valued_state value) c.args.states.now.states) (sym c.is_zero.ensures ∙ c.if-is_zero.false))
