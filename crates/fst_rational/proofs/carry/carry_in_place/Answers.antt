use Rattle.std.proofs.Common.{◌∙◌, None, List, map, true, sym, ap, subst}
use Rattle.std.specs.List.{All}
use Rattle.fst_semiring.specs.Cost.{Cost}
use Rattle.fst_machine.specs.Machine.{IsArc, State, most_states, valued_state}
use Rattle.fst_rational.specs.Constructions.{carried}
use Rattle.fst_rational.proofs.Carrying.{low_arcs}
use Rattle.fst_rational.proofs.GoingOn.{first_left}
use Rattle.fst_rational.proofs.carry.carry_in_place.Goals as goal

pub carry_all-requires-clause-good : goal.carry_all-requires-clause-good
carry_all-requires-clause-good g c =
    let value = g.W.Weight.value in
    let left = first_left c.in_ok-states.field-0 c.in-Ok-2.states c.args.fst.states c.args.more c.in_ok-states.ensures.spread c.in-Ok-2.is in
    subst (λ (ss : List (State g.row.W.Denot)). All (λ s. All (IsArc value most_states) s.arcs) ss) (sym left) (low_arcs value c.args.fst c.states-states.ensures.machine)

pub returns-in-Ok-clause-carried : goal.returns-in-Ok-clause-carried
returns-in-Ok-clause-carried g c =
    let value = g.W.Weight.value in
    let how = c.args.how in
    let further = ap (λ (ss : List (State g.row.W.Denot)). map (carried how.shift true None) (map (valued_state value) ss)) c.in-Ok.ensures.states in
    let same = ap (λ (goes : State Cost → State Cost). map goes (map (valued_state value) c.args.fst.states)) (sym (c.only_shifts.ensures c.if-only_shifts.true)) in
    c.shift_states.ensures ∙ (further ∙ same)
