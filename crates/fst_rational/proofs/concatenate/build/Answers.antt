use Rattle.std.proofs.Common.{◌≡◌, false, map, sym, ap, subst, ◌∙◌, arith}
use Rattle.std.specs.Prelude.{IfOk}
use Rattle.fst_semiring.specs.Cost.{Cost}
use Rattle.fst_machine.specs.Machine.{Machine, IsMachine, arc_total, valued}
use Rattle.fst_machine.proofs.Valued.{arc_total-valued}
use Rattle.fst_rational.specs.Constructions.{carried, concat_of}
use Rattle.fst_rational.proofs.Concatenating.{IsMachine-concat, concat_arcs, concat_made}
use Rattle.fst_rational.proofs.Putting.{front_sized, put_whole, same_good}
use Rattle.fst_rational.proofs.concatenate.build.Goals as goal

pub overflow_sub-room : goal.overflow_sub-room
overflow_sub-room g c =
    let value = g.W.Weight.value in
    let one = g.P.Operands.one c.args.pair in
    let two = g.P.Operands.two c.args.pair in
    let rest = c.arc_count.ensures ∙ ap (λ (m : Machine g.row.W.Denot). arc_total m.states) c.second-second.ensures in
    omega (arith, c.requires.size.arcs, concat_arcs (valued value one) (valued value two), arc_total-valued value two.states, rest)

pub carry-requires-clause-all : goal.carry-requires-clause-all
carry-requires-clause-all g c =
    let value = g.W.Weight.value in
    let one = g.P.Operands.one c.args.pair in
    let two = g.P.Operands.two c.args.pair in
    let parts = concat_made value one two c.first-first.ensures c.second-second.ensures c.states-behind.ensures.value c.start.ensures.value c.shifted.ensures in
    let rest = c.arc_count.ensures ∙ ap (λ (m : Machine g.row.W.Denot). arc_total m.states) c.second-second.ensures in
    omega (arith, front_sized value (map (carried 0 false c.shifted.result) (valued value one).states) c.states-behind.result two (concat_of (valued value one) (valued value two)) c.requires.size parts rest)

pub carry-requires-clause-machine : goal.carry-requires-clause-machine
carry-requires-clause-machine g c =
    let value = g.W.Weight.value in
    let one = g.P.Operands.one c.args.pair in
    let two = g.P.Operands.two c.args.pair in
    let parts = concat_made value one two c.first-first.ensures c.second-second.ensures c.states-behind.ensures.value c.start.ensures.value c.shifted.ensures in
    let starts = c.start-start.ensures.value ∙ ap (λ (m : Machine g.row.W.Denot). m.start) c.first-first.ensures in
    let good = same_good value c.first-first.ensures c.states-behind.ensures.machine in
    let fine = same_good value c.second-second.ensures c.states-back.ensures.machine in
    subst (IsMachine (λ v. v)) (sym (put_whole (concat_of (valued value one) (valued value two)) c.start-start.result _ starts parts)) (IsMachine-concat (valued value one) (valued value two) good fine c.requires.small)

pub returns : goal.returns
returns g c =
    let value = g.W.Weight.value in
    let one = g.P.Operands.one c.args.pair in
    let two = g.P.Operands.two c.args.pair in
    let parts = concat_made value one two c.first-first.ensures c.second-second.ensures c.states-behind.ensures.value c.start.ensures.value c.shifted.ensures in
    let starts = c.start-start.ensures.value ∙ ap (λ (m : Machine g.row.W.Denot). m.start) c.first-first.ensures in
    subst (λ (m : Machine Cost). IfOk c.carry.result (λ r. g.P.Operands.seen r ≡ m)) (put_whole (concat_of (valued value one) (valued value two)) c.start-start.result _ starts parts) c.carry.ensures
