use Rattle.std.proofs.Common.{◌≡◌, ◌+◌, None, Some, true, map, refl, sym, ap, subst, ◌∙◌, arith}
use Rattle.std.specs.Prelude.{IfOk}
use Rattle.fst_semiring.specs.Cost.{Cost}
use Rattle.fst_machine.specs.Machine.{Machine, IsMachine, arc_total, valued}
use Rattle.fst_machine.proofs.Valued.{arc_total-valued}
use Rattle.fst_rational.specs.Constructions.{carried, headed, union_of}
use Rattle.fst_rational.proofs.Uniting.{IsMachine-union, union_arcs, union_made}
use Rattle.fst_rational.proofs.Putting.{front_sized, put_whole, same_good}
use Rattle.fst_rational.proofs.unite.build.Goals as goal

pub overflow_sub-room : goal.overflow_sub-room
overflow_sub-room g c =
    let value = g.W.Weight.value in
    let one = g.P.Operands.one c.args.pair in
    let two = g.P.Operands.two c.args.pair in
    let kind = g.W.Weight.KIND in
    let rest = c.arc_count.ensures ∙ ap (λ (m : Machine g.row.W.Denot). arc_total m.states) c.second-second.ensures in
    omega (arith, c.requires.size.arcs, union_arcs kind (valued value one) (valued value two), arc_total-valued value two.states, rest)

pub carry-requires-clause-all : goal.carry-requires-clause-all
carry-requires-clause-all g c =
    let value = g.W.Weight.value in
    let one = g.P.Operands.one c.args.pair in
    let two = g.P.Operands.two c.args.pair in
    let kind = g.W.Weight.KIND in
    let parts = union_made value kind one two c.first-first.ensures c.second-second.ensures c.states-behind.ensures.value c.start.ensures.value c.start-2.ensures.value c.in_ok-arcs.ensures c.deref.ensures.value c.zero.ensures in
    let rest = c.arc_count.ensures ∙ ap (λ (m : Machine g.row.W.Denot). arc_total m.states) c.second-second.ensures in
    omega (arith, front_sized value (headed value (Some c.zero.result) c.deref.result.now (map (carried 1 true None) (valued value one).states)) (c.states-behind.result + 1) two (union_of kind (valued value one) (valued value two)) c.requires.size parts rest)

pub carry-requires-clause-machine : goal.carry-requires-clause-machine
carry-requires-clause-machine g c =
    let value = g.W.Weight.value in
    let one = g.P.Operands.one c.args.pair in
    let two = g.P.Operands.two c.args.pair in
    let kind = g.W.Weight.KIND in
    let parts = union_made value kind one two c.first-first.ensures c.second-second.ensures c.states-behind.ensures.value c.start.ensures.value c.start-2.ensures.value c.in_ok-arcs.ensures c.deref.ensures.value c.zero.ensures in
    let good = same_good value c.first-first.ensures c.states-behind.ensures.machine in
    let fine = same_good value c.second-second.ensures c.states-back.ensures.machine in
    subst (IsMachine (λ v. v)) (sym (put_whole (union_of kind (valued value one) (valued value two)) (Some 0) _ refl parts)) (IsMachine-union kind (valued value one) (valued value two) good fine c.requires.small)

pub returns : goal.returns
returns g c =
    let value = g.W.Weight.value in
    let one = g.P.Operands.one c.args.pair in
    let two = g.P.Operands.two c.args.pair in
    let kind = g.W.Weight.KIND in
    let parts = union_made value kind one two c.first-first.ensures c.second-second.ensures c.states-behind.ensures.value c.start.ensures.value c.start-2.ensures.value c.in_ok-arcs.ensures c.deref.ensures.value c.zero.ensures in
    subst (λ (m : Machine Cost). IfOk c.carry.result (λ r. g.P.Operands.seen r ≡ m)) (put_whole (union_of kind (valued value one) (valued value two)) (Some 0) _ refl parts) c.carry.ensures
