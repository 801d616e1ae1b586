use Rattle.std.proofs.Common.{length, sym, ap, subst, arith}
use Rattle.fst_machine.specs.BreadthFirst.{Has}
use Rattle.fst_trim.specs.Links.{Link}
use Rattle.fst_nbest.specs.Classes.{Class, class_links, state_at}
use Rattle.fst_nbest.proofs.ClassWords.{link_known, link_low}
use Rattle.fst_nbest.proofs.class_back.ClassBackBackward.put_source.Goals as goal

pub widened-weight-requires : goal.widened-weight-requires
widened-weight-requires g c =
    let m = g.M.AsMachine.machine c.self.inside.fst.now in
    let there = subst (λ (k : Class g.row.V.Denot). Has (class_links k.machine c.args.name) c.args.link.now) (sym c.self.view_is) c.requires.link in
    subst g.M.Widens.known (sym (ap (λ (l : Link g.row.V.Denot). l.weight) c.link.view_is)) (link_known g.M.Widens.known m c.self.invariant.0.weights (state_at (length m.states) c.args.name) c.args.link.now there)

pub put_name-requires-clause-state : goal.put_name-requires-clause-state
put_name-requires-clause-state g c =
    let m = g.M.AsMachine.machine c.self.inside.fst.now in
    let there = subst (λ (k : Class g.row.V.Denot). Has (class_links k.machine c.args.name) c.args.link.now) (sym c.self.view_is) c.requires.link in
    let low = link_low g.M.AsMachine.value m c.state_count-states.ensures.good (state_at (length m.states) c.args.name) c.args.link.now there in
    let next = ap (λ (l : Link g.row.V.Denot). l.next) c.link.view_is in
    omega (arith, low, next, c.state_count-states.ensures.count)

pub put_name-requires-2-clause-state : goal.put_name-requires-2-clause-state
put_name-requires-2-clause-state g c =
    let m = g.M.AsMachine.machine c.self.inside.fst.now in
    let there = subst (λ (k : Class g.row.V.Denot). Has (class_links k.machine c.args.name) c.args.link.now) (sym c.self.view_is) c.requires.link in
    let low = link_low g.M.AsMachine.value m c.state_count-states.ensures.good (state_at (length m.states) c.args.name) c.args.link.now there in
    let next = ap (λ (l : Link g.row.V.Denot). l.next) c.link.view_is in
    omega (arith, low, next, c.state_count-states.ensures.count)
