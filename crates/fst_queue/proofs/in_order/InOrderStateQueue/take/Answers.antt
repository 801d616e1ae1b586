use Rattle.std.proofs.Common.{◌<◌, Some, length, subst, rules}
use Rattle.fst_queue.specs.Members.{Takes}
use Rattle.fst_queue.proofs.Members.{Marks-taken, marked_within}
use Rattle.fst_queue.proofs.in_order.InOrderStateQueue.take.Goals as goal

pub index_mut-requires : goal.index_mut-requires
index_mut-requires g c =
    let takes = g.met.E.End.takes c.self.inside.states.items c.pop.new.states.items c.in_ok-state.state c.in_ok-state.ensures c.self.invariant.0 in
    let low : c.in_ok-state.state < length c.self.inside.marks.items = marked_within c.self.inside.marks.items c.self.inside.states.items c.in_ok-state.state c.self.invariant.1 takes.1.0 in
    search rules

pub invariant_of-self-2 : goal.invariant_of-self-2
invariant_of-self-2 g c =
    let takes = g.met.E.End.takes c.self.inside.states.items c.pop.new.states.items c.in_ok-state.state c.in_ok-state.ensures c.self.invariant.0 in
    (takes.0, Marks-taken c.self.inside.marks.items c.self.inside.states.items c.pop.new.states.items c.in_ok-state.state c.self.invariant.1 takes.1)

pub returns-clause-takes : goal.returns-clause-takes
returns-clause-takes g c =
    let takes = g.met.E.End.takes c.self.inside.states.items c.pop.new.states.items c.in_ok-state.state c.in_ok-state.ensures c.self.invariant.0 in
    subst (λ old. Takes old (Some c.in_ok-state.state) c.pop.new.states.items) c.self.view_is takes.1

pub returns-clause-apart : goal.returns-clause-apart
returns-clause-apart g c = (g.met.E.End.takes c.self.inside.states.items c.pop.new.states.items c.in_ok-state.state c.in_ok-state.ensures c.self.invariant.0).0
