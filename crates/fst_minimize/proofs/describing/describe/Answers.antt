use Rattle.std.proofs.Common.{◌≡◌, ℕ, length, below_more, subst, arith}
use Rattle.fst_machine.specs.Graph.{graph_of}
use Rattle.fst_minimize.specs.Described.{IsDescribed, OfKind}
use Rattle.fst_minimize.proofs.describing.describe.Goals as goal

pub loop-state-preserved : goal.loop-state-preserved
loop-state-preserved g c = record {
  described = c.in_ok-describe_state.ensures.described c.loop-state.invariant.described;
  apart = c.in_ok-describe_state.ensures.apart;
  kind = below_more (OfKind g.W.Weight.KIND (graph_of c.args.pushed.now)) c.loop-state.state c.loop-state.invariant.kind c.in_ok-describe_state.ensures.kind;
}

pub returns-clause-described : goal.returns-clause-described
returns-clause-described g c =
    let all : c.loop-state.state ≡ length c.args.pushed.now.states = let n = c.states-states.ensures.value in omega arith in
    c.finish.ensures (graph_of c.args.pushed.now) (length c.args.pushed.now.states) (subst (λ (n : ℕ). IsDescribed (graph_of c.args.pushed.now) n c.loop-state.describer) all c.loop-state.invariant.described)

pub returns-clause-kind : goal.returns-clause-kind
returns-clause-kind g c = λ p low. c.loop-state.invariant.kind p (let n = c.states-states.ensures.value in omega arith)
