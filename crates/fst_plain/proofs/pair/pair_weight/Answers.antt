use Rattle.std.proofs.Common.{sym, subst}
use Rattle.fst_machine.specs.Machine.{valued}
use Rattle.fst_machine.specs.Graph.{graph_of}
use Rattle.fst_machine.specs.Distance.{IsLeast}
use Rattle.fst_machine.specs.Within.{RelWithin}
use Rattle.fst_machine.proofs.Within.{within_least}
use Rattle.fst_plain.proofs.pair.pair_weight.Goals as goal

pub returns : goal.returns
returns g c =
    let kind = g.W.Weight.KIND in
    let graph = graph_of (valued g.W.Weight.value c.args.fst.now) in
    subst (λ z. IsLeast (RelWithin kind graph c.args.arcs c.args.state c.args.input.now c.args.output.now) z) (sym c.weight_from.ensures.value) (within_least kind graph c.args.arcs c.args.state c.args.input.now c.args.output.now)
