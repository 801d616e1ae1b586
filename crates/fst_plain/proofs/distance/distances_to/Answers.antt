use Rattle.std.proofs.Common.{◌≡◌, ℕ, sym, ap, ◌∙◌, subst}
use Rattle.fst_semiring.specs.Cost.{Cost}
use Rattle.fst_machine.specs.Machine.{valued}
use Rattle.fst_machine.specs.Graph.{graph_of}
use Rattle.fst_machine.specs.Distance.{IsLeast}
use Rattle.fst_machine.specs.Within.{ReachesWithin, target_within, only_at}
use Rattle.fst_machine.proofs.Arriving.{reaches_least}
use Rattle.fst_plain.specs.Tables.{table_at}
use Rattle.fst_plain.proofs.distance.distances_to.Goals as goal

pub returns-clause-value : goal.returns-clause-value
returns-clause-value g c = λ p.
    let kind = g.W.Weight.KIND in
    let graph = graph_of (valued g.W.Weight.value c.args.fst.now) in
    let targets : table_at c.as_slice.result.now ≡ only_at kind c.args.state = ap table_at c.as_slice.ensures.value ∙ (λ i q. c.in_ok-targets.ensures.value q i) in
    let value : table_at c.in_ok-table.table.items p ≡ target_within kind graph (only_at kind c.args.state) c.args.arcs p = c.in_ok-table.ensures.value p ∙ ap (λ (t : ℕ → Cost). target_within kind graph t c.args.arcs p) targets in
    subst (λ z. IsLeast (ReachesWithin kind graph c.args.arcs p c.args.state) z) (sym value) (reaches_least kind graph c.args.arcs p c.args.state)
