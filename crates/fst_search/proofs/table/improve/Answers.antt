use Rattle.std.proofs.Common.{◌≡◌, ℕ, Some, map, sym, ap, ◌∙◌, subst}
use Rattle.std.proofs.lemmas.List.{map-set}
use Rattle.fst_search.specs.Searching.{Node, distance_at, turn_at, valued_node}
use Rattle.fst_search.specs.Trying.{Met, Placed}
use Rattle.fst_search.proofs.Nodes.{node_read}
use Rattle.fst_search.proofs.table.improve.Goals as goal

pub returns-clause-betters : goal.returns-clause-betters
returns-clause-betters g c =
    let value = g.W.Weight.wide_value in
    let nodes = map (valued_node value) c.args.table.now.nodes.items in
    let was = node_read value c.args.table.now.nodes.items c.args.state c.index-before.result.now c.requires.state c.index-before.ensures in
    let distance : distance_at nodes c.args.state ≡ value c.before-2.inside.distance = ap (λ z. z.distance) was ∙ ap (λ (n : Node g.row.W-Wide.Denot). value n.distance) (sym c.before-2.view_is) in
    let turn : turn_at nodes c.args.state ≡ c.before-2.inside.turn = ap (λ z. z.turn) was ∙ ap (λ (n : Node g.row.W-Wide.Denot). n.turn) (sym c.before-2.view_is) in
    record {
      better = c.requires.better;
      turn = c.in_ok-turn.turn;
      node = map-set (valued_node value) c.args.table.now.nodes.items c.args.state (record { distance = c.args.value; link = Some c.args.step; turn = c.in_ok-turn.turn });
      placed = subst (λ (t : ℕ). Placed c.args.mark c.args.state t c.in_ok-turn.turn (g.Q.StateQueue.members c.args.queue.now) (g.Q.StateQueue.members c.place.new.queue) c.args.table.now.later.items c.place.new.later.items) (sym turn) c.in_ok-turn.ensures.placed;
      meets = subst (λ z. Met c.args.state z c.args.table.now.met.items c.meet.new.met.items) (sym distance) c.in_ok-meet.ensures;
    }
