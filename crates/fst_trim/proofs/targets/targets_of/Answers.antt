use Rattle.std.proofs.Common.{map, arith}
use Rattle.std.proofs.lemmas.List.{length-map}
use Rattle.fst_trim.proofs.Joined.{joining_ends, joining_goes_on}
use Rattle.fst_trim.proofs.targets.targets_of.Goals as goal

pub loop-state-preserved : goal.loop-state-preserved
loop-state-preserved g c = joining_goes_on (map (λ a. a.next)) (g.M.AsMachine.machine c.args.fst.now).states c.loop-state.state c.len.result c.arcs_at.result.now c.loop-state.firsts.items c.push.new.self.items c.loop-state.targets.items c.put_targets.new.targets.items c.loop-state.invariant c.arcs_at.ensures (omega (arith, c.len.ensures)) c.in_ok-push.ensures.items c.in_ok-put_targets.ensures

pub returns : goal.returns
returns g c =
    let count = length-map (g.M.AsMachine.machine c.args.fst.now).states (λ s. map (λ a. a.next) s.arcs) in
    joining_ends (map (λ a. a.next)) (g.M.AsMachine.machine c.args.fst.now).states c.loop-state.state c.len-2.result c.loop-state.firsts.items c.push-2.new.self.items c.loop-state.targets.items c.loop-state.invariant (omega (arith, count, c.state_count-state-end.ensures.count)) (omega (arith, c.len-2.ensures)) c.in_ok-push-2.ensures.items
