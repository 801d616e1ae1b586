use Rattle.std.proofs.Common.{◌≤◌, length, map, arith}
use Rattle.fst_machine.specs.Machine.{valued_state}
use Rattle.fst_walk.proofs.Ending.{making_ends}
use Rattle.fst_walk.proofs.walking.follow_all.Goals as goal

pub returns-clause-done : goal.returns-clause-done
returns-clause-done g c t =
    let all : length c.loop-taken.output.names ≤ c.loop-taken.taken = omega arith in
    making_ends (g.N.Names.graph c.args.graph.now) c.args.limit c.loop-taken.output.names (map (valued_state g.W.Weight.value) c.loop-taken.output.states.states) c.loop-taken.output.total c.loop-taken.output.overflow c.loop-taken.taken c.loop-taken.invariant.making all
