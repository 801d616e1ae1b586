use Rattle.std.proofs.Common.{◌<◌, arith}
use Rattle.fst_lattice.specs.Cascade.{second_arcs, letters}
use Rattle.fst_lattice.specs.Draws.{skip}
use Rattle.fst_lattice.proofs.Drawn.{second_arcs_done, second_arcs_more, skip_done, skip_more}
use Rattle.fst_lattice.proofs.cascade.draw_second_arcs.Goals as goal

pub loop-b-preserved : goal.loop-b-preserved
loop-b-preserved c =
    let inv = c.loop-b.invariant in
    let put = c.in_ok-put_same.ensures in
    let low : c.loop-b.b < 123 = omega arith in
    record {
      arcs = second_arcs_more 123 c.loop-b.b c.loop-b.x c.put_same.new.x c.loop-b.out.items c.put_same.new.out.items (second_arcs c.args.x.now 97 letters) low put.put put.state inv.arcs;
      state = skip_more 2 123 c.loop-b.b c.loop-b.x c.put_same.new.x (skip 2 c.args.x.now letters) low put.state inv.state;
    }

pub returns-clause-arcs : goal.returns-clause-arcs
returns-clause-arcs c = second_arcs_done 123 c.loop-b.b c.loop-b.x c.loop-b.out.items (second_arcs c.args.x.now 97 letters) (omega arith) c.loop-b.invariant.arcs

pub returns-clause-state : goal.returns-clause-state
returns-clause-state c = skip_done 2 123 c.loop-b.b c.loop-b.x (skip 2 c.args.x.now letters) (omega arith) c.loop-b.invariant.state
