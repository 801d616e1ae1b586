use Rattle.std.proofs.Common.{◌+◌, ◌∙◌, arith}
use Rattle.fst_machine.proofs.PutNext.{written}
use Rattle.fst_machine.proofs.fst.spreading.put_arcs.Goals as goal

pub returns-clause-behind : goal.returns-clause-behind
returns-clause-behind g c n past far =
    let e = c.copy_shifted.ensures in
    written c.copy_shifted.new.store c.args.more.now c.write_arcs.new.store (c.args.to + c.args.count) (omega (arith, e.size, c.requires.room)) c.write_arcs.ensures n far ∙ e.behind n past
