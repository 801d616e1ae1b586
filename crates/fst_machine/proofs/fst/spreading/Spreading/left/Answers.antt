use Rattle.std.proofs.Common.{ap, drop, arith}
use Rattle.fst_machine.proofs.PutNext.{left_length}
use Rattle.fst_machine.proofs.fst.spreading.Spreading.left.Goals as goal

pub returns : goal.returns
returns g c =
    let inner = c.self.inside in
    omega (arith, c.len.ensures, left_length inner.slots.items (drop inner.back inner.store.items) inner.state c.args.self.now.left (ap (λ l. l.left) c.self.view_is))
