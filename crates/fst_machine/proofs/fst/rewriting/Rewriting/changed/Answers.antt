use Rattle.std.proofs.Common.{sym, subst}
use Rattle.fst_machine.specs.ArcsChanged.{IsArcsChanged}
use Rattle.fst_machine.specs.Machine.{Machine}
use Rattle.fst_machine.proofs.ArcsChanged.{parts_written}
use Rattle.fst_machine.proofs.fst.rewriting.Rewriting.changed.Goals as goal

pub invariant_of-changed : goal.invariant_of-changed
invariant_of-changed g c =
    let inner = c.self.inside in
    let e = c.in_ok-change_parts.ensures in
    let after = parts_written (g.C.ArcsChange.changes c.args.change.now) g.W.Weight.value inner.start inner.slots.items c.as_slice.result.now inner.total inner.store.items c.as_mut_slice.result.now c.change_parts.new.store inner.store.len c.args.self c.requires c.self.invariant.1 c.self.invariant.2 c.self.view_is c.as_slice.ensures.value c.as_mut_slice.ensures.value c.as_mut_slice.ensures.len e.size e.changed in
    (c.self.invariant.0, after.kept, after.machine)

pub returns : goal.returns
returns g c =
    let changes = g.C.ArcsChange.changes c.args.change.now in
    let inner = c.self.inside in
    let e = c.in_ok-change_parts.ensures in
    let after = parts_written changes g.W.Weight.value inner.start inner.slots.items c.as_slice.result.now inner.total inner.store.items c.as_mut_slice.result.now c.change_parts.new.store inner.store.len c.args.self c.requires c.self.invariant.1 c.self.invariant.2 c.self.view_is c.as_slice.ensures.value c.as_mut_slice.ensures.value c.as_mut_slice.ensures.len e.size e.changed in
    record { changed = subst (λ (m : Machine g.row.W.Denot). IsArcsChanged changes c.args.self m) (sym c.into_machine.ensures) after.is }
