use Rattle.std.proofs.Common.{◌≡◌, length, map}
use Rattle.std.specs.Vec.Iter.{into_iter_items, into_iter_len}
use Rattle.fst_machine.specs.Machine.{valued}
use Rattle.fst_any.specs.Taken.{before, machines_as}
use Rattle.fst_any.specs.Typed.{typed}
use Rattle.fst_any.proofs.kinded.machines_of.Given as goal

abbrev pub invariant-loop-any : goal.invariant-loop-any
invariant-loop-any g l = record {
  taken : before (map (valued g.W.Weight.value) l.machines.items) (machines_as g.W.Weight.KIND (map typed (into_iter_items l.any-iterator)))
      ≡ machines_as g.W.Weight.KIND (map typed l.fn.list.items);
  left : into_iter_len l.any-iterator ≡ length (into_iter_items l.any-iterator);
}
