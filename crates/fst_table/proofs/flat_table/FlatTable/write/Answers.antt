use Rattle.std.proofs.Common.{◌<◌, length, arith}
use Rattle.std.specs.Ordering.{nat_cmp}
use Rattle.std.specs.BTreeMap.{get}
use Rattle.fst_table.specs.Placed.{placed_in}
use Rattle.fst_table.specs.Slots.{placed_in_slots, probe_end}
use Rattle.fst_table.proofs.Overflow.{absent-both, ends-within}
use Rattle.fst_table.proofs.Slots.{write-near, write-overflow, write-placed, write-probed}
use Rattle.fst_table.proofs.flat_table.FlatTable.write.Goals as goal

pub invariant_of-self : goal.invariant_of-self
unfolding placed_in
invariant_of-self c =
    let self = c.args.self.now in
    let xs = self.slots.items in
    let n = c.args.number in
    let ends = ends-within xs n (omega (arith, c.requires.ends, c.requires.within)) in
    let within : probe_end xs n < length xs = omega (arith, c.requires.ends, c.requires.within, ends.0) in
    let lacks = absent-both (placed_in_slots xs n) (get nat_cmp self.overflow n) c.requires.absent in
    rw (c.requires.ends, ends.0, c.new.ensures) (record {
      probed = write-probed xs n c.args.place c.requires.place within self.probed lacks.0;
      near = write-near xs n c.args.place c.requires.place within self.probed lacks.0 ends.1 self.near;
      overflows = write-overflow xs n c.args.place c.requires.place within self.probed lacks.0 self.overflow lacks.1 self.overflows;
    })

pub returns-clause-written : goal.returns-clause-written
unfolding placed_in
returns-clause-written c =
    let self = c.args.self.now in
    let xs = self.slots.items in
    let n = c.args.number in
    let ends = ends-within xs n (omega (arith, c.requires.ends, c.requires.within)) in
    let within : probe_end xs n < length xs = omega (arith, c.requires.ends, c.requires.within, ends.0) in
    let lacks = absent-both (placed_in_slots xs n) (get nat_cmp self.overflow n) c.requires.absent in
    rw (c.requires.ends, ends.0, c.new.ensures) (write-placed xs n c.args.place c.requires.place within self.probed lacks.0 self.overflow lacks.1)
