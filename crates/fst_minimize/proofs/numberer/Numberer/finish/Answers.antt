use Rattle.fst_table.specs.Placed.{placed_in}
use Rattle.fst_minimize.proofs.Numbered.{numbers_tell}
use Rattle.fst_minimize.proofs.numberer.Numberer.finish.Goals as goal

pub returns-clause-tells : goal.returns-clause-tells
returns-clause-tells c = λ seen h.
    let self = c.args.self in
    numbers_tell (placed_in self.nodes.table) (placed_in self.ends.table) self.nodes.count self.ends.count seen self.numbers.items self.least.items self.nodes.numbers self.ends.numbers h
