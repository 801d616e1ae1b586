use Rattle.std.proofs.Common.{ap, ◌∙◌, cond, Some, ◌==◌, arith}
use Rattle.fst_table.specs.Found.{found_in}
use Rattle.fst_table.specs.Placed.{placed_in}
use Rattle.fst_table.proofs.Placing.{slot-kept, slot-set}
use Rattle.fst_table.proofs.places.Places.add.Goals as goal

pub returns-clause-added : goal.returns-clause-added
returns-clause-added c = λ n.
    slot-set c.grow.new.self.dense.items c.grow.new.self.bound c.args.number c.args.place n (placed_in c.grow.new.self.sparse n) (omega (arith, c.in_ok-grow.ensures.ok)) (omega arith) (omega arith)
    ∙ ap (cond (n == c.args.number) (Some c.args.place)) (c.grow.ensures.same n)

pub invariant_of-self-2-clause-remembered : goal.invariant_of-self-2-clause-remembered
invariant_of-self-2-clause-remembered c =
    let grown = c.grow.new.self in λ x e.
    slot-set grown.dense.items grown.bound c.args.number c.args.place x.0 (placed_in grown.sparse x.0) (omega (arith, c.in_ok-grow.ensures.ok)) (omega arith) (omega arith)
    ∙ slot-kept (found_in grown) c.args.number x.0 c.args.place x.1 (c.grow.ensures.same c.args.number ∙ c.requires.absent) (grown.remembered x e)
