use Rattle.fst_table.specs.Placed.{placed_in}
use Rattle.fst_minimize.proofs.Tables.{table_kept, table_added, table_knows, table_more}
use Rattle.fst_minimize.proofs.pairs.Pairs.add.Goals as goal

pub invariant_of-self : goal.invariant_of-self
invariant_of-self c = record { numbers = table_kept (placed_in c.args.self.now.table) _ c.args.self.now.count c.in_err-add.ensures.err c.args.self.now.numbers }

pub invariant_of-self-2 : goal.invariant_of-self-2
invariant_of-self-2 c = record { numbers = table_added (placed_in c.args.self.now.table) _ c.args.key c.args.self.now.count c.requires.absent c.in_ok-add.ensures.added c.args.self.now.numbers }

pub returns-clause-known : goal.returns-clause-known
returns-clause-known c = table_knows (placed_in c.args.self.now.table) _ c.args.key c.args.self.now.count c.requires.absent c.in_ok-add.ensures.added

pub returns-clause-kept : goal.returns-clause-kept
returns-clause-kept c = table_more (placed_in c.args.self.now.table) _ c.args.key c.args.self.now.count c.requires.absent c.in_ok-add.ensures.added
