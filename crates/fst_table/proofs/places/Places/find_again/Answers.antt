use Rattle.std.proofs.Common.{ap, sym, ◌∙◌}
use Rattle.fst_table.specs.Found.{found_in}
use Rattle.fst_table.proofs.places.Places.find_again.Goals as goal

pub returns-then-recent-number-clause-place : goal.returns-then-recent-number-clause-place
returns-then-recent-number-clause-place c = sym (c.args.self.now.remembered (c.in-Some.recent, c.in-Some.place) c.in-Some.is) ∙ ap (found_in c.args.self.now) c.if-recent-number.true
