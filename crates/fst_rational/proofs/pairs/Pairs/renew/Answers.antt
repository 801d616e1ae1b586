use Rattle.std.proofs.Common.{◌∙◌, ℕ, Option, None, Some, ap, sym}
use Rattle.fst_table.specs.Found.{found_in}
use Rattle.fst_rational.proofs.Reading.{new_label-found}
use Rattle.fst_rational.proofs.pairs.Pairs.renew.Goals as goal

pub returns-in-Some : goal.returns-in-Some
returns-in-Some c =
    let news = found_in c.self.inside.news in
    rw (← c.self.view_is) (sym (ap (λ (o : Option ℕ). elim o [ None ↦ c.args.label | Some new ↦ new ]) c.in-Some.is)
    ∙ new_label-found c.self.inside.list.items news c.self.invariant c.args.label c.find.result (c.find.ensures ∙ ap news c.from.ensures))

pub returns-in-None : goal.returns-in-None
returns-in-None c =
    let news = found_in c.self.inside.news in
    rw (← c.self.view_is) (sym (ap (λ (o : Option ℕ). elim o [ None ↦ c.args.label | Some new ↦ new ]) c.in-None.is)
    ∙ new_label-found c.self.inside.list.items news c.self.invariant c.args.label c.find.result (c.find.ensures ∙ ap news c.from.ensures))
