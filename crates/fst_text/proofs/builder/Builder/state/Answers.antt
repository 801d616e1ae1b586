use Rattle.std.proofs.Common.{ap, subst, sym, ◌∙◌}
use Rattle.fst_text.specs.Building.{Building, IsPlaced}
use Rattle.fst_text.proofs.builder.Builder.state.Goals as goal

pub add-requires-clause-placed : goal.add-requires-clause-placed
add-requires-clause-placed g c = subst (λ (b : Building). IsPlaced b) (sym c.find.ensures.same) c.requires.placed

pub add-requires-clause-absent : goal.add-requires-clause-absent
add-requires-clause-absent g c = ap (λ (b : Building). b.found c.args.number) c.find.ensures.same ∙ sym c.in-None.ensures.place

pub returns-in-Some-clause-placed : goal.returns-in-Some-clause-placed
returns-in-Some-clause-placed g c = subst (λ (b : Building). IsPlaced b) (sym c.find.ensures.same) c.requires.placed
