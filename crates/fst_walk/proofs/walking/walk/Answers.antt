use Rattle.std.proofs.Common.{List, sym, subst₂, ◌∙◌}
use Rattle.fst_machine.specs.Machine.{Machine, valued}
use Rattle.fst_walk.specs.Answers.{IsNamed}
use Rattle.fst_walk.proofs.Numbered.{nothing_named}
use Rattle.fst_walk.proofs.Refusing.{answered_apart}
use Rattle.fst_walk.proofs.walking.walk.Goals as goal

pub returns-in_default-clause-made : goal.returns-in_default-clause-made
returns-in_default-clause-made g c =
    let graph = g.N.Names.graph c.args.graph.now in
    subst₂ (λ (ns : List g.row.N-Key.Denot) (m : Machine g.row.W.Denot). IsNamed graph ns (valued g.W.Weight.value m)) (sym c.new-in_default.ensures) (sym c.new.ensures) (nothing_named graph (sym c.start.ensures ∙ c.in_default.is))

pub returns-clause-exact : goal.returns-clause-exact
returns-clause-exact g c = answered_apart (g.N.Names.graph c.args.graph.now) c.args.max_states (λ w. w.names) c.walk_from.result c.walk_from.ensures.fine c.walk_from.ensures.cause
