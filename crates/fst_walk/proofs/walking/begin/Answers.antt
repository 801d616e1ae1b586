use Rattle.std.proofs.Common.{◌∷◌, [], ◌≤◌, List, length, sym, subst}
use Rattle.std.specs.Prelude.{MatchOption}
use Rattle.fst_machine.specs.BreadthFirst.{Grows}
use Rattle.fst_walk.specs.Making.{IsFound, Passes}
use Rattle.fst_walk.proofs.Following.{start_found}
use Rattle.fst_walk.proofs.walking.begin.Goals as goal

pub returns-clause-names : goal.returns-clause-names
returns-clause-names g c =
    subst (λ (ns : List g.row.K.Denot). Grows [] (c.args.start ∷ []) ns × (length ns ≤ c.args.limit)) (sym c.names.view_is)
    (start_found c.args.limit c.args.start c.find.new.names c.in_ok-_place._place c.requires.some (subst (λ (ns : List g.row.K.Denot). MatchOption c.in_ok-_place._place (Passes c.args.limit ns (c.args.start ∷ [])) (IsFound c.args.limit ns c.args.start c.find.new.names)) c.with_bound-names.ensures c.in_ok-_place.ensures))
