use Rattle.std.proofs.Common.{◌∷◌, [], ℕ, List, subst, arith}
use Rattle.fst_machine.specs.BreadthFirst.{Grows}
use Rattle.fst_walk.proofs.Keys.{passed}
use Rattle.fst_delayed.specs.Handed.{Name}
use Rattle.fst_lattice.specs.Lattice.{Point, point}
use Rattle.fst_lattice.proofs.points.Points.find.Goals as goal

pub returns-then-place-limit-clause-fits : goal.returns-then-place-limit-clause-fits
returns-then-place-limit-clause-fits c =
    passed c.args.limit c.args.self.now c.put_point.new.keys (point c.args.position c.args.name) c.in_ok-place.place
    (subst (λ (ns : List (Point (Name ℕ ℕ))). Grows ns (point c.args.position c.args.name ∷ []) c.put_point.new.keys) c.self.view_is c.in_ok-place.ensures.grown) c.in_ok-place.ensures.there (omega arith)
