use Rattle.std.proofs.Common.{◌≡◌, ℕ, List, Some, slice_get, subst}
use Rattle.std.specs.Prelude.{MatchOption}
use Rattle.fst_machine.specs.BreadthFirst.{Has}
use Rattle.fst_delayed.specs.Handed.{Name}
use Rattle.fst_lattice.specs.Lattice.{Point, point}
use Rattle.fst_lattice.specs.Points.{point_decides, same_point}
use Rattle.fst_lattice.proofs.Places.{placed}
use Rattle.fst_lattice.proofs.points.Points.place.Goals as goal

pub returns : goal.returns
returns c =
    let k = point c.args.position c.args.name in
    subst (λ (ns : List (Point (Name ℕ ℕ))). MatchOption c.find.result (Has ns k → ⊥) (λ place. slice_get ns place ≡ Some k)) c.self.view_is
    (placed same_point point_decides c.self.inside.keys k c.find.result c.find.ensures)
