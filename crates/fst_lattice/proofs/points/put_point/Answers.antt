use Rattle.fst_walk.proofs.Keys.{put_grows, put_last}
use Rattle.fst_lattice.specs.Points.{point_decides, same_point}
use Rattle.fst_lattice.proofs.points.put_point.Goals as goal

pub returns-clause-grown : goal.returns-clause-grown
returns-clause-grown c = put_grows same_point point_decides c.args.keys.now _ c.args.key c.in_ok-place.ensures.keys

pub returns-clause-last : goal.returns-clause-last
returns-clause-last c =
    put_last c.args.keys.now _ c.args.key c.in_ok-place.place (put_grows same_point point_decides c.args.keys.now _ c.args.key c.in_ok-place.ensures.keys) c.in_ok-place.ensures.there
