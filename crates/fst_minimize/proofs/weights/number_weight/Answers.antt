use Rattle.fst_walk.proofs.Keys.{put_grows}
use Rattle.fst_minimize.specs.WeightKeys.{key_decides, same_key}
use Rattle.fst_minimize.proofs.weights.number_weight.Goals as goal

pub returns-clause-grown : goal.returns-clause-grown
returns-clause-grown c = put_grows same_key key_decides c.args.keys.now _ c.args.key c.in_ok-place.ensures.keys
