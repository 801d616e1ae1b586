use Rattle.fst_distance.proofs.PushedMachine.{pushed_one, pushed_trim, pushed_some, pushed_relates}
use Rattle.fst_distance.proofs.laws.push_laws.Goals as goal

pub returns : goal.returns
returns c = λ kind m r total h. record {
  one = λ some. pushed_one kind m r total h some;
  trim = λ some. pushed_trim kind m r total h some;
  some = λ some. pushed_some kind m r total h some;
  relation = λ some. pushed_relates kind m r total h some;
}
