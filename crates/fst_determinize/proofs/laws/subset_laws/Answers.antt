use Rattle.fst_determinize.proofs.Following.{start_subset}
use Rattle.fst_determinize.proofs.Members.{one_subset}
use Rattle.fst_determinize.proofs.Stepping.{arc_steps}
use Rattle.fst_determinize.proofs.Theorem.{residual_within}
use Rattle.fst_determinize.proofs.laws.subset_laws.Goals as goal

pub returns : goal.returns
returns c = λ kind g. record {
  one = one_subset kind g;
  start = start_subset kind g;
  step = λ weighted word b s k a sub at. (arc_steps kind g weighted word b s sub k a at).exact;
  range = λ n weighted small word b s m sub h. residual_within kind g weighted n small word b s m sub h;
}
