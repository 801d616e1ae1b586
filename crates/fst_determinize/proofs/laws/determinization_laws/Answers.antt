use Rattle.fst_determinize.proofs.Theorem.{are_subsets, determinized, more_back, more_there}
use Rattle.fst_determinize.proofs.laws.determinization_laws.Goals as goal

pub returns : goal.returns
returns c = λ kind g weighted. record {
  subsets_met = λ names m h. are_subsets kind g weighted names h.listed;
  machine = λ acceptor names m h. determinized kind g weighted names m h.numbered acceptor;
  more = λ limit. (more_there kind g weighted limit, more_back kind g weighted limit);
}
