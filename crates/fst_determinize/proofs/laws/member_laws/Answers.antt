use Rattle.fst_determinize.proofs.Machines.{subset_members}
use Rattle.fst_determinize.proofs.laws.member_laws.Goals as goal

pub returns : goal.returns
returns g c = λ kind value m weighed word b s sub short. subset_members kind value m weighed word b s sub short
