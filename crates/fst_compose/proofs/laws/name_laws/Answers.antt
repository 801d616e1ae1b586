use Rattle.fst_compose.specs.NameLaws.{IsNameBelow}
use Rattle.fst_compose.specs.Composition.{composed}
use Rattle.fst_compose.proofs.Ranges.{composed_below, keeps_listed}
use Rattle.fst_compose.proofs.laws.name_laws.Goals as goal

pub returns : goal.returns
returns c = λ kind a b states others. record {
  keeps = composed_below kind a b states others;
  below = λ first second. keeps_listed (composed kind a b) (IsNameBelow states others) (composed_below kind a b states others first second);
}
