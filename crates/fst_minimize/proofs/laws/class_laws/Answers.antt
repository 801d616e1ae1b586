use Rattle.fst_minimize.proofs.Classes.{class_law}
use Rattle.fst_minimize.proofs.Minimal.{minimal_law}
use Rattle.fst_minimize.proofs.laws.class_laws.Goals as goal

pub returns-clause-classes : goal.returns-clause-classes
returns-clause-classes c = λ kind m d classes. class_law kind m d classes

pub returns-clause-minimal : goal.returns-clause-minimal
returns-clause-minimal c = λ kind total m d. minimal_law kind total m d
