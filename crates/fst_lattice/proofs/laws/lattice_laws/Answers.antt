use Rattle.fst_lattice.proofs.LinePaths.{line_by_line}
use Rattle.fst_lattice.proofs.laws.lattice_laws.Goals as goal

pub returns : goal.returns
returns g c = line_by_line
