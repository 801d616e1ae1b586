use Rattle.std.proofs.Common.{ℕ, Option, ap}
use mathlib.Core.Path.{fun_ext}
use Rattle.fst_semiring.specs.Cost.{Cost}
use Rattle.fst_machine.specs.Machine.{no_states}
use Rattle.fst_text.proofs.builder.Builder.new.Goals as goal

pub returns-clause-nothing : goal.returns-clause-nothing
returns-clause-nothing g c = rw c.new-2.ensures (ap (λ (found : ℕ → Option ℕ). record { found = found; machine = no_states {V = Cost} }) (fun_ext c.new.ensures.none))
