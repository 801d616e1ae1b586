-- What the code holds, seen as what the definitions speak of.
use Rattle.fst_semiring.specs.Cost.{Cost}
use Rattle.fst_machine.specs.Machine.{valued}
use Rattle.fst_binary.specs.declared.tabled.Tabled.{Tabled}
use Rattle.fst_binary.specs.Reading.{TabledMachine}

-- a machine and its tables, the weights by their values
abbrev pub tabled_seen : {V X : Type 0} → (V → Cost) → Tabled V X → TabledMachine
tabled_seen value t = record { machine = valued value t.fst; sides = record { isymbols = t.isymbols; osymbols = t.osymbols } }
