use Rattle.std.proofs.Common.{subst, arith}
use Rattle.fst_machine.specs.Machine.{valued}
use Rattle.fst_binary.specs.Reading.{Gives}
use Rattle.fst_binary.proofs.Machines.{is_found, spelled_again}
use Rattle.fst_binary.proofs.decoding.decode.Goals as goal

pub returns-clause-found : goal.returns-clause-found
returns-clause-found g c = is_found (λ m. valued g.W.Weight.value m) g.W.Weight.KIND c.args.bytes.now c.read_untabled.result (λ i. omega (arith, c.type_inv.bytes i)) c.read_untabled.ensures

pub returns-clause-only : goal.returns-clause-only
returns-clause-only g c = λ m has spells. subst (λ r. Gives (λ m. valued g.W.Weight.value m) c.read_untabled.result r) (spelled_again g.W.Weight.KIND c.args.bytes.now m has spells) c.read_untabled.ensures
