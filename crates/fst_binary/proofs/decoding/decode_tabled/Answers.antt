use Rattle.std.proofs.Common.{subst, arith}
use Rattle.fst_binary.specs.Reading.{Gives}
use Rattle.fst_binary.specs.Seeing.{tabled_seen}
use Rattle.fst_binary.proofs.Machines.{is_found_tabled, tabled_spelled_again}
use Rattle.fst_binary.proofs.decoding.decode_tabled.Goals as goal

pub returns-clause-found : goal.returns-clause-found
returns-clause-found g c = is_found_tabled (λ t. tabled_seen g.W.Weight.value t) g.W.Weight.KIND c.args.bytes.now c.read_whole.result (λ i. omega (arith, c.type_inv.bytes i)) c.read_whole.ensures

pub returns-clause-only : goal.returns-clause-only
returns-clause-only g c = λ m s has sided spells. subst (λ r. Gives (λ t. tabled_seen g.W.Weight.value t) c.read_whole.result r) (tabled_spelled_again g.W.Weight.KIND c.args.bytes.now m s has sided spells) c.read_whole.ensures
