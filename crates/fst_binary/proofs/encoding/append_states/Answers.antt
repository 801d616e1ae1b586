use Rattle.std.proofs.Common.{arith}
use Rattle.fst_machine.specs.Machine.{valued_state}
use Rattle.fst_binary.specs.Spelling.{state_fields}
use Rattle.fst_binary.proofs.Lists.{all_written}
use Rattle.fst_binary.proofs.encoding.append_states.Goals as goal

pub returns-clause-items : goal.returns-clause-items
returns-clause-items g c = all_written (state_fields g.W.Weight.KIND) (valued_state g.W.Weight.value) c.args.fst.now.states _ _ _ (omega (arith, c.states.ensures.value)) c.append_first.ensures.items
