use Rattle.std.proofs.Common.{map, ap, ◌∙◌}
use Rattle.fst_machine.specs.Machine.{valued_state}
use Rattle.fst_rational.proofs.Carrying.{has_room, shifted_carried}
use Rattle.fst_rational.proofs.carry.shift_states.Goals as goal

pub shift-requires : goal.shift-requires
shift-requires g c = has_room g.W.Weight.value c.args.by c.args.list.now c.requires.small c.requires.good

pub returns : goal.returns
returns g c = ap (map (valued_state g.W.Weight.value)) c.shift.ensures ∙ shifted_carried g.W.Weight.value c.args.by c.args.list.now
