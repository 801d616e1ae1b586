use Rattle.std.proofs.Common.{ap, sym, ◌∙◌, nat_lt}
use Rattle.fst_machine.specs.Machine.{most_arcs}
use Rattle.fst_machine.proofs.Valued.{arc_total-valued}
use Rattle.fst_text.proofs.builder.Builder.has_room_for_arc.Goals as goal

pub returns : goal.returns
returns g c = ap (λ n. nat_lt n most_arcs) (c.arc_count.ensures ∙ sym (arc_total-valued g.W.Weight.value c.args.self.now.fst.states))
