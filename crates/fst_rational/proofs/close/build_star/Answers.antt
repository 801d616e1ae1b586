use Rattle.std.proofs.Common.{Some, refl, ◌∙◌}
use Rattle.fst_machine.specs.Machine.{valued}
use Rattle.fst_rational.specs.Constructions.{star_of}
use Rattle.fst_rational.specs.Handed.{machine_of}
use Rattle.fst_rational.proofs.Closing.{IsMachine-star, star_made}
use Rattle.fst_rational.proofs.Putting.{put_machine, same_good}
use Rattle.fst_rational.proofs.close.build_star.Goals as goal

pub into_machine-requires : goal.into_machine-requires
into_machine-requires g c =
    let value = g.W.Weight.value in
    let kind = g.W.Weight.KIND in
    let a = machine_of c.args.a in
    let made = star_made value kind a _ c.fst-fst.ensures c.new-own.ensures.items c.start.ensures.value c.in_ok-put_entry.ensures c.deref.ensures.value c.weight_of_none.ensures in
    put_machine value (star_of kind (valued value a)) (Some 0) c.in_ok-list.list refl (c.in_ok-list.ensures ∙ made)
    (IsMachine-star kind (valued value a) (same_good value c.fst-fst.ensures c.states-states.ensures.machine) c.requires.small)
