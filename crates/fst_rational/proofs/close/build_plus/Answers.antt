use Rattle.std.proofs.Common.{ap, ◌∙◌}
use Rattle.fst_machine.specs.Machine.{Machine, valued}
use Rattle.fst_rational.specs.Constructions.{plus_of}
use Rattle.fst_rational.specs.Handed.{machine_of}
use Rattle.fst_rational.proofs.Closing.{IsMachine-plus, plus_made}
use Rattle.fst_rational.proofs.Putting.{put_machine, put_valued, same_good}
use Rattle.fst_rational.proofs.close.build_plus.Goals as goal

pub into_machine-requires : goal.into_machine-requires
into_machine-requires g c =
    let value = g.W.Weight.value in
    let a = machine_of c.args.a in
    let begins = c.start-start.ensures.value ∙ ap (λ (m : Machine g.row.W.Denot). m.start) c.fst-fst.ensures in
    put_machine value (plus_of (valued value a)) c.start-start.result c.in_ok-list.list begins (c.in_ok-list.ensures ∙ plus_made value a begins)
    (IsMachine-plus (valued value a) (same_good value c.fst-fst.ensures c.states-states.ensures.machine) c.requires.small)

pub returns : goal.returns
returns g c =
    let value = g.W.Weight.value in
    let a = machine_of c.args.a in
    let begins = c.start-start.ensures.value ∙ ap (λ (m : Machine g.row.W.Denot). m.start) c.fst-fst.ensures in
    ap (valued value) c.into_machine.ensures ∙ put_valued value (plus_of (valued value a)) c.start-start.result c.in_ok-list.list begins (c.in_ok-list.ensures ∙ plus_made value a begins)
