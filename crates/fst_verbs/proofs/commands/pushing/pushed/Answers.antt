use Rattle.std.proofs.Common.{[], ◌∷◌, Ok, Err, refl}
use Rattle.fst_machine.specs.Machine.{valued}
use Rattle.fst_verbs.specs.Meaning.{machine}
use Rattle.fst_verbs.specs.Pushing.{push_meaning}
use Rattle.fst_verbs.proofs.DecidingPushing.{pushed_passes, unpushed_declines}
use Rattle.fst_verbs.proofs.Settled.{settled}
use Rattle.fst_verbs.proofs.commands.pushing.pushed.Goals as goal

pub returns-in-Ok : goal.returns-in-Ok
returns-in-Ok g c =
    let kind = g.W.Weight.KIND in
    let value = g.W.Weight.value in
    let o = c.args.options.now in
    let m = c.one-machine.result in
    let made = c.in-Ok.made in
    settled (push_meaning o) kind value c.args.given (m ∷ []) (Ok (machine kind (valued value made))) c.one-machine.ensures (
      pushed_passes kind o.remove_total_weight (valued value m) (valued value made) c.in-Ok.ensures.none c.in-Ok.ensures.machine c.in-Ok.ensures.within,
      (refl, record { totalled = c.in-Ok.ensures.machine; keeps = c.in-Ok.ensures.keeps; removes = c.in-Ok.ensures.removes; one = c.in-Ok.ensures.one }),
    )

pub returns : goal.returns
returns g c =
    let kind = g.W.Weight.KIND in
    let value = g.W.Weight.value in
    let o = c.args.options.now in
    let m = c.one-machine.result in
    settled (push_meaning o) kind value c.args.given (m ∷ []) (Err c.unpushed.result) c.one-machine.ensures
    (unpushed_declines kind o.remove_total_weight (valued value m) c.in-Err.fault c.unpushed.result c.in-Err.ensures.fault c.unpushed.ensures.made c.unpushed.ensures.memory)
