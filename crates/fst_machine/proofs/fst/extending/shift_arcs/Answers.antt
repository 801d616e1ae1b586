use Rattle.std.proofs.Common.{set, ap, ◌∙◌, arith}
use Rattle.std.proofs.lemmas.List.Edits.{map_over_more}
use Rattle.fst_machine.specs.Extending.{wrapped}
use Rattle.fst_machine.proofs.Extending.{changed_all}
use Rattle.fst_machine.proofs.fst.extending.shift_arcs.Goals as goal

pub returns : goal.returns
returns g c = changed_all (wrapped c.args.by) c.args.store.now c.loop-place.store c.loop-place.place (omega arith) c.loop-place.invariant

pub loop-place-preserved : goal.loop-place-preserved
loop-place-preserved g c =
    ap (set c.loop-place.store c.loop-place.place) c.further_on.ensures
    ∙ map_over_more (wrapped c.args.by) c.args.store.now c.loop-place.store c.loop-place.place c.index-store-place.result c.loop-place-test.true c.loop-place.invariant c.index-store-place.is
