use Rattle.std.proofs.Common.{◌≡◌, ◌<◌, ℕ, length, get_or, refl}
use Rattle.fst_machine.specs.Graph.{renamed}
use Rattle.fst_machine.specs.Machine.{Arc, valued_arc}
use Rattle.fst_machine.proofs.Changes.{read_as}
use Rattle.fst_distance.proofs.Lists.{map_step}
use Rattle.fst_minimize.specs.Numbered.{number_in}
use Rattle.fst_minimize.proofs.making.put_renamed.Goals as goal

pub loop-arc-preserved : goal.loop-arc-preserved
loop-arc-preserved g c =
    let w = g.W.Weight in
    let inside = c.arc.inside in
    let i = c.loop-arc.arc-index in
    let low : i < length c.args.arcs.now = c.loop-arc-test.true in
    let y : Arc _ ℕ = record { ilabel = inside.ilabel; olabel = inside.olabel; weight = inside.weight; next = inside.next } in
    let read : y ≡ get_or c.args.arcs.now i y = read_as c.args.arcs.now i y c.arc-item.result c.arc.view_is c.arc-item.is in
    map_step (valued_arc w.wide_value) (λ a. renamed (number_in c.args.numbers.now) (valued_arc w.wide_value a)) c.loop-arc.out.items c.push.new.self.items _ c.args.arcs.now i y low read c.in_ok-push.ensures.items refl c.loop-arc.invariant
