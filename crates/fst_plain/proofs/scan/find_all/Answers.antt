use Rattle.std.proofs.Common.{ℕ, ◌≡◌, ◌<◌, [], ◌∷◌, length, ap, subst, arith}
use Rattle.fst_machine.specs.Machine.{Arc}
use Rattle.fst_machine.specs.BreadthFirst.{Grows}
use Rattle.fst_machine.proofs.Walking.{grows_more}
use Rattle.fst_plain.proofs.scan.find_all.Goals as goal

pub loop-arc-preserved : goal.loop-arc-preserved
loop-arc-preserved g c =
    let x = c.arc-item.result in
    let next : c.arc.inside.next ≡ x.next = ap (λ (a : Arc g.row.W.Denot ℕ). a.next) c.arc.view_is in
    let grows : Grows c.loop-arc.names.items (x.next ∷ []) c.find.new.names.items = subst (λ (n : ℕ). Grows c.loop-arc.names.items (n ∷ []) c.find.new.names.items) next c.in_ok-find.ensures in
    let low : c.loop-arc.arc-index < length c.args.arcs.now = omega arith in
    grows_more (λ (a : Arc g.row.W.Denot ℕ). a.next) c.args.names.now.items c.loop-arc.names.items c.find.new.names.items c.args.arcs.now c.loop-arc.arc-index x low c.arc-item.is c.loop-arc.invariant grows
