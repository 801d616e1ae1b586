use Rattle.std.proofs.Common.{◌∷◌, [], ℕ, map, subst}
use Rattle.fst_machine.specs.Machine.{Arc, valued_arc}
use Rattle.fst_walk.specs.Names.{key_arc}
use Rattle.fst_delayed.specs.Handed.{Name}
use Rattle.fst_lattice.specs.Walks.{label_arcs}
use Rattle.fst_batch.specs.Filling.{Continues}
use Rattle.fst_batch.proofs.Lattices.{numbered_one}
use Rattle.fst_batch.proofs.numbering.number_one.Goals as goal

pub returns : goal.returns
returns g c =
    let value = g.W.Weight.wide_value in
    let a : Arc g.row.W-Wide.Denot (Name ℕ ℕ) = record { ilabel = c.arc.inside.ilabel; olabel = c.arc.inside.olabel; weight = c.arc.inside.weight; next = c.arc.inside.next } in
    subst
    (λ (b : Arc g.row.W-Wide.Denot (Name ℕ ℕ)). Continues c.args.points.now (label_arcs c.args.label c.args.position (key_arc value b ∷ [])) (map (valued_arc value) c.args.out.now.items) (map (valued_arc value) c.push.new.self.items)) c.arc.view_is
    (numbered_one c.args.points.now c.args.label c.args.position value a c.in-Some.place c.args.out.now.items c.push.new.self.items c.if-arc-label.false c.in-Some.ensures c.in_ok-push.ensures.items)
