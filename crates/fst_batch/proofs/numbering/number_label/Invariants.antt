use Rattle.std.proofs.Common.{◌≡◌, [], false, map, take}
use Rattle.fst_machine.specs.Machine.{valued_arc}
use Rattle.fst_walk.specs.Names.{key_arc}
use Rattle.fst_lattice.specs.Lattice.{reading}
use Rattle.fst_lattice.specs.Walks.{label_arcs}
use Rattle.fst_batch.specs.Filling.{Continues}
use Rattle.fst_batch.proofs.numbering.number_label.Given as goal

abbrev pub invariant-loop-arc : goal.invariant-loop-arc
invariant-loop-arc g l =
    let value = g.W.Weight.wide_value in
    record {
      arcs : Continues l.points (label_arcs l.label l.position (map (key_arc value) (take l.arc-index l.arcs))) (map (valued_arc value) l.initial.out.items) (map (valued_arc value) l.out.items);
      silent : l.silent ≡ false → reading 0 (map (key_arc value) (take l.arc-index l.arcs)) ≡ [];
    }
