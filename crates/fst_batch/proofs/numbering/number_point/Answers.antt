use Rattle.std.proofs.Common.{◌++◌, [], List, map, slice_get, sym, subst}
use Rattle.fst_semiring.specs.Cost.{Cost}
use Rattle.fst_machine.specs.Machine.{Arc, valued_arc}
use Rattle.fst_walk.specs.Names.{key_arc}
use Rattle.fst_lattice.specs.Lattice.{byte_arcs}
use Rattle.fst_lattice.specs.Walks.{label_arcs}
use Rattle.fst_lattice.proofs.Finding.{silent_none}
use Rattle.fst_batch.specs.Filling.{Continues}
use Rattle.fst_batch.proofs.Continuing.{continues_all, continues_then}
use Rattle.fst_batch.proofs.Lattices.{found_byte, found_silent}
use Rattle.fst_batch.proofs.numbering.number_point.Goals as goal

pub number_byte-requires-clause-found : goal.number_byte-requires-clause-found
number_byte-requires-clause-found g c = found_byte c.args.points.now c.args.line.now c.args.position (map (key_arc g.W.Weight.wide_value) c.args.arcs.now) c.requires.found

pub number_those-requires-clause-found : goal.number_those-requires-clause-found
number_those-requires-clause-found g c = found_silent c.args.points.now c.args.line.now c.args.position (map (key_arc g.W.Weight.wide_value) c.args.arcs.now) c.requires.found

pub returns-then-not-silent : goal.returns-then-not-silent
returns-then-not-silent g c =
    let value = g.W.Weight.wide_value in
    let arcs = map (key_arc value) c.args.arcs.now in
    let bytes = byte_arcs (slice_get c.args.line.now c.args.position) c.args.position arcs in
    let silent = label_arcs 0 c.args.position arcs in
    let mid = map (valued_arc value) c.number_byte.new.out.items in
    let first = subst (λ (xs : List _). Continues c.args.points.now bytes (map (valued_arc value) xs) mid) c.clear.ensures.items c.in_ok-silent.ensures.arcs in
    let none = c.in_ok-silent.ensures.silent c.if-not-silent.true in
    continues_all c.args.points.now (bytes ++ silent) mid (subst (λ (xs : List (Arc Cost _)). Continues c.args.points.now xs [] mid) (sym (silent_none c.args.position bytes arcs none)) first)

pub returns : goal.returns
returns g c =
    let value = g.W.Weight.wide_value in
    let arcs = map (key_arc value) c.args.arcs.now in
    let bytes = byte_arcs (slice_get c.args.line.now c.args.position) c.args.position arcs in
    let silent = label_arcs 0 c.args.position arcs in
    let mid = map (valued_arc value) c.number_byte.new.out.items in
    let new = map (valued_arc value) c.number_those.new.out.items in
    let first = subst (λ (xs : List _). Continues c.args.points.now bytes (map (valued_arc value) xs) mid) c.clear.ensures.items c.in_ok-silent.ensures.arcs in
    continues_all c.args.points.now (bytes ++ silent) new (continues_then c.args.points.now bytes silent [] mid new first c.in_ok-number_those.ensures.arcs)
