use Rattle.std.proofs.Common.{◌≡◌, ℕ, Option, Some, map, slice_get, sym, ap, ◌∙◌, subst, arith}
use Rattle.std.proofs.lemmas.Option.{slice_get-get_or}
use Rattle.std.proofs.lemmas.Result.{on_ok_weaker}
use Rattle.fst_machine.specs.Machine.{valued_arc}
use Rattle.fst_walk.specs.Names.{key_arc}
use Rattle.fst_lattice.specs.Lattice.{byte_arcs}
use Rattle.fst_batch.specs.Filling.{Continues}
use Rattle.fst_batch.proofs.Continuing.{continues_none}
use Rattle.fst_batch.proofs.Lattices.{past_end}
use Rattle.fst_batch.proofs.numbering.number_byte.Goals as goal

pub returns-then-position-line-clause-arcs : goal.returns-then-position-line-clause-arcs
returns-then-position-line-clause-arcs g c =
    let value = g.W.Weight.wide_value in
    let old = map (valued_arc value) c.args.out.now.items in
    let none = past_end c.args.line.now c.args.position (let past = c.if-position-line.true in omega arith) in
    subst (λ (o : Option ℕ). Continues c.args.points.now (byte_arcs o c.args.position (map (key_arc value) c.args.arcs.now)) old old) (sym none) (continues_none c.args.points.now old)

pub number_those-requires-clause-found : goal.number_those-requires-clause-found
number_those-requires-clause-found g c = c.requires.found c.from.result (slice_get-get_or c.args.line.now c.args.position 0 c.if-position-line.false ∙ ap Some (sym c.from.ensures))

pub returns-clause-arcs : goal.returns-clause-arcs
returns-clause-arcs g c =
    let value = g.W.Weight.wide_value in
    let at : slice_get c.args.line.now c.args.position ≡ Some c.from.result = slice_get-get_or c.args.line.now c.args.position 0 c.if-position-line.false ∙ ap Some (sym c.from.ensures) in
    on_ok_weaker c.number_those.result
    (λ h. subst (λ (o : Option ℕ). Continues c.args.points.now (byte_arcs o c.args.position (map (key_arc value) c.args.arcs.now)) (map (valued_arc value) c.args.out.now.items) (map (valued_arc value) c.number_those.new.out.items)) (sym at) h)
    c.number_those.ensures.arcs
