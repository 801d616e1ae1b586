use Rattle.std.proofs.Common.{◌≡◌, ◌++◌, ◌∷◌, [], map, sym, ap, ◌∙◌, arith}
use Rattle.std.proofs.lemmas.Result.{err_from_is_err_and}
use Rattle.std.proofs.lemmas.List.{map_push}
use Rattle.fst_machine.specs.Machine.{valued_arc}
use Rattle.fst_machine.specs.OpenStates.{OpenStates}
use Rattle.fst_binary.specs.Reading.{arc_at, arcs_at}
use Rattle.fst_bytes.specs.Reading.{with_front}
use Rattle.fst_bytes.proofs.Lengths.{length_push}
use Rattle.fst_bytes.proofs.Loops.{many_are_read, many_end, many_go_on}
use Rattle.fst_binary.proofs.decoding.read_more_arcs.Goals as goal

pub returns-in_err-arc-clause-value : goal.returns-in_err-arc-clause-value
returns-in_err-arc-clause-value g c =
    let p = err_from_is_err_and c.from_residual.result c.from_residual.ensures.1 in
    rw (p.1, p.2) (many_end (arc_at g.W.Weight.KIND c.args.states c.args.bytes.now) (map (valued_arc g.W.Weight.value) c.loop.list.arcs) c.args.count c.loop.counter c.loop.behind c.in_err-arc.field-0.0 (with_front (map (valued_arc g.W.Weight.value) c.args.list.now.arcs) (arcs_at g.W.Weight.KIND c.args.states c.args.count c.args.bytes.now c.args.at)) c.loop-test.true (sym c.in_err-arc.ensures.value) c.loop.invariant.so_far)

pub loop-preserved : goal.loop-preserved
loop-preserved g c =
    let value = g.W.Weight.value in
    let arc = c.in_ok-arc.arc in
    let put = c.in_ok-put_arc.ensures.ok in
    let grown : c.put_arc.new.self.arcs ≡ c.loop.list.arcs ++ arc ∷ [] = ap (λ (o : OpenStates g.row.W.Denot). o.arcs) put in
    let more : map (valued_arc value) c.put_arc.new.self.arcs ≡ map (valued_arc value) c.loop.list.arcs ++ valued_arc value arc ∷ [] = rw grown (map_push (valued_arc value) c.loop.list.arcs arc) in
    record {
      so_far = rw more (many_go_on (arc_at g.W.Weight.KIND c.args.states c.args.bytes.now) (map (valued_arc value) c.loop.list.arcs) c.args.count c.loop.counter c.loop.behind (valued_arc value arc) c.in_ok-arc.after (with_front (map (valued_arc g.W.Weight.value) c.args.list.now.arcs) (arcs_at g.W.Weight.KIND c.args.states c.args.count c.args.bytes.now c.args.at)) c.loop-test.true (sym c.in_ok-arc.ensures.value) c.loop.invariant.so_far);
      count = omega (arith, length_push _ _ arc grown, c.loop.invariant.count);
      others = ap (λ (o : OpenStates g.row.W.Denot). o.states) put ∙ c.loop.invariant.others;
      behind = c.in_ok-arc.ensures.behind;
    }

pub returns-clause-value : goal.returns-clause-value
returns-clause-value g c = many_are_read (arc_at g.W.Weight.KIND c.args.states c.args.bytes.now) (map (valued_arc g.W.Weight.value) c.loop.list.arcs) c.args.count c.loop.counter c.loop.behind (with_front (map (valued_arc g.W.Weight.value) c.args.list.now.arcs) (arcs_at g.W.Weight.KIND c.args.states c.args.count c.args.bytes.now c.args.at)) c.loop-test.false c.loop.invariant.so_far
