use Rattle.std.proofs.Common.{map, sym, arith}
use Rattle.std.proofs.lemmas.List.{append-nil}
use Rattle.fst_machine.specs.Machine.{valued}
use Rattle.fst_machine.specs.Graph.{graph_of}
use Rattle.fst_machine.specs.Steps.{written}
use Rattle.fst_nbest.specs.FirstPaths.{traced}
use Rattle.fst_nbest.proofs.TracedWords.{mapped_all, mapped_more}
use Rattle.fst_nbest.proofs.traced.put_traced.Goals as goal

pub loop-i-init : goal.loop-i-init
loop-i-init g c = sym (append-nil (map written c.args.paths.now))

pub loop-i-preserved : goal.loop-i-preserved
loop-i-preserved g c =
    mapped_more written (traced (graph_of (valued g.M.AsMachine.value (g.M.AsMachine.machine c.args.fst.now))) c.args.start) c.args.paths.now c.loop-i.paths c.push.new.self c.args.words.now c.loop-i.i c.item.result.now c.in_ok-path.path
    c.item.ensures c.in_ok-path.ensures c.in_ok-push.ensures.ok c.loop-i.invariant

pub returns : goal.returns
returns g c =
    mapped_all written (traced (graph_of (valued g.M.AsMachine.value (g.M.AsMachine.machine c.args.fst.now))) c.args.start) c.args.paths.now c.loop-i.paths c.args.words.now c.loop-i.i (omega (arith, c.loop-i-test.false, c.len-i-end.ensures)) c.loop-i.invariant
