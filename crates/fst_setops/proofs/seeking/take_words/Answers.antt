use Rattle.std.proofs.Common.{◌<◌, ◌+◌, length, arith}
use Rattle.fst_machine.specs.Graph.{graph_of}
use Rattle.fst_machine.specs.Machine.{valued}
use Rattle.fst_setops.proofs.SoughtTaking.{few_words}
use Rattle.fst_setops.proofs.SoughtNoted.{noted_more}
use Rattle.fst_setops.proofs.seeking.take_words.Goals as goal

pub note_word-noted-requires-clause-few : goal.note_word-noted-requires-clause-few
note_word-noted-requires-clause-few g c = few_words g.W.Weight.KIND g.W.Weight.wide_value c.args.limit c.loop-taken.search.pairs c.loop-taken.search.slots.items c.loop-taken.search.nodes.items c.loop-taken.invariant.sought.sound c.requires.few

pub loop-taken-smaller : goal.loop-taken-smaller
loop-taken-smaller g c =
    let few = few_words g.W.Weight.KIND g.W.Weight.wide_value c.args.limit c.loop-taken.search.pairs c.loop-taken.search.slots.items c.loop-taken.search.nodes.items c.loop-taken.invariant.sought.sound c.requires.few in
    let low : c.loop-taken.taken < length c.loop-taken.search.nodes.items = omega (arith, c.loop-taken-test.true) in
    omega (arith, few, low)

pub loop-taken-preserved : goal.loop-taken-preserved
loop-taken-preserved g c =
    let low : c.loop-taken.taken < length c.loop-taken.search.nodes.items = omega (arith, c.loop-taken-test.true) in
    record {
      sought = c.in_ok-take_word.ensures.goes c.if-not-branch.false;
      noted = noted_more g.W.Weight.KIND (graph_of (valued g.W.Weight.value c.args.a.now)) (graph_of (valued g.W.Weight.value c.args.b.now)) c.loop-taken.search.nodes.items c.take_word.new.search.nodes.items (c.loop-taken.taken + 1) c.note_word-noted.result (omega (arith, low)) (c.in_ok-take_word.ensures.kept c.if-not-branch.false) c.note_word-noted.ensures;
    }
