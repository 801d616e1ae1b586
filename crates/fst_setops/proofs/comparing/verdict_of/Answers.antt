use Rattle.std.proofs.Common.{List, [], get_or, length, sym, ap, ◌∙◌, subst, arith}
use Rattle.fst_machine.specs.Graph.{graph_of}
use Rattle.fst_machine.specs.Machine.{most_states, valued}
use Rattle.fst_setops.specs.Kept as kept
use Rattle.fst_setops.specs.Sought.{AreParents, words_of}
use Rattle.fst_setops.proofs.Telling.{ended_few, ended_parents, ended_same, ended_separates, noted_low}
use Rattle.fst_setops.proofs.Ways.{ascends_single}
use Rattle.fst_setops.proofs.comparing.verdict_of.Goals as goal

pub weights_at-weights-requires-clause-place : goal.weights_at-weights-requires-clause-place
weights_at-weights-requires-clause-place g c = noted_low g.W.Weight.KIND g.W.Weight.wide_value (graph_of (valued g.W.Weight.value c.args.a.now)) (graph_of (valued g.W.Weight.value c.args.b.now)) most_states c.args.search.now.pairs c.args.search.now.slots.items c.args.search.now.nodes.items c.args.noted c.requires.ended c.in-Some.place c.in-Some.is

pub weights_at-weights-requires-clause-few : goal.weights_at-weights-requires-clause-few
weights_at-weights-requires-clause-few g c = ended_few g.W.Weight.KIND g.W.Weight.wide_value (graph_of (valued g.W.Weight.value c.args.a.now)) (graph_of (valued g.W.Weight.value c.args.b.now)) most_states c.args.search.now.pairs c.args.search.now.slots.items c.args.search.now.nodes.items c.args.noted c.requires.ended (omega arith)

pub weights_at-weights-requires-clause-pairs : goal.weights_at-weights-requires-clause-pairs
weights_at-weights-requires-clause-pairs g c = c.requires.ended.sought.sound.few

pub weights_at-weights-requires-clause-words : goal.weights_at-weights-requires-clause-words
weights_at-weights-requires-clause-words g c = c.requires.ended.sought.words

pub spell-requires-clause-place : goal.spell-requires-clause-place
spell-requires-clause-place g c =
    let low = noted_low g.W.Weight.KIND g.W.Weight.wide_value (graph_of (valued g.W.Weight.value c.args.a.now)) (graph_of (valued g.W.Weight.value c.args.b.now)) most_states c.args.search.now.pairs c.args.search.now.slots.items c.args.search.now.nodes.items c.args.noted c.requires.ended c.in-Some.place c.in-Some.is in
    omega (arith, low, ap length c.as_slice.ensures.value)

pub spell-requires-clause-parents : goal.spell-requires-clause-parents
spell-requires-clause-parents g c = subst (λ (ns : List (kept.Node g.row.W-Wide.Denot)). AreParents ns) (sym c.as_slice.ensures.value) (ended_parents g.W.Weight.KIND g.W.Weight.wide_value (graph_of (valued g.W.Weight.value c.args.a.now)) (graph_of (valued g.W.Weight.value c.args.b.now)) most_states c.args.search.now.pairs c.args.search.now.slots.items c.args.search.now.nodes.items c.args.noted c.requires.ended)

pub returns-in_default-clause-said : goal.returns-in_default-clause-said
returns-in_default-clause-said g c = ended_same g.W.Weight.KIND g.W.Weight.wide_value (graph_of (valued g.W.Weight.value c.args.a.now)) (graph_of (valued g.W.Weight.value c.args.b.now)) most_states c.args.search.now.pairs c.args.search.now.slots.items c.args.search.now.nodes.items c.args.noted c.requires.ended (ascends_single (graph_of (valued g.W.Weight.value c.args.a.now)) c.requires.first.ascends) (ascends_single (graph_of (valued g.W.Weight.value c.args.b.now)) c.requires.second.ascends) c.requires.first.weighed.weighted c.requires.second.weighed.weighted c.requires.cancel c.in_default.is

pub returns-clause-said : goal.returns-clause-said
returns-clause-said g c =
    ended_separates g.W.Weight.KIND g.W.Weight.wide_value (graph_of (valued g.W.Weight.value c.args.a.now)) (graph_of (valued g.W.Weight.value c.args.b.now)) most_states c.args.search.now.pairs c.args.search.now.slots.items c.args.search.now.nodes.items c.args.noted c.requires.ended (ascends_single (graph_of (valued g.W.Weight.value c.args.a.now)) c.requires.first.ascends) (ascends_single (graph_of (valued g.W.Weight.value c.args.b.now)) c.requires.second.ascends) c.requires.first.weighed.weighted c.requires.second.weighed.weighted c.requires.cancel c.in-Some.place c.in-Some.is c.in_ok-word.word c.weights_at-weights.result.first c.weights_at-weights.result.second
    (c.in_ok-word.ensures ∙ ap (λ (ns : List (kept.Node g.row.W-Wide.Denot)). get_or (words_of ns) c.in-Some.place []) c.as_slice.ensures.value) c.weights_at-weights.ensures.weights
