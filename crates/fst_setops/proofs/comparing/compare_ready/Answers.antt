use Rattle.fst_machine.specs.Graph.{graph_of}
use Rattle.fst_machine.specs.Machine.{valued}
use Rattle.fst_setops.proofs.Telling.{ended_pairs}
use Rattle.fst_setops.proofs.Ways.{ascends_single}
use Rattle.fst_setops.proofs.comparing.compare_ready.Goals as goal

pub take_words-requires-clause-first : goal.take_words-requires-clause-first
take_words-requires-clause-first g c = record { weighed = c.weigh.ensures; ascends = c.requires.first }

pub take_words-requires-clause-second : goal.take_words-requires-clause-second
take_words-requires-clause-second g c = record { weighed = c.weigh-2.ensures; ascends = c.requires.second }

pub returns-clause-fits : goal.returns-clause-fits
returns-clause-fits g c =
    let ended = rw c.in-Some.is at c.in_ok-noted.ensures.ended in
    let new = c.take_words.new.search in
    ended_pairs g.W.Weight.KIND g.W.Weight.wide_value (graph_of (valued g.W.Weight.value c.args.a.now)) (graph_of (valued g.W.Weight.value c.args.b.now)) c.args.max_states new.pairs new.slots.items new.nodes.items c.in-Some.noted ended (ascends_single (graph_of (valued g.W.Weight.value c.args.a.now)) c.requires.first) (ascends_single (graph_of (valued g.W.Weight.value c.args.b.now)) c.requires.second) c.weigh.ensures.weighted c.weigh-2.ensures.weighted c.requires.cancel
