use Rattle.std.proofs.Common.{get_or, length, ◌∙◌, arith}
use Rattle.std.proofs.lemmas.Option.{slice_get-get_or}
use Rattle.fst_machine.specs.Machine.{valued}
use Rattle.fst_machine.specs.Graph.{graph_of}
use Rattle.fst_machine.proofs.Elements.{at_Has}
use Rattle.fst_machine.proofs.Walking.{taken_within}
use Rattle.fst_trim.specs.Sources.{pairs_from}
use Rattle.fst_trim.proofs.Looking.{pairs_are, source_within}
use Rattle.fst_trim.proofs.Backward.{back_goes_on, back_marks, back_few}
use Rattle.fst_trim.proofs.useful.walk_back.Goals as goal

pub of-states-requires : goal.of-states-requires
of-states-requires g c =
    let l = c.loop-taken in
    let states = c.args.fst.now.states in
    let at = taken_within l.seen.items l.names.items (length states) l.taken c.index.result.now l.invariant.marks l.invariant.size (omega arith) c.index.ensures in
    (length states, pairs_from 0 states, c.in_ok-sources.ensures, at.1)

pub find_each-requires-clause-within : goal.find_each-requires-clause-within
find_each-requires-clause-within g c k d within =
    let l = c.loop-taken in
    let states = c.args.fst.now.states in
    let at = taken_within l.seen.items l.names.items (length states) l.taken c.index.result.now l.invariant.marks l.invariant.size (omega arith) c.index.ensures in
    let p = get_or c.of-states.result.now k d in
    let has = at_Has c.of-states.result.now k p (slice_get-get_or c.of-states.result.now k d within) in
    let pair = (c.of-states.ensures (length states) (pairs_from 0 states) c.in_ok-sources.ensures at.1 p).0 has in
    omega (arith, source_within g.W.Weight.value c.args.fst.now p c.index.result.now pair, l.invariant.size)

pub loop-taken-smaller : goal.loop-taken-smaller
loop-taken-smaller g c =
    let few = back_few (graph_of (valued g.W.Weight.value c.args.fst.now)) c.loop-taken.names.items c.loop-taken.taken c.loop-taken.seen.items c.loop-taken.invariant.walking c.loop-taken.invariant.marks in
    omega (arith, few, c.loop-taken.invariant.size)

pub loop-taken-preserved : goal.loop-taken-preserved
loop-taken-preserved g c =
    let l = c.loop-taken in
    let value = g.W.Weight.value in
    let m = c.args.fst.now in
    let names = l.names.items in
    let q = c.index.result.now in
    let f = c.in_ok-find_each.ensures in
    let at = taken_within l.seen.items names (length m.states) l.taken q l.invariant.marks l.invariant.size (omega arith) c.index.ensures in
    let leads = c.of-states.ensures (length m.states) (pairs_from 0 m.states) c.in_ok-sources.ensures at.1 in
    record {
      walking = back_goes_on (graph_of (valued value m)) names c.find_each.new.names.items c.of-states.result.now l.taken q l.invariant.walking at.0 (λ p. ((λ has. (pairs_are value m p q).0 ((leads p).0 has)), (λ arc. (leads p).1 ((pairs_are value m p q).1 arc)))) f.grows;
      marks = f.marks;
      size = f.size ∙ l.invariant.size;
    }

pub returns-clause-marks : goal.returns-clause-marks
returns-clause-marks g c = back_marks (graph_of (valued g.W.Weight.value c.args.fst.now)) c.loop-taken.names.items c.loop-taken.taken c.loop-taken.seen.items c.loop-taken.invariant.walking (omega arith) c.loop-taken.invariant.marks
