use Rattle.std.proofs.Common.{◌∙◌, subst}
use Rattle.std.specs.Map.Iter.{deref_pair}
use Rattle.std.proofs.lemmas.Map.Iter.{rest_all, rest_more}
use Rattle.fst_table.specs.Placed.{placed_in}
use Rattle.fst_table.proofs.Overflow.{HasRest, rest-first, rest-less, rest-none}
use Rattle.fst_table.proofs.flat_table.FlatTable.fill_from_overflow.Goals as goal

pub put-requires-clause-place : goal.put-requires-clause-place
put-requires-clause-place c =
    let more = rest_more deref_pair c.loop-number.number-iterator c.next.new.self c.next.result (c.in-Some.number, c.in-Some.place) c.in-Some.is c.next.ensures.steps in
    (rest-first (placed_in c.loop-number.self) (placed_in c.args.from.now) c.in-Some.number.now c.in-Some.place.now c.loop-number.number-iterator c.next.new.self more c.loop-number.invariant.rest).1

pub put-requires-clause-absent : goal.put-requires-clause-absent
put-requires-clause-absent c =
    let more = rest_more deref_pair c.loop-number.number-iterator c.next.new.self c.next.result (c.in-Some.number, c.in-Some.place) c.in-Some.is c.next.ensures.steps in
    (rest-first (placed_in c.loop-number.self) (placed_in c.args.from.now) c.in-Some.number.now c.in-Some.place.now c.loop-number.number-iterator c.next.new.self more c.loop-number.invariant.rest).0

pub loop-number-preserved : goal.loop-number-preserved
loop-number-preserved c =
    let more = rest_more deref_pair c.loop-number.number-iterator c.next.new.self c.next.result (c.in-Some.number, c.in-Some.place) c.in-Some.is c.next.ensures.steps in
    record {
      rest = rest-less (placed_in c.loop-number.self) (placed_in c.put.new.self) (placed_in c.args.from.now) c.in-Some.number.now c.in-Some.place.now c.loop-number.number-iterator c.next.new.self more c.in_ok-put.ensures.put c.loop-number.invariant.rest;
      len = c.put.ensures.len ∙ c.loop-number.invariant.len;
    }

pub returns-clause-filled : goal.returns-clause-filled
returns-clause-filled c =
    let none = rest_all deref_pair c.loop-number.number-iterator c.next.new.self c.next.result c.in-None.is c.next.ensures.steps in
    rest-none (placed_in c.loop-number.self) (placed_in c.args.from.now) (subst (HasRest (placed_in c.loop-number.self) (placed_in c.args.from.now)) none c.loop-number.invariant.rest)
