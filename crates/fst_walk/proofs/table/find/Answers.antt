use Rattle.fst_walk.proofs.Tables.{found_put, passes_new}
use Rattle.fst_walk.proofs.table.find.Goals as goal

pub returns-in-Some : goal.returns-in-Some
returns-in-Some g c =
    let had = c.in_ok-place.ensures in
    found_put g.K.PartialEq.eq g.met.K.Coded.same c.args.limit c.args.names.now c.args.key c.put_below.new.self c.in-Some.place c.in-Some._is_new c.requires.few
    (rw c.in-Some.is at had.keys) (rw c.in-Some.is at had.added) (rw c.in-Some.is at had.last) (rw c.in-Some.is at had.there)

pub returns-in-None : goal.returns-in-None
returns-in-None g c =
    let full = c.in_ok-place.ensures.full c.in-None.is in
    passes_new g.K.PartialEq.eq g.met.K.Coded.same c.args.limit c.args.names.now c.args.key full.0 full.1
