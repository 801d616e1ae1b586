use Rattle.std.proofs.Common.{true≢false, sym, ◌∙◌, arith}
use Rattle.fst_nbest.proofs.Counted.{stops_more, stops_skip}
use Rattle.fst_nbest.proofs.counting.meet_stops.Goals as goal

pub loop-name-preserved-then-not-is_stop : goal.loop-name-preserved-then-not-is_stop
loop-name-preserved-then-not-is_stop g c =
    let b = g.B.Backward in
    record {
      stops = stops_skip (b.stops c.args.back.now) (b.size c.args.back.now) c.loop-name.name c.loop-name.counts.items c.loop-name.names.items c.loop-name.invariant.stops
          (λ stops. true≢false (sym (c.is_stop.ensures.1 stops) ∙ c.if-not-is_stop.true));
    }

pub loop-name-preserved : goal.loop-name-preserved
loop-name-preserved g c =
    let b = g.B.Backward in
    record {
      stops = stops_more (b.stops c.args.back.now) (b.size c.args.back.now) c.loop-name.name c.loop-name.counts.items c.loop-name.names.items c.meet.new.counts.items c.meet.new.names.items
          (omega (arith, c.name_count-name-end.ensures.count, c.loop-name-test.true)) c.loop-name.invariant.stops (c.is_stop.ensures.0 c.if-not-is_stop.false) c.in_ok-meet.ensures.met;
    }
