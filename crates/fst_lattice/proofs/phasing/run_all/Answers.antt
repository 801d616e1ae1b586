use Rattle.std.proofs.Common.{◌<◌, Some, length, get_or, sym, ap, ◌∙◌, subst₂, rules, arith}
use Rattle.std.proofs.lemmas.Option.{get_or_from_slice_get, slice_get-get_or, slice_get_within}
use Rattle.fst_lattice.specs.Phases.{HasRun, IsReady}
use Rattle.fst_lattice.proofs.phasing.run_all.Goals as goal

pub for_each_mut-requires-clause-accepts : goal.for_each_mut-requires-clause-accepts
for_each_mut-requires-clause-accepts g c = λ κs within i p low is.
    let ready : IsReady g.W.Weight.KIND g.W.Weight.value g.W.Weight.wide_value g.M.Meter.count g.M.Meter.parts_out g.M.Meter.is_part c.args.delayed.now c.args.lines.now c.args.cache.now c.args.claims.now p.now =
    c.requires.ready i p.now (slice_get-get_or c.args.workers.now i p.now low ∙ ap Some (sym is)) in
    let few : i < 64 = omega (arith, low, c.requires.few) in
    (c.requires.entries, (few, (ready, search rules)))

pub returns : goal.returns
returns g c =
    let h = c.for_each_mut.ensures in
    record {
      run = record {
        size = c.for_each_mut.auto.s;
        each = λ k w at.
            let low : k < length c.args.workers.now = omega (arith, slice_get_within c.for_each_mut.new.s k w at, c.for_each_mut.auto.s) in
            let call = (h k w low).1 in (
              get_or c.args.workers.now k w,
              slice_get-get_or c.args.workers.now k w low,
              subst₂ (HasRun g.W.Weight.KIND g.W.Weight.value g.W.Weight.wide_value g.M.Meter.count g.M.Meter.parts_out g.M.Meter.is_part c.args.delayed.now c.args.lines.now c.args.cache.now c.args.claims.now)
                  call.argument_is (call.left ∙ get_or_from_slice_get c.for_each_mut.new.s k w w at) call.call,
            );
      };
    }
