use Rattle.std.proofs.Common.{◌≡◌, ◌+◌, ◌∷◌, ◌++◌, true, [], List, length, map, sym, ap, subst, ◌∙◌, append_assoc, arith}
use Rattle.std.specs.Vec.Iter.{drain_items}
use Rattle.std.proofs.lemmas.List.{length-append, length-map, map-append, take_all}
use Rattle.fst_semiring.specs.Cost.{Cost}
use Rattle.fst_machine.specs.Machine.{Arc, arc_total, valued_arc}
use Rattle.fst_walk.specs.Making.{IsFound, Passes, PutsArcs}
use Rattle.fst_walk.specs.Names.{key_arc}
use Rattle.fst_walk.proofs.Putting.{passes_then, puts_many, puts_more}
use Rattle.fst_walk.proofs.numbering.number_arcs.Goals as goal

pub returns-in_default-clause-put : goal.returns-in_default-clause-put
returns-in_default-clause-put g c =
    let value = key_arc g.W.Weight.wide_value in
    let made = c.args.made.now.items in
    let so_far = c.loop-arc.yielded in
    let y = c.in-Some.arc in
    let rest = drain_items c.next.new.self in
    let x : Arc g.row.W-Wide.Denot g.row.K.Denot = record { ilabel = c.arc.inside.ilabel; olabel = c.arc.inside.olabel; weight = c.arc.inside.weight; next = c.arc.inside.next } in
    let step : drain_items c.loop-arc.arc-iterator ≡ y ∷ rest = (rw c.in-Some.is at c.next.ensures.steps).0 in
    let start : drain_items c.into_iter-arc-iterator.result ≡ made = ap drain_items c.into_iter-arc-iterator.ensures.into_iter_gives ∙ (c.drain-arc-items.ensures.rest ∙ take_all _ made (omega (arith, c.args.made.now.ok))) in
    let whole : made ≡ so_far ++ y ∷ rest = sym start ∙ (c.loop-arc.invariant.all ∙ ap (λ zs. so_far ++ zs) step) in
    let mapped : map value made ≡ map value so_far ++ value x ∷ map value rest = ap (map value) whole ∙ (map-append value so_far (y ∷ rest) ∙ ap (λ a. map value so_far ++ value a ∷ map value rest) (sym c.arc.view_is)) in
    let passes : Passes c.args.limit c.loop-arc.names (x.next ∷ []) = rw c.in_default.is at c.in_ok-next.ensures in
    passes_then c.args.limit (map value made) (map value so_far) (value x ∷ []) (map value rest) c.args.names.now c.loop-arc.names c.loop-arc.invariant.puts.grown passes mapped

pub loop-arc-preserved : goal.loop-arc-preserved
loop-arc-preserved g c =
    let value = key_arc g.W.Weight.wide_value in
    let so_far = c.loop-arc.yielded in
    let y = c.in-Some.arc in
    let rest = drain_items c.next.new.self in
    let x : Arc g.row.W-Wide.Denot g.row.K.Denot = record { ilabel = c.arc.inside.ilabel; olabel = c.arc.inside.olabel; weight = c.arc.inside.weight; next = c.arc.inside.next } in
    let step : drain_items c.loop-arc.arc-iterator ≡ y ∷ rest = (rw c.in-Some.is at c.next.ensures.steps).0 in
    let found : IsFound c.args.limit c.loop-arc.names x.next c.find.new.names c.in-Some-2.next = rw c.in-Some-2.is at c.in_ok-next.ensures in
    let start = map (valued_arc g.W.Weight.value) c.args.states.now.arcs in
    let out = map (valued_arc g.W.Weight.value) c.loop-arc.states.arcs in
    let more = map (valued_arc g.W.Weight.value) c.put_arc.new.states.arcs in
    let may = c.args.fits ≡ true in
    let put = puts_more c.args.limit may (map value so_far) c.args.names.now c.loop-arc.names c.find.new.names start out more c.loop-arc.fits c.in_ok-fits.fits (value x) c.in-Some-2.next c.loop-arc.invariant.puts found c.in_ok-fits.ensures.range c.in_ok-fits.ensures.put in
    record {
      all = c.loop-arc.invariant.all ∙ (ap (λ zs. so_far ++ zs) step ∙ sym (append_assoc so_far (y ∷ []) rest));
      puts = subst (λ (zs : List (Arc Cost g.row.K.Denot)). PutsArcs c.args.limit may zs c.args.names.now c.find.new.names start more c.in_ok-fits.fits) (ap (λ a. map value so_far ++ value a ∷ []) c.arc.view_is ∙ sym (map-append value so_far (y ∷ []))) put;
      others = c.put_arc.ensures.others ∙ c.loop-arc.invariant.others;
    }

pub put_arc-requires : goal.put_arc-requires
put_arc-requires g c = record {
  room = λ t.
      let value = key_arc g.W.Weight.wide_value in
      let valued = valued_arc g.W.Weight.value in
      let made = c.args.made.now.items in
      let so_far = c.loop-arc.yielded in
      let y = c.in-Some.arc in
      let rest = drain_items c.next.new.self in
      let step : drain_items c.loop-arc.arc-iterator ≡ y ∷ rest = (rw c.in-Some.is at c.next.ensures.steps).0 in
      let start : drain_items c.into_iter-arc-iterator.result ≡ made = ap drain_items c.into_iter-arc-iterator.ensures.into_iter_gives ∙ (c.drain-arc-items.ensures.rest ∙ take_all _ made (omega (arith, c.args.made.now.ok))) in
      let whole : made ≡ so_far ++ y ∷ rest = sym start ∙ (c.loop-arc.invariant.all ∙ ap (λ zs. so_far ++ zs) step) in
      let size : length made ≡ length so_far + length (y ∷ rest) = ap length whole ∙ length-append so_far (y ∷ rest) in
      let long : length (map value so_far) ≡ length so_far = length-map so_far value in
      let now : length (map valued c.loop-arc.states.arcs) ≡ length c.loop-arc.states.arcs = length-map c.loop-arc.states.arcs valued in
      let before : length (map valued c.args.states.now.arcs) ≡ length c.args.states.now.arcs = length-map c.args.states.now.arcs valued in
      let many : length (map valued c.loop-arc.states.arcs) ≡ length (map valued c.args.states.now.arcs) + length (map value so_far) = puts_many c.args.limit (c.args.fits ≡ true) (map value so_far) c.args.names.now c.loop-arc.names (map valued c.args.states.now.arcs) (map valued c.loop-arc.states.arcs) c.loop-arc.fits c.loop-arc.invariant.puts t in
      let total : arc_total c.loop-arc.states.states ≡ arc_total c.args.states.now.states = ap (arc_total {V = g.row.W.Denot}) c.loop-arc.invariant.others in
      let own = c.requires.room (c.loop-arc.invariant.puts.range.0 t).0 in
      omega (arith, size, long, now, before, many, total, own);
}
