use Rattle.std.proofs.Common.{◌≡◌, ◌+◌, ◌++◌, ◌∷◌, [], Some, length, slice_get, refl, ap, ◌∙◌, arith}
use Rattle.std.specs.Prelude.{sum_by}
use Rattle.std.proofs.lemmas.List.{length-append}
use Rattle.std.proofs.lemmas.List.Sums.{sum_by_push}
use Rattle.fst_machine.proofs.Arcs.{at_append_left, at_append_right}
use Rattle.fst_lattice.specs.Phases.{Laborer}
use Rattle.fst_lattice.proofs.hiring.dismiss.Goals as goal

pub join-requires-clause-part : goal.join-requires-clause-part
join-requires-clause-part g c =
    let w = c.in-Some.worker in
    let rest = c.pop.new.self.items in
    let last : length rest ≡ length rest + 0 = omega arith in
    let there : slice_get c.loop-worker.left.items (length rest) ≡ Some w =
    ap (λ vs. slice_get vs (length rest)) c.in-Some.ensures.items ∙ (ap (slice_get (rest ++ w ∷ [])) last ∙ at_append_right rest (w ∷ []) 0 w refl) in
    ap g.M.Meter.is_part c.into_meter.ensures ∙ c.loop-worker.invariant.parts (length rest) w there

pub loop-worker-preserved : goal.loop-worker-preserved
loop-worker-preserved g c =
    let inv = c.loop-worker.invariant in
    let w = c.in-Some.worker in
    let rest = c.pop.new.self.items in
    let grown : c.loop-worker.left.items ≡ rest ++ w ∷ [] = c.in-Some.ensures.items in
    let total = ap (sum_by (λ (v : Laborer g.row.W-Wide.Denot g.row.M.Denot). g.M.Meter.count v.meter)) grown ∙ sum_by_push (λ (v : Laborer g.row.W-Wide.Denot g.row.M.Denot). g.M.Meter.count v.meter) rest w in
    let long = ap length grown ∙ length-append rest (w ∷ []) in
    let meter = ap g.M.Meter.count c.into_meter.ensures in
    record {
      sum = omega (arith, inv.sum, c.join.ensures.count, total, meter);
      few = inv.few;
      parts = λ k v at. inv.parts k v (ap (λ vs. slice_get vs k) grown ∙ at_append_left rest (w ∷ []) k v at);
      out = omega (arith, inv.out, c.join.ensures.parts, long);
      room = inv.room;
      whole = c.join.ensures.part ∙ inv.whole;
    }
