use Rattle.std.proofs.Common.{◌∷◌, [], length, ap, arith}
use Rattle.std.proofs.lemmas.List.{length-append}
use Rattle.fst_machine.specs.Machine.{Machine, bare_state}
use Rattle.fst_batch.proofs.Filled.{bare_more, fine_if}
use Rattle.fst_batch.proofs.filling.blank_machine.Goals as goal

pub loop-preserved : goal.loop-preserved
loop-preserved g c =
    let value = g.W.Weight.wide_value in
    let zero' = fine_if c.add_state.result c.is_err.result c.is_err.ensures.value c.if-is_err.false c.add_state.ensures.zero in
    let put = ap (λ (m : Machine _). m.states) zero'.2 in
    let long = ap length put in
    let one = length-append c.loop.fst.states (bare_state zero'.0 ∷ []) in
    let size = c.loop.invariant.size in
    record {
      within = omega arith;
      size = omega (arith, long, one, size);
      bare = bare_more value c.loop.fst.states c.add_state.new.self.states zero'.0 zero'.1 put c.loop.invariant.bare;
    }
