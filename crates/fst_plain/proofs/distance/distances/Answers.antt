use Rattle.std.proofs.Common.{◌≡◌, ◌+◌, List, length, sym, ap, ◌∙◌, subst, arith}
use Rattle.std.proofs.lemmas.List.{length-map}
use Rattle.fst_machine.specs.Machine.{valued, valued_state}
use Rattle.fst_plain.specs.declared.cost.PlainCost.{PlainCost}
use Rattle.fst_plain.specs.Tables.{table_at, AllFit}
use Rattle.fst_plain.proofs.Bounds.{Fits-more}
use Rattle.fst_plain.proofs.Tables.{relaxed}
use Rattle.fst_plain.proofs.distance.distances.Goals as goal

pub relax-requires-clause-fits : goal.relax-requires-clause-fits
relax-requires-clause-fits g c = (c.loop-round._round + 1, omega arith, subst (λ (t : List PlainCost). AllFit (c.loop-round._round + 1) t) (sym c.as_slice.ensures.value) c.loop-round.invariant.fits)

pub loop-round-preserved : goal.loop-round-preserved
loop-round-preserved g c =
    let r = c.in_ok-table.ensures in
    let value = g.W.Weight.value in
    let fst = c.args.fst.now in
    let round = c.loop-round._round in
    let states : length (valued value fst).states ≡ length fst.states = length-map fst.states (valued_state value) in
    let table : AllFit (round + 1) c.as_slice.result.now = subst (λ (t : List PlainCost). AllFit (round + 1) t) (sym c.as_slice.ensures.value) c.loop-round.invariant.fits in
    record {
      size = r.size;
      value = relaxed g.W.Weight.KIND (valued value fst) c.args.targets.now c.as_slice.result.now c.in_ok-table.table.items round (omega (arith, c.requires.targets)) (omega (arith, r.size)) (λ p. ap (λ (t : List PlainCost). table_at t p) c.as_slice.ensures.value ∙ c.loop-round.invariant.value p) (λ p low. r.value p (omega arith));
      fits = r.fits (round + 1) table (λ p. Fits-more 1 (round + 1 + 1) (table_at c.args.targets.now p) (omega arith) (c.requires.fits p));
    }
