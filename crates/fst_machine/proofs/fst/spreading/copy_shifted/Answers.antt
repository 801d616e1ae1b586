use Rattle.std.proofs.Common.{◌∙◌, sym, arith}
use Rattle.std.proofs.lemmas.List.{drop-set-lt, length-set}
use Rattle.fst_machine.specs.Extending.{wrapped}
use Rattle.fst_machine.proofs.PutNext.{copied}
use Rattle.fst_machine.proofs.fst.spreading.copy_shifted.Goals as goal

pub loop-place-preserved : goal.loop-place-preserved
loop-place-preserved g c =
    let i = c.loop-place.invariant in
    let store = c.loop-place.store in
    let end = c.loop-place.end in
    let arc = c.index-store-place.result in
    rw c.further_on.ensures (record {
      kept = copied c.args.by c.args.store.now store _ c.args.first c.args.count c.loop-place.place end arc arc (omega (arith, i.size, c.requires.inside)) i.size (sym c.index-store-place.is) (i.behind c.loop-place.place (omega arith)) (omega arith) (omega (arith, i.level, c.requires.place)) i.kept;
      behind = λ n low. drop-set-lt n store end (wrapped c.args.by arc) (omega (arith, i.level, low, c.requires.place)) ∙ i.behind n (omega (arith, low));
      size = length-set store end (wrapped c.args.by arc) ∙ i.size;
      level = omega (arith, i.level);
      from = omega (arith, i.from);
      high = omega arith;
      none = λ e. absurd (omega (arith, i.from, e));
    })
