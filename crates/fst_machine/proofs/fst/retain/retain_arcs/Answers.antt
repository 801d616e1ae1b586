use Rattle.std.proofs.Common.{ℕ, sym, ◌∙◌, arith}
use Rattle.std.proofs.lemmas.List.{drop-set-lt, length-set}
use Rattle.fst_machine.specs.Machine.{Arc}
use Rattle.fst_machine.specs.Renumbered.{renumbered}
use Rattle.fst_machine.proofs.Retaining.{passed, put}
use Rattle.fst_machine.proofs.fst.retain.retain_arcs.Goals as goal

pub loop-place-preserved-then-not-is_marked : goal.loop-place-preserved-then-not-is_marked
loop-place-preserved-then-not-is_marked g c =
    let i = c.loop-place.invariant in
    let arc : Arc g.row.V.Denot ℕ = record { ilabel = c.arc.inside.ilabel; olabel = c.arc.inside.olabel; weight = c.arc.inside.weight; next = c.arc.inside.next } in
    let store = c.loop-place.store in
    record {
      kept = passed c.args.marks.now c.args.numbers.now c.args.store.now store _ c.args.first c.args.count c.loop-place.place c.loop-place.end arc c.index-store-place.result (omega (arith, i.size, c.requires.inside)) i.size (sym c.arc.view_is) (i.behind c.loop-place.place (omega arith)) (omega arith) (sym (c.if-not-is_marked.ensures).marked) i.kept;
      behind = λ n low. i.behind n (omega (arith, low));
      size = i.size;
      low = i.low;
      high = omega (arith, i.high);
      from = omega (arith, i.from);
      none = λ e. absurd (omega (arith, i.from, e));
    }

pub loop-place-preserved : goal.loop-place-preserved
loop-place-preserved g c =
    let i = c.loop-place.invariant in
    let arc : Arc g.row.V.Denot ℕ = record { ilabel = c.arc.inside.ilabel; olabel = c.arc.inside.olabel; weight = c.arc.inside.weight; next = c.arc.inside.next } in
    let store = c.loop-place.store in
    let end = c.loop-place.end in
    record {
      kept = put c.args.marks.now c.args.numbers.now c.args.store.now store _ c.args.first c.args.count c.loop-place.place end arc c.index-store-place.result (omega (arith, i.size, c.requires.inside)) i.size (sym c.arc.view_is) (i.behind c.loop-place.place (omega arith)) (omega arith) (omega (arith, i.high, c.requires.place)) (sym c.is_marked.ensures.marked ∙ c.if-not-is_marked.false) i.kept;
      behind = λ n low. drop-set-lt n store end (renumbered c.args.numbers.now arc) (omega (arith, i.high, low, c.requires.place)) ∙ i.behind n (omega (arith, low));
      size = length-set store end (renumbered c.args.numbers.now arc) ∙ i.size;
      low = omega (arith, i.low);
      high = omega (arith, i.high);
      from = omega (arith, i.from);
      none = λ e. absurd (omega (arith, i.from, e));
    }
