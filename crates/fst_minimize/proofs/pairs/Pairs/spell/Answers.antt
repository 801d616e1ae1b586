use Rattle.std.proofs.Common.{List, ℕ, take, get_or, sym, subst, arith}
use Rattle.std.proofs.lemmas.List.{take_more}
use Rattle.fst_table.specs.Placed.{placed_in}
use Rattle.fst_minimize.specs.Pairs.{Spells}
use Rattle.fst_minimize.proofs.Tables.{Spells_more, Spells_push}
use Rattle.fst_minimize.proofs.pairs.Pairs.spell.Goals as goal

pub loop-value-preserved : goal.loop-value-preserved
loop-value-preserved c =
    let old = placed_in c.loop-value.self.table in
    let new = placed_in c.number.new.self.table in
    let row = take c.loop-value.value-index c.args.values.now in
    let value = get_or c.args.values.now c.loop-value.value-index 0 in
    let was = Spells_more old new c.args.head row c.loop-value.end c.in_ok-end.ensures.kept c.loop-value.invariant.spells in
    let more = Spells_push new c.args.head row c.loop-value.end value c.in_ok-end.end was c.in_ok-end.ensures.known in
    record {
      spells = subst (λ (vs : List ℕ). Spells new c.args.head vs c.in_ok-end.end) (sym (take_more c.args.values.now c.loop-value.value-index 0 (omega arith))) more;
      kept = λ n i e. c.in_ok-end.ensures.kept n i (c.loop-value.invariant.kept n i e);
    }
