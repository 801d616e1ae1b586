use Rattle.std.proofs.Common.{ℕ, sym, subst}
use Rattle.fst_minimize.specs.Numbered.{AreRows, RowsBelow, TellsBehaviour, number_in}
use Rattle.fst_minimize.specs.Refining.{IsRefined}
use Rattle.fst_minimize.proofs.Linking.{sorted_graph, sorted_rows, rows_below, first_is_refined, tells_back}
use Rattle.fst_minimize.proofs.making.number_classes.Goals as goal

pub refine-requires-clause-below : goal.refine-requires-clause-below
refine-requires-clause-below g c =
    let m = c.args.pushed.now in
    let d = c.in_ok-description.description in
    let of = c.in_ok-description.ensures.described in
    let rows = sorted_rows m d.first.numbers.items d.first.least.items d.rows of c.requires.once c.requires.goes c.requires.closed.next c.requires.acceptor in
    subst (λ (n : ℕ). RowsBelow n d.rows) (sym rows.size) (rows_below m d.first.numbers.items d.first.least.items d.rows of c.requires.once c.requires.goes c.requires.closed.next c.requires.acceptor)

pub returns-clause-tells : goal.returns-clause-tells
returns-clause-tells g c =
    let m = c.args.pushed.now in
    let d = c.in_ok-description.description in
    let of = c.in_ok-description.ensures.described in
    let graph = sorted_graph m d.first.numbers.items d.first.least.items d.rows of c.requires.once c.requires.goes c.requires.closed.next c.requires.acceptor in
    let rows = sorted_rows m d.first.numbers.items d.first.least.items d.rows of c.requires.once c.requires.goes c.requires.closed.next c.requires.acceptor in
    let refined = first_is_refined m d.first.numbers.items d.first.least.items d.rows of c.requires.once c.requires.goes c.requires.closed.next c.requires.acceptor in
    let there = c.in_ok-classes.ensures.behaviour graph (subst (λ (n : ℕ). AreRows graph n d.rows) (sym rows.size) rows) (subst (λ (n : ℕ). IsRefined graph n (number_in d.first.numbers.items)) (sym rows.size) refined) in
    tells_back m d.first.numbers.items d.first.least.items d.rows of c.requires.once c.requires.goes c.requires.closed.next c.requires.acceptor c.in_ok-classes.classes.numbers.items
    (subst (λ (n : ℕ). TellsBehaviour graph n c.in_ok-classes.classes.numbers.items) rows.size there)
