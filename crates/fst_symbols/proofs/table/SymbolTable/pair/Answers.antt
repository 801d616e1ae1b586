use Rattle.std.proofs.Common.{ap, length, arith, List, ℕ}
use Rattle.fst_symbols.proofs.Entries.{name_within}
use Rattle.fst_symbols.proofs.table.SymbolTable.pair.Goals as goal

pub returns-clause-short : goal.returns-clause-short
returns-clause-short c =
    let counted = c.self.invariant.counted in
    let within = name_within c.self.inside.symbols.entries c.args.index _ c.in-Some.ensures.entry in
    omega (arith, within, counted, c.self.invariant.fits, ap (λ (bs : List ℕ). length bs) c.as_slice.ensures)
