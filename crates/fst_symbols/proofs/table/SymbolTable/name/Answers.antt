use Rattle.std.proofs.Common.{◌∙◌, ℕ, List, Some, ap}
use Rattle.std.specs.Option.{option_map}
use Rattle.fst_symbols.specs.declared.name.Name.{Name}
use Rattle.fst_symbols.specs.Symbols.{Symbol, name_of}
use Rattle.fst_symbols.proofs.Entries.{name_by_place}
use Rattle.fst_symbols.proofs.table.SymbolTable.name.Goals as goal

pub returns-in_err-place-clause-name : goal.returns-in_err-place-clause-name
returns-in_err-place-clause-name c =
    ap (option_map (λ name. name.now)) c.from_residual.ensures
    ∙ name_by_place c.self.inside.symbols.entries _ _ c.self.invariant c.args.label _ c.in_err-place.ensures.index
    ∙ ap (λ (ss : List Symbol). name_of ss c.args.label) c.self.view_is

pub returns-clause-name : goal.returns-clause-name
returns-clause-name c =
    ap Some c.as_slice.ensures
    ∙ ap (option_map (λ (e : Name × ℕ). e.0.bytes.items)) c.in_ok-name.ensures.entry
    ∙ name_by_place c.self.inside.symbols.entries _ _ c.self.invariant c.args.label _ c.in_ok-place.ensures.index
    ∙ ap (λ (ss : List Symbol). name_of ss c.args.label) c.self.view_is
