use Rattle.std.proofs.Common.{◌∙◌, ◌≡◌, ◌∷◌, ◌++◌, [], ℕ, List, None, ap, length, ◌+◌, subst, sym}
use Rattle.fst_symbols.specs.declared.name.Name.{Name}
use Rattle.fst_symbols.specs.Kept.{IsKept, symbols_of}
use Rattle.fst_symbols.specs.Symbols.{IsName, Symbol, name_of, number_of}
use Rattle.fst_symbols.proofs.Entries.{Adds-err, IsKept-push, absent, free_number, none_of, symbols_of-push}
use Rattle.fst_symbols.proofs.table.SymbolTable.add.Goals as goal

pub put-requires : goal.put-requires
put-requires c =
    let none : number_of c.args.self.now c.args.name.now ≡ None = sym c.find.ensures.number ∙ none_of _ (sym c.is_some.ensures ∙ c.if-is_some.false) in
    absent c.self.inside.symbols.entries c.args.self.now c.in-Ok.name.bytes.items c.args.name.now c.self.view_is c.in-Ok.ensures none

pub invariant_of-self : goal.invariant_of-self
invariant_of-self c =
    let entries = c.self.inside.symbols.entries in
    let numbers = c.self.inside.numbers.keys in
    let none : number_of c.args.self.now c.args.name.now ≡ None = sym c.find.ensures.number ∙ none_of _ (sym c.is_some.ensures ∙ c.if-is_some.false) in
    let found = absent entries c.args.self.now c.in-Ok.name.bytes.items c.args.name.now c.self.view_is c.in-Ok.ensures none in
    let sum = c.in-Some.ensures.sum ∙ ap (λ (bs : List ℕ). c.self.inside.name_bytes + length bs) (sym c.in-Ok.ensures) in
    let kept = IsKept-push entries numbers c.self.inside.name_bytes c.in-Ok.name c.args.number c.self.invariant (subst IsName (sym c.in-Ok.ensures) c.requires.name) c.requires.small found c.in-Ok-put.ensures.1 c.in-Some.name_bytes sum c.in-Some.ensures.fits in
    subst (λ (es : List (Name × ℕ)). IsKept es c.put.new.numbers.keys c.in-Some.name_bytes) (sym c.in-Ok-put.ensures.0) (subst (λ (ns : List ℕ). IsKept (entries ++ (c.in-Ok.name, c.args.number) ∷ []) ns c.in-Some.name_bytes) (sym c.in-Ok-put.ensures.2) kept)

pub returns-in-Ok-put : goal.returns-in-Ok-put
returns-in-Ok-put c =
    let entries = c.self.inside.symbols.entries in
    let none : number_of c.args.self.now c.args.name.now ≡ None = sym c.find.ensures.number ∙ none_of _ (sym c.is_some.ensures ∙ c.if-is_some.false) in
    let free = free_number entries c.self.inside.numbers.keys c.self.inside.name_bytes c.self.invariant c.args.number c.in-Ok-put.ensures.1 in (
      none,
      ap (λ (ss : List Symbol). name_of ss c.args.number) (sym c.self.view_is) ∙ free,
      ap symbols_of c.in-Ok-put.ensures.0 ∙ symbols_of-push entries c.in-Ok.name c.args.number
          ∙ ap (λ (ss : List Symbol). ss ++ record { name = c.in-Ok.name.bytes.items; number = c.args.number } ∷ []) c.self.view_is
          ∙ ap (λ (bs : List ℕ). c.args.self.now ++ record { name = bs; number = c.args.number } ∷ []) c.in-Ok.ensures,
    )

pub returns-in-Err : goal.returns-in-Err
returns-in-Err c =
    let none : number_of c.args.self.now c.args.name.now ≡ None = sym c.find.ensures.number ∙ none_of _ (sym c.is_some.ensures ∙ c.if-is_some.false) in
    Adds-err c.self.inside.symbols.entries c.put.new.symbols.entries c.self.inside.numbers.keys c.put.new.numbers.keys c.self.inside.name_bytes c.self.invariant c.args.self.now c.self.view_is c.in-Ok.name c.args.name.now c.args.number c.in-Err.fault none c.in-Err.ensures
