use Rattle.std.proofs.Common.{ℕ, List, ◌∷◌, ◌++◌, sym, ◌∙◌, ap}
use Rattle.fst_text.proofs.Plain.{ends-line, ends-text, goes-on, nothing}
use Rattle.fst_text.proofs.field.plain_field.Goals as goal

pub returns-in_default-clause-field : goal.returns-in_default-clause-field
returns-in_default-clause-field c =
    let h = c.in_ok-field.ensures in
    ends-text c.in_ok-field.field c.in_ok-field.rest.now c.args.text.now h.number.0 h.number.1 h.parts (nothing c.in_ok-field.rest.now c.in_default.ensures.cases)

pub returns-then-end-eq10-clause-field : goal.returns-then-end-eq10-clause-field
returns-then-end-eq10-clause-field c =
    let h = c.in_ok-field.ensures in
    let behind = c.in-Some.behind.now in
    let rest = c.in-Some.ensures.cases.0 ∙ ap (λ (e : ℕ). e ∷ behind) c.if-end-eq10.true in
    ends-line c.in_ok-field.field behind c.args.text.now h.number.0 h.number.1 (ap (λ (xs : List ℕ). c.in_ok-field.field ++ xs) (sym rest) ∙ h.parts)

pub returns-then-separates-clause-field : goal.returns-then-separates-clause-field
returns-then-separates-clause-field c =
    let h = c.in_ok-field.ensures in
    let parts = ap (λ (xs : List ℕ). c.in_ok-field.field ++ xs) (sym c.in-Some.ensures.cases.0) ∙ h.parts in
    goes-on c.in_ok-field.field c.in-Some.end.now c.in-Some.behind.now c.args.text.now h.number.0 h.number.1 (sym c.if-separates.ensures) parts
