use Rattle.std.proofs.Common.{◌≡◌, ◌++◌, ◌∷◌, [], length, refl, ap, ap₂, ◌∙◌, arith}
use Rattle.fst_minimize.specs.Rows.{rows_of}
use Rattle.fst_minimize.specs.declared.rows.Span.{Span}
use Rattle.fst_minimize.proofs.RowLists.{rows_push}
use Rattle.fst_minimize.proofs.rows.Rows.push.Goals as goal

pub returns : goal.returns
returns c =
    let span : Span = record { first = length c.self.inside.items.items; count = length c.args.row.now } in
    let items : c.extend_from_slice.new.self.items ≡ c.self.inside.items.items ++ c.args.row.now = c.in_ok-extend_from_slice.ensures.items in
    let spans : c.push_reserved.new.self.items ≡ c.self.inside.spans.items ++ span ∷ [] =
    c.push_reserved.ensures.items ∙ ap₂ (λ ss n. ss ++ record { first = n; count = length c.args.row.now } ∷ []) c.in_ok-reserve.ensures.items (omega (arith, c.len-first.ensures)) in
    ap₂ rows_of items spans ∙ (rows_push c.self.inside.items.items c.args.row.now c.self.inside.spans.items span c.self.invariant refl refl ∙ ap (λ rs. rs ++ c.args.row.now ∷ []) c.self.view_is)
