-- A row more in a list of rows that stand in one store.
use Rattle.std.proofs.Common.{◌≡◌, ℕ, ◌+◌, ◌-◌, List, [], ◌∷◌, ◌++◌, length, take, drop, refl, ap, ap₂, ◌∙◌, arith}
use Rattle.std.specs.List.{All}
use Rattle.std.proofs.lemmas.List.{length-append, map-append, take-append-le, drop-append-le, length-drop, take_all, drop_at}
use Rattle.std.proofs.lemmas.List.Elements.{All-head, All-tail, All-push, All-weaker}
use Rattle.fst_minimize.specs.declared.rows.Span.{Span}
use Rattle.fst_minimize.specs.Rows.{part_of, rows_of, FitsIn}

-- a row in the first of two stores
part_kept : (items row : List ℕ) (span : Span) → FitsIn (length items) span → part_of (items ++ row) span ≡ part_of items span
part_kept items row span fits =
    let behind : length (drop span.first items) ≡ length items - span.first = length-drop span.first items in
    ap (take span.count) (drop-append-le span.first items row (omega arith)) ∙ take-append-le span.count (drop span.first items) row (omega arith)

rows_kept : (items row : List ℕ) (spans : List Span) → All (FitsIn (length items)) spans → rows_of (items ++ row) spans ≡ rows_of items spans
rows_kept items row [] all = refl
rows_kept items row (s ∷ spans) all = ap₂ (◌∷◌) (part_kept items row s (All-head (FitsIn (length items)) s spans all)) (rows_kept items row spans (All-tail (FitsIn (length items)) s spans all))

-- one row more
pub rows_push : (items row : List ℕ) (spans : List Span) (s : Span) → All (FitsIn (length items)) spans → s.first ≡ length items → s.count ≡ length row → rows_of (items ++ row) (spans ++ s ∷ []) ≡ rows_of items spans ++ row ∷ []
rows_push items row spans s all first count =
    let part : part_of (items ++ row) s ≡ row =
    ap₂ (λ n f. take n (drop f (items ++ row))) count first ∙ (ap (take (length row)) (drop_at items row (length items) refl) ∙ take_all (length row) row (omega arith)) in
    map-append (part_of (items ++ row)) spans (s ∷ [])
    ∙ ap₂ (λ a b. a ++ b ∷ []) (rows_kept items row spans all) part

pub fits_push : (items row : List ℕ) (spans : List Span) (s : Span) → All (FitsIn (length items)) spans → s.first ≡ length items → s.count ≡ length row → All (FitsIn (length (items ++ row))) (spans ++ s ∷ [])
fits_push items row spans s all first count =
    let n : length (items ++ row) ≡ length items + length row = length-append items row in
    All-push (FitsIn (length (items ++ row))) spans s (All-weaker (FitsIn (length items)) (FitsIn (length (items ++ row))) (λ t fits. omega arith) spans all) (omega arith)
