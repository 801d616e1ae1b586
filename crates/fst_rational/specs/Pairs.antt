-- The pairs of a text, and the first fault of a text that has none. (OpenFst manual, "fstrelabel": a line of a
-- file of pairs has an old label and its new label. The range of the labels is this project's own.)
use Rattle.std.specs.Prelude.{◌≡◌, ℕ, ◌==◌, nat_eq, List, [], ◌∷◌, ◌++◌, map, Option, None, Some, Result, Ok, Err, if◌then◌else◌}
use Rattle.std.specs.List.{list_any}
use Rattle.std.specs.Map.{lookup}
use Rattle.fst_fields.specs.Reading as reading
use Rattle.fst_fields.specs.Reading.{◌>>=◌}
use Rattle.fst_fields.specs.Texts.{read_text, row_of, with_row}
use Rattle.fst_fields.specs.Decimal.{label_of_text}
use Rattle.fst_rational.specs.declared.pairs.PairsFault.{PairsFault}
use Rattle.fst_rational.specs.declared.pairs.PairsFault.TheVariants.{BadColumns, BadLabel, Duplicate, Memory}
use Rattle.fst_rational.specs.Labels.{IsPairs, Pair}

-- entries as pairs
abbrev pub pairs_of : List (ℕ × ℕ) → List Pair
pairs_of entries = map (λ e. record { old = e.0; new = e.1 }) entries

-- The entries are pairs, and a table has the new label of each old one, and of no other.
pub record AreKept (entries : List (ℕ × ℕ)) (news : ℕ → Option ℕ) : Type 0 where
  pub pairs : IsPairs (pairs_of entries)
  pub found : (n : ℕ) → news n ≡ lookup (nat_eq n) entries

-- an old label, which is not epsilon
abbrev pub old_label : List ℕ → Option ℕ
old_label field = elim (label_of_text field) [ None ↦ None | Some n ↦ if n == 0 then None else Some n ]

-- the pairs before and one more, where its old label is new among them
abbrev pub with_pair : ℕ → List Pair → ℕ → ℕ → Result (List Pair) PairsFault
with_pair line before old new = if list_any (nat_eq old) (map (λ p. p.old) before) then Err (Duplicate line)
    else Ok (before ++ record { old = old; new = new } ∷ [])

-- the labels of a line with these fields; a blank line has none
abbrev pub pair_of : ℕ → List (List ℕ) → Result (Option (ℕ × ℕ)) PairsFault
pair_of line fields = elim (row_of fields) [
  | None ↦ Err (BadColumns line)
  | Some row ↦ elim row [
    | None ↦ Ok None
    | Some p ↦ elim (old_label p.0) [
      | None ↦ Err (BadLabel line)
      | Some o ↦ elim (label_of_text p.1) [ None ↦ Err (BadLabel line) | Some n ↦ Ok (Some (o, n)) ]
    ]
  ]
]

-- the pairs before and that of a line with these fields; a blank line says nothing
abbrev pub after_line : ℕ → List Pair → List (List ℕ) → Result (List Pair) PairsFault
after_line line before fields = pair_of line fields >>= with_row (λ (ps : List Pair) row. with_pair line ps row.0 row.1) before

-- the pairs of a text, or the first fault of its first faulty line
abbrev pub pairs_of_text : List ℕ → Result (List Pair) PairsFault
pairs_of_text text = read_text after_line [] text

-- what was returned, seen by view, is what reading gives, or memory ran out
abbrev pub Gives : {X Y : Type 0} → (X → Y) → Result X PairsFault → Result Y PairsFault → Type 0
Gives view result read = reading.Gives Memory view result read
