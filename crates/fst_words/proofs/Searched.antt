-- The search for the command of a name, row by row.
use Rattle.std.proofs.Common.{◌≡◌, ◌∙◌, ◌<◌, ◌≤◌, ◌+◌, ℕ, true, false, List, [], ◌∷◌, length, drop, map, get_or, Option, Some, None, refl, sym, ap, arith}
use Rattle.std.proofs.Math.Seq.{drop-cons}
use Rattle.std.proofs.lemmas.List.{get_or-map, length-drop, length-map}
use Rattle.std.specs.List.{find}
use Rattle.std.specs.Str.{bytes_eq}
use Rattle.fst_words.specs.Verbs.{name_of}
use Rattle.fst_words.specs.declared.verb.Verb.{Verb}
use Rattle.fst_words.proofs.Loops.{find_next}

abbrev search : List ℕ → List Verb → Option Verb
search name verbs = find (λ v. bytes_eq (name_of v) name) verbs

-- the rows are those of these commands, and none in front of this place has the name
pub record IsSearched {R : Type 0} (verbs : List Verb) (rows : List R) (verb : R → Verb) (i : ℕ) (name : List ℕ) : Type 0 where
  pub are : map verb rows ≡ verbs
  pub none : search name verbs ≡ search name (drop i verbs)

module _ {R : Type 0} {verbs : List Verb} {rows : List R} {verb : R → Verb} {i : ℕ} {name : List ℕ} (s : IsSearched verbs rows verb i name) where
  same_length : length rows ≡ length verbs
  same_length = sym (length-map rows verb) ∙ ap length s.are

  here : (d : R) → i < length rows → get_or verbs i (verb d) ≡ verb (get_or rows i d)
  here d lt = ap (λ vs. get_or vs i (verb d)) (sym s.are) ∙ get_or-map verb rows i d (verb d) lt

  -- the row in this place has another name
  pub row_fails : (d : R) → i < length rows → bytes_eq (name_of (verb (get_or rows i d))) name ≡ false → IsSearched verbs rows verb (i + 1) name
  row_fails d lt e =
      let room : i < length verbs = omega (arith, same_length) in
      record { are = s.are; none = s.none ∙ find_next (λ v. bytes_eq (name_of v) name) verbs i (verb d) room (ap (λ v. bytes_eq (name_of v) name) (here d lt) ∙ e) }

  -- it has the name
  pub row_passes : (d : R) → i < length rows → bytes_eq (name_of (verb (get_or rows i d))) name ≡ true → Some (verb (get_or rows i d)) ≡ search name verbs
  row_passes d lt e =
      let room : i < length verbs = omega (arith, same_length) in
      let passes : bytes_eq (name_of (get_or verbs i (verb d))) name ≡ true = ap (λ v. bytes_eq (name_of v) name) (here d lt) ∙ e in
      sym (s.none ∙ (ap (search name) (drop-cons verbs i (verb d) room) ∙ rw passes (ap Some (here d lt))))

  -- there are no more rows
  pub rows_end : length rows ≤ i → None ≡ search name verbs
  rows_end end = sym (s.none ∙ ap (search name) (empty (drop i verbs) (omega (arith, same_length, length-drop i verbs))))
    where
      empty : (vs : List Verb) → length vs ≤ 0 → vs ≡ []
      empty [] e = refl
      empty (v ∷ vs) e = absurd (omega arith)
