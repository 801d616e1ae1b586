-- Where the first line of a text and the first field of a line end.
use Rattle.std.proofs.Common.{◌≡◌, ℕ, ◌+◌, ◌<◌, ◌≤◌, Bool, true, false, List, [], ◌∷◌, length, take, drop, refl, sym, ap, ◌∙◌, subst, arith, suc, cond}
use Rattle.std.proofs.lemmas.List.{take_all, drop_all}
use Rattle.std.specs.List.{prefix_len, position_or_len}
use Rattle.std.specs.Prelude.{not}
use Rattle.fst_fields.specs.Lines.{lines_of, fields_of, in_front, is_separator, is_line_end, begins_field}

-- the first n bytes are a line, and the other lines stand behind the byte after them
abbrev pub Begins : List ℕ → ℕ → Type 0
Begins text n = lines_of text ≡ take n text ∷ lines_of (drop (n + 1) text)

-- a byte that ends no line goes in front of the first line
Begins-more : (c : ℕ) (text : List ℕ) (n : ℕ) → is_line_end c ≡ false → Begins text n → Begins (c ∷ text) (1 + n)
Begins-more c text n test h =
    let first : suc n ≡ 1 + n = omega arith in
    subst (λ (m : ℕ). lines_of (c ∷ text) ≡ take m (c ∷ text) ∷ lines_of (drop (m + 1) (c ∷ text))) first
    (let next : suc (n + 1) ≡ suc n + 1 = omega arith in
    subst (λ (m : ℕ). lines_of (c ∷ text) ≡ (c ∷ take n text) ∷ lines_of (drop m (c ∷ text))) next
    (ap (λ b. cond b ([] ∷ lines_of text) (in_front c (lines_of text))) test ∙ ap (in_front c) h))

Begins-at : (text : List ℕ) → 0 < length text → Begins text (position_or_len is_line_end text)
Begins-at [] filled = absurd (omega arith)
Begins-at (c ∷ []) filled = go (is_line_end c) refl where
  go : (ends : Bool) → is_line_end c ≡ ends → Begins (c ∷ []) (cond (not ends) (1 + 0) 0)
  go true test = ap (λ b. cond b ([] ∷ []) ((c ∷ []) ∷ [])) test
  go false test = ap (λ b. cond b ([] ∷ []) ((c ∷ []) ∷ [])) test
Begins-at (c ∷ d ∷ ds) filled = go (is_line_end c) refl (Begins-at (d ∷ ds) (omega arith)) where
  go : (ends : Bool) → is_line_end c ≡ ends → Begins (d ∷ ds) (position_or_len is_line_end (d ∷ ds)) → Begins (c ∷ d ∷ ds) (cond (not ends) (1 + position_or_len is_line_end (d ∷ ds)) 0)
  go true test more = ap (λ b. cond b ([] ∷ lines_of (d ∷ ds)) (in_front c (lines_of (d ∷ ds)))) test
  go false test more = Begins-more c (d ∷ ds) _ test more

-- a text that is not empty is its first line and the lines behind its end
pub lines_of-first : (text : List ℕ) → 0 < length text → (n : ℕ) → n ≡ position_or_len is_line_end text → lines_of text ≡ take n text ∷ lines_of (drop (n + 1) text)
lines_of-first text filled n e = subst (λ (m : ℕ). Begins text m) (sym e) (Begins-at text filled)

-- a text in which nothing ends a line is one line
pub lines_of-last : (text : List ℕ) → 0 < length text → (n : ℕ) → n ≡ position_or_len is_line_end text → length text ≤ n → lines_of text ≡ text ∷ lines_of (drop (length text) text)
lines_of-last text filled n e past =
    lines_of-first text filled n e
    ∙ ap (λ xs. xs ∷ lines_of (drop (n + 1) text)) (take_all n text past)
    ∙ ap (λ xs. text ∷ lines_of xs) (drop_all (n + 1) text (omega arith) ∙ sym (drop_all (length text) text (omega arith)))

-- separators in front of a line change none of its fields
pub fields_of-skipped : (line : List ℕ) → fields_of (drop (prefix_len is_separator line) line) ≡ fields_of line
fields_of-skipped [] = refl
fields_of-skipped (c ∷ cs) = go (is_separator c) refl (fields_of-skipped cs) where
  go : (separates : Bool) → is_separator c ≡ separates → fields_of (drop (prefix_len is_separator cs) cs) ≡ fields_of cs → fields_of (drop (cond separates (1 + prefix_len is_separator cs) 0) (c ∷ cs)) ≡ fields_of (c ∷ cs)
  go true test more =
      let first : suc (prefix_len is_separator cs) ≡ 1 + prefix_len is_separator cs = omega arith in
      subst (λ (m : ℕ). fields_of (drop m (c ∷ cs)) ≡ fields_of (c ∷ cs)) first
      (more ∙ sym (ap (λ b. cond b (fields_of cs) (cond (begins_field cs) (in_front c (fields_of cs)) ((c ∷ []) ∷ fields_of cs))) test))
  go false test more = refl

-- behind the separators a line is empty or begins a field
pub begins_field-skipped : (line : List ℕ) → 0 < length (drop (prefix_len is_separator line) line) → begins_field (drop (prefix_len is_separator line) line) ≡ true
begins_field-skipped [] h = absurd (omega arith)
begins_field-skipped (c ∷ cs) h = go (is_separator c) refl (begins_field-skipped cs) h where
  go : (separates : Bool) → is_separator c ≡ separates → (0 < length (drop (prefix_len is_separator cs) cs) → begins_field (drop (prefix_len is_separator cs) cs) ≡ true) → 0 < length (drop (cond separates (1 + prefix_len is_separator cs) 0) (c ∷ cs)) → begins_field (drop (cond separates (1 + prefix_len is_separator cs) 0) (c ∷ cs)) ≡ true
  go true test more h =
      let first : 1 + prefix_len is_separator cs ≡ suc (prefix_len is_separator cs) = omega arith in
      let Filled : ℕ → Type 0 = λ m. 0 < length (drop m (c ∷ cs)) in
      subst (λ (m : ℕ). begins_field (drop m (c ∷ cs)) ≡ true) (sym first) (more (subst Filled first h))
  go false test more h = ap not test

-- the first n bytes are a field, and the other fields stand behind them
abbrev pub Opens : List ℕ → ℕ → Type 0
Opens line n = (fields_of line ≡ take n line ∷ fields_of (drop n line)) × (0 < n)

-- a byte that is no separator goes in front of the first field
Opens-more : (c : ℕ) (line : List ℕ) (n : ℕ) → is_separator c ≡ false → begins_field line ≡ true → Opens line n → Opens (c ∷ line) (1 + n)
Opens-more c line n test begins h =
    let first : suc n ≡ 1 + n = omega arith in (
      subst (λ (m : ℕ). fields_of (c ∷ line) ≡ take m (c ∷ line) ∷ fields_of (drop m (c ∷ line))) first
          (ap (λ b. cond b (fields_of line) (cond (begins_field line) (in_front c (fields_of line)) ((c ∷ []) ∷ fields_of line))) test
          ∙ ap (λ b. cond b (in_front c (fields_of line)) ((c ∷ []) ∷ fields_of line)) begins ∙ ap (in_front c) h.0),
      omega arith,
    )

-- a byte that is no separator, with a separator or nothing behind it, is a field
Opens-one : (c : ℕ) (line : List ℕ) (n : ℕ) → is_separator c ≡ false → begins_field line ≡ false → n ≡ 0 → Opens (c ∷ line) (1 + n)
Opens-one c line n test begins e =
    let first : 1 ≡ 1 + n = omega arith in (
      subst (λ (m : ℕ). fields_of (c ∷ line) ≡ take m (c ∷ line) ∷ fields_of (drop m (c ∷ line))) first
          (ap (λ b. cond b (fields_of line) (cond (begins_field line) (in_front c (fields_of line)) ((c ∷ []) ∷ fields_of line))) test
          ∙ ap (λ b. cond b (in_front c (fields_of line)) ((c ∷ []) ∷ fields_of line)) begins),
      omega arith,
    )

-- a line that begins no field has none of its bytes in front of the first separator
unopened : (line : List ℕ) → begins_field line ≡ false → position_or_len is_separator line ≡ 0
unopened [] h = refl
unopened (c ∷ cs) h = ap (λ b. cond b (1 + position_or_len is_separator cs) 0) h

pub fields_of-first : (line : List ℕ) → begins_field line ≡ true → Opens line (position_or_len is_separator line)
fields_of-first [] h = cc
fields_of-first (c ∷ cs) h = go (is_separator c) refl (begins_field cs) refl (fields_of-first cs) h where
  go : (separates : Bool) → is_separator c ≡ separates → (begins : Bool) → begins_field cs ≡ begins → (begins_field cs ≡ true → Opens cs (position_or_len is_separator cs)) → not separates ≡ true → Opens (c ∷ cs) (cond (not separates) (1 + position_or_len is_separator cs) 0)
  go true test begins is more h = cc
  go false test true is more h = Opens-more c cs _ test is (more is)
  go false test false is more h = Opens-one c cs _ test is (unopened cs is)
