-- A field of a line is a name, and a line has no line end.
use Rattle.std.proofs.Common.{◌≡◌, ℕ, Bool, true, false, cond, List, [], ◌∷◌, Some, ap, refl, subst, arith}
use Rattle.std.proofs.lemmas.Option.{same_Some}
use Rattle.std.specs.List.{All, AllByRecursion}
use Rattle.std.proofs.lemmas.List.Elements.{All-nil, All-cons, All-head, All-tail}
use Rattle.fst_fields.specs.Lines.{lines_of, fields_of, in_front, is_separator, is_line_end, begins_field}
use Rattle.fst_fields.specs.Texts.{row_of}
use Rattle.fst_symbols.specs.Symbols.{IsName, IsNameByte}

-- no byte ends a line
abbrev pub IsInner : List ℕ → Type 0
IsInner line = All (λ c. is_line_end c ≡ false) line

in_front-inner : (c : ℕ) (lines : List (List ℕ)) → is_line_end c ≡ false → AllByRecursion IsInner lines → AllByRecursion IsInner (in_front c lines)
in_front-inner c [] test h = (All-cons (λ c. is_line_end c ≡ false) c [] test (All-nil (λ c. is_line_end c ≡ false)), tt)
in_front-inner c (line ∷ lines) test h = (All-cons (λ c. is_line_end c ≡ false) c line test h.0, h.1)

lines-inner : (text : List ℕ) → AllByRecursion IsInner (lines_of text)
lines-inner [] = tt
lines-inner (c ∷ cs) = go (is_line_end c) refl (lines-inner cs) where
  go : (ends : Bool) → is_line_end c ≡ ends → AllByRecursion IsInner (lines_of cs) → AllByRecursion IsInner (cond ends ([] ∷ lines_of cs) (in_front c (lines_of cs)))
  go true test more = (All-nil (λ c. is_line_end c ≡ false), more)
  go false test more = in_front-inner c (lines_of cs) test more

-- the first line of a text has no line end
pub first-inner : (text first : List ℕ) (others : List (List ℕ)) → lines_of text ≡ first ∷ others → All (λ c. is_line_end c ≡ false) first
first-inner text first others e = (subst (AllByRecursion IsInner) e (lines-inner text)).0

in_front-names : (c : ℕ) (fields : List (List ℕ)) → IsNameByte c → AllByRecursion IsName fields → AllByRecursion IsName (in_front c fields)
in_front-names c [] byte h = (record { filled = omega arith; bytes = All-cons IsNameByte c [] byte (All-nil IsNameByte) }, tt)
in_front-names c (field ∷ fields) byte h = (record { filled = omega arith; bytes = All-cons IsNameByte c field byte h.0.bytes }, h.1)

fields-names : (line : List ℕ) → IsInner line → AllByRecursion IsName (fields_of line)
fields-names [] inner = tt
fields-names (c ∷ cs) inner = go (is_separator c) refl (begins_field cs) (fields-names cs (All-tail (λ c. is_line_end c ≡ false) c cs inner)) where
  go : (separates : Bool) → is_separator c ≡ separates → (begins : Bool) → AllByRecursion IsName (fields_of cs) → AllByRecursion IsName (cond separates (fields_of cs) (cond begins (in_front c (fields_of cs)) ((c ∷ []) ∷ fields_of cs)))
  go true test begins more = more
  go false test true more = in_front-names c (fields_of cs) (record { inner = test; on_line = All-head (λ c. is_line_end c ≡ false) c cs inner }) more
  go false test false more = (record { filled = omega arith; bytes = All-cons IsNameByte c [] (record { inner = test; on_line = All-head (λ c. is_line_end c ≡ false) c cs inner }) (All-nil IsNameByte) }, more)

-- the first field of a line is a name
first-name : (line first : List ℕ) (others : List (List ℕ)) → All (λ c. is_line_end c ≡ false) line → fields_of line ≡ first ∷ others → IsName first
first-name line first others inner e = (subst (AllByRecursion IsName) e (fields-names line inner)).0

two_fields : (fields : List (List ℕ)) (first second : List ℕ) → row_of fields ≡ Some (Some (first, second)) → (others : List (List ℕ)) × (fields ≡ first ∷ others)
two_fields [] first second e = absurd (cc)
two_fields (x ∷ []) first second e = absurd (cc)
two_fields (x ∷ y ∷ []) first second e = (y ∷ [], ap (λ z. z ∷ y ∷ []) (ap (λ (p : List ℕ × List ℕ). p.0) (same_Some _ _ (same_Some _ _ e))))
two_fields (x ∷ y ∷ z ∷ zs) first second e = absurd (cc)

-- and so is the first field of a row
pub row-name : (line first second : List ℕ) → All (λ c. is_line_end c ≡ false) line → row_of (fields_of line) ≡ Some (Some (first, second)) → IsName first
row-name line first second inner e = let two = two_fields (fields_of line) first second e in first-name line first two.0 inner two.1
