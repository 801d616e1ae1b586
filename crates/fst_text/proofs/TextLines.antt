-- The fields and lines of a printed text.
use Rattle.std.proofs.Common.{◌≡◌, ℕ, ◌<◌, true, false, cond, List, [], ◌∷◌, ◌++◌, map, refl, ap, ◌∙◌, arith, append_assoc}
use Rattle.std.specs.Prelude.{not}
use Rattle.std.specs.List.{AllByRecursion, flat_map}
use Rattle.std.proofs.lemmas.Bool.Decides.{nat_tests}
use Rattle.std.proofs.lemmas.List.Elements.{recursion_from_All}
use Rattle.fst_fields.specs.Lines.{begins_field, fields_of, in_front, is_line_end, lines_of}
use Rattle.fst_symbols.specs.Symbols.{IsName, IsNameByte}
use Rattle.fst_text.specs.Printed.{behind_tabs, text_of_line}

-- a byte of a number or a word of letters, which neither separates fields nor ends a line
abbrev pub IsDark : ℕ → Type 0
IsDark c = 32 < c

-- such bytes, and at least one
abbrev pub IsField : List ℕ → Type 0
IsField [] = ⊥
IsField (c ∷ cs) = IsDark c × AllByRecursion IsDark cs

-- any field: bytes that neither separate fields nor end a line, and at least one
abbrev pub IsWord : List ℕ → Type 0
IsWord [] = ⊥
IsWord (c ∷ cs) = IsNameByte c × AllByRecursion IsNameByte cs

dark-byte : (c : ℕ) → IsDark c → IsNameByte c
dark-byte c h = record { inner = grind (arith, nat_tests); on_line = grind (arith, nat_tests) }

dark-bytes : (cs : List ℕ) → AllByRecursion IsDark cs → AllByRecursion IsNameByte cs
dark-bytes [] h = tt
dark-bytes (c ∷ cs) h = (dark-byte c h.0, dark-bytes cs h.1)

pub field-word : (field : List ℕ) → IsField field → IsWord field
field-word [] h = absurd h
field-word (c ∷ cs) h = (dark-byte c h.0, dark-bytes cs h.1)

pub name-word : (name : List ℕ) → IsName name → IsWord name
name-word [] h = let filled = h.filled in absurd (omega arith)
name-word (c ∷ cs) h = recursion_from_All IsNameByte (c ∷ cs) h.bytes

-- a field ends where no field begins behind it
pub field-first : (c : ℕ) (cs rest : List ℕ) → IsNameByte c → AllByRecursion IsNameByte cs → begins_field rest ≡ false → fields_of ((c ∷ cs) ++ rest) ≡ (c ∷ cs) ∷ fields_of rest
field-first c [] rest byte h end =
    ap (λ b. cond b (fields_of rest) (cond (begins_field rest) (in_front c (fields_of rest)) ((c ∷ []) ∷ fields_of rest))) byte.inner
    ∙ ap (λ b. cond b (in_front c (fields_of rest)) ((c ∷ []) ∷ fields_of rest)) end
field-first c (d ∷ cs) rest byte h end =
    let behind = (d ∷ cs) ++ rest in
    let begins : begins_field behind ≡ true = ap not h.0.inner in
    ap (λ b. cond b (fields_of behind) (cond (begins_field behind) (in_front c (fields_of behind)) ((c ∷ []) ∷ fields_of behind))) byte.inner
    ∙ ap (λ b. cond b (in_front c (fields_of behind)) ((c ∷ []) ∷ fields_of behind)) begins
    ∙ ap (in_front c) (field-first d cs rest h.0 h.1 end)

fields-tabs : (fields : List (List ℕ)) → AllByRecursion IsWord fields → (fields_of (behind_tabs fields) ≡ fields) × (begins_field (behind_tabs fields) ≡ false)
fields-tabs [] h = (refl, refl)
fields-tabs ([] ∷ fields) h = absurd h.0
fields-tabs ((c ∷ cs) ∷ fields) h =
    let rest = fields-tabs fields h.1 in
    (field-first c cs (behind_tabs fields) h.0.0 h.0.1 rest.1 ∙ ap (λ fs. (c ∷ cs) ∷ fs) rest.0, refl)

-- the line without its end
abbrev pub joined : List (List ℕ) → List ℕ
joined [] = []
joined (field ∷ fields) = field ++ behind_tabs fields

pub fields-joined : (fields : List (List ℕ)) → AllByRecursion IsWord fields → fields_of (joined fields) ≡ fields
fields-joined [] h = refl
fields-joined ([] ∷ fields) h = absurd h.0
fields-joined ((c ∷ cs) ∷ fields) h =
    let rest = fields-tabs fields h.1 in
    field-first c cs (behind_tabs fields) h.0.0 h.0.1 rest.1 ∙ ap (λ fs. (c ∷ cs) ∷ fs) rest.0

-- a byte that ends no line
abbrev pub IsInner : ℕ → Type 0
IsInner c = is_line_end c ≡ false

pub line-first : (line rest : List ℕ) → AllByRecursion IsInner line → lines_of (line ++ 10 ∷ rest) ≡ line ∷ lines_of rest
line-first [] rest h = refl
line-first (c ∷ line) rest h =
    ap (λ b. cond b ([] ∷ lines_of (line ++ 10 ∷ rest)) (in_front c (lines_of (line ++ 10 ∷ rest)))) h.0
    ∙ ap (in_front c) (line-first line rest h.1)

inner-append : (a b : List ℕ) → AllByRecursion IsInner a → AllByRecursion IsInner b → AllByRecursion IsInner (a ++ b)
inner-append [] b ha hb = hb
inner-append (c ∷ a) b ha hb = (ha.0, inner-append a b ha.1 hb)

inner-bytes : (cs : List ℕ) → AllByRecursion IsNameByte cs → AllByRecursion IsInner cs
inner-bytes [] h = tt
inner-bytes (c ∷ cs) h = (h.0.on_line, inner-bytes cs h.1)

pub inner-field : (field : List ℕ) → IsWord field → AllByRecursion IsInner field
inner-field [] h = absurd h
inner-field (c ∷ cs) h = (h.0.on_line, inner-bytes cs h.1)

inner-tabs : (fields : List (List ℕ)) → AllByRecursion IsWord fields → AllByRecursion IsInner (behind_tabs fields)
inner-tabs [] h = tt
inner-tabs (field ∷ fields) h = (refl, inner-append field (behind_tabs fields) (inner-field field h.0) (inner-tabs fields h.1))

inner-joined : (fields : List (List ℕ)) → AllByRecursion IsWord fields → AllByRecursion IsInner (joined fields)
inner-joined [] h = tt
inner-joined (field ∷ fields) h = inner-append field (behind_tabs fields) (inner-field field h.0) (inner-tabs fields h.1)

text-joined : (fields : List (List ℕ)) (rest : List ℕ) → text_of_line fields ++ rest ≡ joined fields ++ 10 ∷ rest
text-joined [] rest = refl
text-joined (field ∷ fields) rest = append_assoc (field ++ behind_tabs fields) (10 ∷ []) rest

-- the fields of the lines of a printed text
pub lines-read : {X : Type 0} (fields : X → List (List ℕ)) (xs : List X) → AllByRecursion (λ x. AllByRecursion IsWord (fields x)) xs → map fields_of (lines_of (flat_map (λ x. text_of_line (fields x)) xs)) ≡ map fields xs
lines-read fields [] h = refl
lines-read fields (x ∷ xs) h =
    let rest = flat_map (λ x. text_of_line (fields x)) xs in
    ap (λ text. map fields_of (lines_of text)) (text-joined (fields x) rest)
    ∙ ap (map fields_of) (line-first (joined (fields x)) rest (inner-joined (fields x) h.0))
    ∙ ap (λ fs. fs ∷ map fields_of (lines_of rest)) (fields-joined (fields x) h.0)
    ∙ ap (λ ls. fields x ∷ ls) (lines-read fields xs h.1)
