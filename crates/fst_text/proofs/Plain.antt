-- Fields that are numbers, and the first line of a text that has them.
use Rattle.std.proofs.Common.{◌≡◌, ℕ, ◌+◌, ◌-◌, ◌*◌, ◌<◌, ◌≤◌, suc, Bool, true, false, cond, List, [], ◌∷◌, ◌++◌, length, map, take, Option, None, Some, refl, sym, ap, ◌∙◌, arith, subst, append-nil, nat_le}
use Rattle.std.specs.Prelude.{not}
use Rattle.std.specs.Char.{is_ascii_digit}
use Rattle.std.specs.List.{AllByRecursion, prefix_len}
use Rattle.std.proofs.lemmas.Bool.Decides.{nat_tests}
use Rattle.std.proofs.lemmas.List.{take-take}
use Rattle.std.proofs.lemmas.List.Folds.{length-prefix_len}
use Rattle.fst_fields.specs.Decimal.{digits_after, natural_of_text}
use Rattle.fst_fields.specs.Lines.{begins_field, fields_of, in_front, is_line_end, is_separator, lines_of}
use Rattle.fst_symbols.specs.Symbols.{IsNameByte}
use Rattle.fst_semiring.specs.declared.arc_type.ArcType.{ArcType}
use Rattle.fst_text.specs.FirstLine.{GoesOn, IsFirstLine, is_none, listed}
use Rattle.fst_text.specs.Grammar.{Room, acceptor_line, arc_line, entry_of_fields, transducer_line}
use Rattle.fst_text.specs.Leading.{leading_number}
use Rattle.fst_text.specs.Options.{Options}
use Rattle.fst_text.proofs.TextLines.{IsInner, IsWord, field-first, inner-field, line-first}

-- the digits in front stand for their number
pub leading-read : (m : ℕ) (text : List ℕ) (n : ℕ) → n ≡ prefix_len is_ascii_digit text → digits_after m (take n text) ≡ Some (leading_number m text)
leading-read m [] n e = subst (λ (k : ℕ). digits_after m (take k []) ≡ Some m) (sym e) refl
leading-read m (c ∷ cs) n e = subst (λ (k : ℕ). digits_after m (take k (c ∷ cs)) ≡ Some (leading_number m (c ∷ cs))) (sym e) (go (is_ascii_digit c) refl (leading-read (10 * m + (c - 48)) cs (prefix_len is_ascii_digit cs) refl)) where
  go : (digit : Bool) → is_ascii_digit c ≡ digit → digits_after (10 * m + (c - 48)) (take (prefix_len is_ascii_digit cs) cs) ≡ Some (leading_number (10 * m + (c - 48)) cs) → digits_after m (take (cond digit (1 + prefix_len is_ascii_digit cs) 0) (c ∷ cs)) ≡ Some (cond digit (leading_number (10 * m + (c - 48)) cs) m)
  go false is more = refl
  go true is more =
      let next : suc (prefix_len is_ascii_digit cs) ≡ 1 + prefix_len is_ascii_digit cs = omega arith in
      subst (λ (k : ℕ). digits_after m (take k (c ∷ cs)) ≡ Some (leading_number (10 * m + (c - 48)) cs)) next
      (ap (λ b. cond b (digits_after (10 * m + (c - 48)) (take (prefix_len is_ascii_digit cs) cs)) None) is ∙ more)

-- a number of so many bytes, which are all digits
pub natural-read : (f : List ℕ) (n : ℕ) → 0 < length f → length f ≤ 18 → digits_after 0 f ≡ Some n → natural_of_text 18 f ≡ Some n
natural-read [] n some short e = absurd (omega arith)
natural-read (c ∷ cs) n some short e =
    let test : nat_le (length (c ∷ cs)) 18 ≡ true = grind (arith, nat_tests) in
    ap (λ b. cond b (digits_after 0 (c ∷ cs)) None) test ∙ e

-- the digits in front of the front of a text are a number, where there are some
pub front-read : (text front : List ℕ) (n k : ℕ) → front ≡ take 18 text → n ≡ prefix_len is_ascii_digit front → k ≡ leading_number 0 front → 0 < n → n ≤ 18 → natural_of_text 18 (take n text) ≡ Some k
front-read text front n k e count number some short =
    let long : length (take n front) ≡ n = subst (λ (i : ℕ). length (take i front) ≡ i) (sym count) (length-prefix_len is_ascii_digit front) in
    let same : take n front ≡ take n text = ap (take n) e ∙ take-take n 18 text short in
    ap (natural_of_text 18) (sym same) ∙ natural-read (take n front) (leading_number 0 front) (omega arith) (omega arith) (leading-read 0 front n count)
    ∙ ap (λ (i : ℕ). Some i) (sym number)

digit-byte : (c : ℕ) → is_ascii_digit c ≡ true → IsNameByte c
digit-byte c h = record { inner = grind (arith, nat_tests); on_line = grind (arith, nat_tests) }

digits-bytes : (m : ℕ) (ds : List ℕ) (n : ℕ) → digits_after m ds ≡ Some n → AllByRecursion IsNameByte ds
digits-bytes m [] n e = tt
digits-bytes m (d ∷ ds) n e = go (is_ascii_digit d) refl e (λ f. digits-bytes (10 * m + (d - 48)) ds n f) where
  go : (test : Bool) → is_ascii_digit d ≡ test → cond test (digits_after (10 * m + (d - 48)) ds) None ≡ Some n → (digits_after (10 * m + (d - 48)) ds ≡ Some n → AllByRecursion IsNameByte ds) → AllByRecursion IsNameByte (d ∷ ds)
  go true is f more = (digit-byte d is, more f)
  go false is f more = absurd (cc)

-- a number neither separates fields nor ends a line
number-word : (f : List ℕ) (n : ℕ) → natural_of_text 18 f ≡ Some n → IsWord f
number-word [] n e = absurd (cc)
number-word (c ∷ cs) n e = go (nat_le (length (c ∷ cs)) 18) e where
  go : (test : Bool) → cond test (digits_after 0 (c ∷ cs)) None ≡ Some n → IsWord (c ∷ cs)
  go true f = digits-bytes 0 (c ∷ cs) n f
  go false f = absurd (cc)

-- a word is a field where no field begins behind it
word-first : (f rest : List ℕ) → IsWord f → begins_field rest ≡ false → fields_of (f ++ rest) ≡ f ∷ fields_of rest
word-first [] rest w end = absurd w
word-first (c ∷ cs) rest w end = field-first c cs rest w.0 w.1 end

word-alone : (f : List ℕ) → IsWord f → fields_of f ≡ f ∷ []
word-alone f w = ap fields_of (sym (append-nil f)) ∙ word-first f [] w refl

-- bytes that end no line go in front of the first line
line-through : (a text line : List ℕ) (lines : List (List ℕ)) → AllByRecursion IsInner a → lines_of text ≡ line ∷ lines → lines_of (a ++ text) ≡ (a ++ line) ∷ lines
line-through [] text line lines h e = e
line-through (c ∷ a) text line lines h e =
    ap (λ b. cond b ([] ∷ lines_of (a ++ text)) (in_front c (lines_of (a ++ text)))) h.0
    ∙ ap (in_front c) (line-through a text line lines h.1 e)

line-alone : (c : ℕ) (cs : List ℕ) → AllByRecursion IsInner (c ∷ cs) → lines_of (c ∷ cs) ≡ (c ∷ cs) ∷ []
line-alone c [] h = ap (λ b. cond b ([] ∷ []) ((c ∷ []) ∷ [])) h.0
line-alone c (d ∷ cs) h =
    ap (λ b. cond b ([] ∷ lines_of (d ∷ cs)) (in_front c (lines_of (d ∷ cs)))) h.0
    ∙ ap (in_front c) (line-alone d cs h.1)

word-last : (f : List ℕ) → IsWord f → lines_of f ≡ f ∷ []
word-last [] w = absurd w
word-last (c ∷ cs) w = line-alone c cs (inner-field (c ∷ cs) w)

separator-inner : (c : ℕ) → is_separator c ≡ true → is_line_end c ≡ false
separator-inner c h = grind (arith, nat_tests)

-- a number that a text ends with is its line's last field
pub ends-text : (f behind text : List ℕ) (n : ℕ) → natural_of_text 18 f ≡ Some n → f ++ behind ≡ text → behind ≡ [] → (fields : List (List ℕ)) (rest : List ℕ) → GoesOn true behind fields rest → IsFirstLine text (f ∷ fields) rest
ends-text f behind text n number parts none fields rest h =
    let w = number-word f n number in
    let whole : text ≡ f = sym parts ∙ ap (λ (xs : List ℕ). f ++ xs) none ∙ append-nil f in
    ap (λ (xs : List ℕ). map fields_of (lines_of xs)) whole
    ∙ ap (map fields_of) (word-last f w)
    ∙ ap (λ (fs : List (List ℕ)). fs ∷ []) (word-alone f w ∙ ap (λ (fs : List (List ℕ)). f ∷ fs) (sym h.0))
    ∙ ap (λ (xs : List ℕ). (f ∷ fields) ∷ map fields_of (lines_of xs)) (sym none ∙ h.1)

-- so is one that a line ends with
pub ends-line : (f behind text : List ℕ) (n : ℕ) → natural_of_text 18 f ≡ Some n → f ++ 10 ∷ behind ≡ text → (fields : List (List ℕ)) (rest : List ℕ) → GoesOn true behind fields rest → IsFirstLine text (f ∷ fields) rest
ends-line f behind text n number parts fields rest h =
    let w = number-word f n number in
    ap (λ (xs : List ℕ). map fields_of (lines_of xs)) (sym parts)
    ∙ ap (map fields_of) (line-first f behind (inner-field f w))
    ∙ ap (λ (fs : List (List ℕ)). fs ∷ map fields_of (lines_of behind)) (word-alone f w ∙ ap (λ (fs : List (List ℕ)). f ∷ fs) (sym h.0))
    ∙ ap (λ (xs : List ℕ). (f ∷ fields) ∷ map fields_of (lines_of xs)) h.1

-- a number with a separator behind it goes in front of the other fields of the line
pub goes-on : (f : List ℕ) (c : ℕ) (behind text : List ℕ) (n : ℕ) → natural_of_text 18 f ≡ Some n → is_separator c ≡ true → f ++ c ∷ behind ≡ text → (fields : List (List ℕ)) (rest : List ℕ) → GoesOn false behind fields rest → IsFirstLine text (f ∷ fields) rest
goes-on f c behind text n number separates parts fields rest h = ap (λ (xs : List ℕ). map fields_of (lines_of xs)) (sym parts) ∙ go (lines_of behind) refl h where
  w : IsWord f
  w = number-word f n number

  skipped : (line : List ℕ) → fields_of (c ∷ line) ≡ fields_of line
  skipped line = ap (λ b. cond b (fields_of line) (cond (begins_field line) (in_front c (fields_of line)) ((c ∷ []) ∷ fields_of line))) separates

  go : (lines : List (List ℕ)) → lines_of behind ≡ lines → map fields_of lines ≡ fields ∷ map fields_of (lines_of rest) → map fields_of (lines_of (f ++ c ∷ behind)) ≡ (f ∷ fields) ∷ map fields_of (lines_of rest)
  go [] e same = absurd (cc)
  go (line ∷ lines) e same =
      let on : lines_of (c ∷ behind) ≡ (c ∷ line) ∷ lines =
      ap (λ b. cond b ([] ∷ lines_of behind) (in_front c (lines_of behind))) (separator-inner c separates) ∙ ap (in_front c) e in
      let first : fields_of line ≡ fields = cc in
      let others : map fields_of lines ≡ map fields_of (lines_of rest) = cc in
      ap (map fields_of) (line-through f (c ∷ behind) (c ∷ line) lines (inner-field f w) on)
      ∙ ap (λ (fs : List (List ℕ)). fs ∷ map fields_of lines) (word-first f (c ∷ line) w (ap not separates) ∙ ap (λ (fs : List (List ℕ)). f ∷ fs) (skipped line ∙ first))
      ∙ ap (λ (ls : List (List (List ℕ))). (f ∷ fields) ∷ ls) others

pub nothing : (xs : List ℕ) → length xs ≡ 0 → xs ≡ []
nothing [] e = refl
nothing (x ∷ xs) e = absurd (omega arith)

-- a text that is not empty has a line
pub some-line : (text : List ℕ) → 0 < length text → lines_of text ≡ [] → ⊥
some-line [] filled e = absurd (omega arith)
some-line (c ∷ cs) filled e = go (is_line_end c) (lines_of cs) e where
  go : (ends : Bool) (lines : List (List ℕ)) → cond ends ([] ∷ lines) (in_front c lines) ≡ [] → ⊥
  go true lines e = cc
  go false [] e = cc
  go false (line ∷ lines) e = cc

-- an arc with one label or with two, and with a weight or with none
pub arc-fields : (kind : ArcType) (options : Options) (line : ℕ) (room : Room) (s d i : List ℕ) (o w : Option (List ℕ)) → is_none o ≡ options.acceptor → entry_of_fields kind options line room (s ∷ d ∷ i ∷ listed o ++ listed w) ≡ arc_line kind options line room s d i o w
arc-fields kind options line room s d i None None e =
    let fields = s ∷ d ∷ i ∷ [] in
    ap (λ b. cond b (acceptor_line kind options line room fields) (transducer_line kind options line room fields)) (sym e)
arc-fields kind options line room s d i None (Some w) e =
    let fields = s ∷ d ∷ i ∷ w ∷ [] in
    ap (λ b. cond b (acceptor_line kind options line room fields) (transducer_line kind options line room fields)) (sym e)
arc-fields kind options line room s d i (Some o) None e =
    let fields = s ∷ d ∷ i ∷ o ∷ [] in
    ap (λ b. cond b (acceptor_line kind options line room fields) (transducer_line kind options line room fields)) (sym e)
arc-fields kind options line room s d i (Some o) (Some w) e =
    let fields = s ∷ d ∷ i ∷ o ∷ w ∷ [] in
    ap (λ b. cond b (acceptor_line kind options line room fields) (transducer_line kind options line room fields)) (sym e)
