-- Whole numbers in decimal digits, leading zeros among them.
use Rattle.std.specs.Prelude.{ℕ, ◌+◌, ◌-◌, ◌*◌, List, [], ◌∷◌, length, nat_le, Option, Some, None, if◌then◌else◌}
use Rattle.std.specs.Char.{is_ascii_digit}

-- the number n followed by these digits, if all are digits
abbrev pub digits_after : ℕ → List ℕ → Option ℕ
digits_after n [] = Some n
digits_after n (c ∷ cs) = if is_ascii_digit c then digits_after (10 * n + (c - 48)) cs else None

-- the number that one to most digits stand for
abbrev pub natural_of_text : ℕ → List ℕ → Option ℕ
natural_of_text most [] = None
natural_of_text most (c ∷ cs) = if nat_le (length (c ∷ cs)) most then digits_after 0 (c ∷ cs) else None

-- the greatest number of a label
abbrev pub greatest_label : ℕ
greatest_label = 2147483647

-- the label that one to eighteen digits stand for
abbrev pub label_of_text : List ℕ → Option ℕ
label_of_text field = elim (natural_of_text 18 field) [ None ↦ None | Some n ↦ if nat_le n greatest_label then Some n else None ]
