-- The digits in front of a text.
use Rattle.std.specs.Prelude.{ℕ, ◌+◌, ◌-◌, ◌*◌, List, [], ◌∷◌, if◌then◌else◌}
use Rattle.std.specs.Char.{is_ascii_digit}

-- the number n followed by the digits in front
abbrev pub leading_number : ℕ → List ℕ → ℕ
leading_number n [] = n
leading_number n (c ∷ cs) = if is_ascii_digit c then leading_number (10 * n + (c - 48)) cs else n
