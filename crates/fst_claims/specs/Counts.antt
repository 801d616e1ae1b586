-- Sums over lists, and how often a number stands in one.
use Rattle.std.specs.Prelude.{ℕ, ◌+◌, List, [], ◌∷◌, cond, nat_eq}

-- f of each, added up
abbrev pub total : {X : Type 0} → (X → ℕ) → List X → ℕ
total f [] = 0
total f (x ∷ xs) = f x + total f xs

-- 1 where the two are one number, else 0
abbrev pub one_if : ℕ → ℕ → ℕ
one_if c x = cond (nat_eq c x) 1 0

-- how often the number stands in the list
abbrev pub times : ℕ → List ℕ → ℕ
times c [] = 0
times c (x ∷ xs) = one_if c x + times c xs
