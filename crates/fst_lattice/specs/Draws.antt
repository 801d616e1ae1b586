-- What the generator draws. (A linear congruential generator with the multiplier of Knuth, MMIX; its upper bits are taken.)
use Rattle.std.specs.Prelude.{ℕ, zero, suc, ◌+◌, ◌*◌, ◌/◌, ◌%◌}

-- the next state of the generator
abbrev pub next_state : ℕ → ℕ
next_state x = (x * 6364136223846793005 + 1442695040888963407) % 18446744073709551616

-- the state after so many draws
abbrev pub after : ℕ → ℕ → ℕ
after x zero = x
after x (suc n) = next_state (after x n)

-- the number below k that is drawn after so many draws
abbrev pub drawn : ℕ → ℕ → ℕ → ℕ
drawn x i k = (after x (suc i) / 8589934592) % k

-- the state after so many times this many draws
unfoldable pub skip : ℕ → ℕ → ℕ → ℕ
skip draws x zero = x
skip draws x (suc n) = skip draws (after x draws) n
