-- What callers see of a desk, in two halves: `fetch` and `store` change the first, `show` the second.
use Rattle.std.specs.Prelude.{ℕ, ◌+◌, ◌<◌, ◌≤◌, ◌⊎◌, nat_lt, if◌then◌else◌, List, Option}

-- the content under each name, as bytes; None where the name is not held
abbrev pub Files : Type 0
Files = List ℕ → Option (List ℕ)

-- the half of the named files
pub record Filed : Type 0 where
  -- the contents, where the desk tells them
  pub told : Option Files
  -- the names whose fetch failed, the oldest first
  pub missed : List (List ℕ)
  -- how many stores failed
  pub write_faults : ℕ
  -- how many stores found no memory
  pub starved : ℕ
  -- how many bytes the last fetch took
  pub taken : ℕ
  -- how many fetches and how many stores there were, whatever they answered
  pub fetches : ℕ
  pub stores : ℕ

-- the half of the diagnostic lines
pub record Showing : Type 0 where
  -- the diagnostic bytes, where the desk tells them
  pub shown : Option (List ℕ)
  -- how many shows failed
  pub show_faults : ℕ
  -- how many shows found no memory
  pub show_starved : ℕ
  -- how many shows there were, whatever they answered
  pub shows : ℕ

-- all that a desk shows of itself
pub record Seen : Type 0 where
  pub filed : Filed
  pub showing : Showing

-- the count rose, or stands at the end of its type, 2 ^ 64 - 1
abbrev pub Rises : ℕ → ℕ → Type 0
Rises old new = (old < new) ⊎ (18446744073709551615 ≤ new)

-- a count of 64 bits after one more, which stays at its type's end
abbrev pub raised : ℕ → ℕ
raised n = if nat_lt n 18446744073709551615 then n + 1 else n
