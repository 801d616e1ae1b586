-- One result: runs that end, one way or the other, by their words and by what the files hold end alike.
use Rattle.std.specs.Prelude.{◌≡◌, ◌≢◌, ℕ, List, Option}
use Rattle.fst_desk.specs.Seen.{Seen}
use Rattle.fst_command.specs.Outcome.{Leaves, Output, ShowsLine}

-- the status is none of those that the desk or the memory decides: out of memory, and what could not be read or written
abbrev pub IsDecided : ℕ → Type 0
IsDecided status = (status ≢ 3) × (status ≢ 4) × (status ≢ 5)

-- Two runs end alike: with one status, and the same told contents. Both have stored these outputs and nothing else, and both
-- have shown this line, or none.
pub record EndAlike (old new : Seen) (ended : ℕ) (other later : Seen) (also : ℕ) : Type 0 where
  pub status : ended ≡ also
  pub told : new.filed.told ≡ later.filed.told
  pub outputs : List Output
  pub stores : Leaves outputs old.filed.told new.filed.told × Leaves outputs other.filed.told later.filed.told
  pub line : Option (List ℕ)
  pub shows : ShowsLine line old.showing new.showing × ShowsLine line other.showing later.showing
