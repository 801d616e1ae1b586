-- A command means one thing: of what it is given, one fault stops it, and one thing is made.
use Rattle.std.specs.Prelude.{◌≡◌}
use Rattle.fst_verbs.specs.Given.{Given}
use Rattle.fst_verbs.specs.Meaning.{Meaning}

-- no two have the property
abbrev pub One : {X : Type 0} → (X → Type 0) → Type 0
One {X} P = (x y : X) → P x → P y → x ≡ y

-- of what a command is given, one fault stops it, and one thing is made
pub record HasOneOutcome (m : Meaning) (given : Given) : Type 0 where
  pub stopped : One (m.stops given)
  pub made : One (m.makes given)
