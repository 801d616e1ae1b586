-- What is seen of the meter that counts expansions, and how a command leaves it.
use Rattle.std.specs.Prelude.{◌≡◌, ℕ, ◌+◌, ◌<◌, ◌^◌, Bool, true, false, Result, Ok, Err}
use Rattle.fst_verbs.specs.Meaning.{Made, expansions_of}
use Rattle.fst_verbs.specs.declared.refusal.Refusal.{Refusal}

-- what a meter has counted, how many of its parts are out, and whether it is itself a part
pub record Metered : Type 0 where
  pub count : ℕ
  pub parts_out : ℕ
  pub is_part : Bool

abbrev pub meter_seen : {M : Type 0} → (M → ℕ) → (M → ℕ) → (M → Bool) → M → Metered
meter_seen count parts_out is_part m = record { count = count m; parts_out = parts_out m; is_part = is_part m }

-- a meter that may be handed in
pub record IsFree (m : Metered) : Type 0 where
  pub whole : m.is_part ≡ false
  pub few : m.count < 2 ^ 62
  pub parts : m.parts_out < 900

-- the meter after that many expansions
abbrev pub risen_by : ℕ → Metered → Metered
risen_by n m = record m { count = m.count + n }

-- how a command leaves the meter: as it was where it does not expand, and else raised by the expansions of what it
-- makes; after its refusal nothing is said
abbrev pub Raises : Bool → Metered → Metered → Result Made Refusal → Type 0
Raises false before after result = after ≡ before
Raises true before after (Ok made) = after ≡ risen_by (expansions_of made) before
Raises true before after (Err refusal) = Unit {0}
