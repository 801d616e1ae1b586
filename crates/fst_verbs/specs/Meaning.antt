-- What a command means: the faults that stop it, and what it makes where none does.
use Rattle.std.specs.Prelude.{◌≡◌, ◌⊎◌, ℕ, List, [], ◌∷◌, Result, Ok, Err}
use Rattle.fst_semiring.specs.declared.arc_type.ArcType.{ArcType}
use Rattle.fst_semiring.specs.Cost.{Cost}
use Rattle.fst_machine.specs.Machine.{Machine}
use Rattle.fst_binary.specs.Sides.{Sides}
use Rattle.fst_binary.specs.Spelling.{tabled_spelling}
use Rattle.fst_codex.specs.Spelling.{codex_spelling}
use Rattle.fst_codex.specs.Table.{Table}
use Rattle.fst_verbs.specs.Causes.{Fault, faulty, refused}
use Rattle.fst_verbs.specs.Given.{Given}
use Rattle.fst_verbs.specs.Told.{IsMemory, Tells}
use Rattle.fst_verbs.specs.declared.refusal.Refusal.{Refusal}

-- what a command makes
pub data Made : Type 0 where
  -- a machine of this arc type
  machine : ArcType → Machine Cost → Made
  -- a text
  text : List ℕ → Made
  -- a codex and a machine of this arc type
  coded : ArcType → Table Cost → Machine Cost → Made
  -- the text of the answers to lines, with how many states of the cascade were expanded for them
  answered : List ℕ → ℕ → Made
  -- the text that tells two machines apart
  separation : List ℕ → Made

-- the bytes of its outputs, in the order in which they are stored: a machine carries these symbol tables
abbrev pub bytes_of : Sides → Made → List (List ℕ)
bytes_of s (machine kind m) = tabled_spelling kind m s ∷ []
bytes_of s (text bytes) = bytes ∷ []
bytes_of s (coded kind table m) = codex_spelling kind table ∷ tabled_spelling kind m s ∷ []
bytes_of s (answered bytes expansions) = bytes ∷ []
bytes_of s (separation bytes) = bytes ∷ []

-- the status that a run ends with which makes it: one of its own tells a script that two machines are told apart
abbrev pub ending_of : Made → ℕ
ending_of (machine kind m) = 0
ending_of (text bytes) = 0
ending_of (coded kind table m) = 0
ending_of (answered bytes expansions) = 0
ending_of (separation bytes) = 2

-- what a command hands on for its outputs: the status, and their bytes
pub record Product : Type 0 where
  pub status : ℕ
  pub bytes : List (List ℕ)

-- how many states of a cascade were expanded for it
abbrev pub expansions_of : Made → ℕ
expansions_of (machine kind m) = 0
expansions_of (text bytes) = 0
expansions_of (coded kind table m) = 0
expansions_of (answered bytes expansions) = expansions
expansions_of (separation bytes) = 0

-- ---- what stops a command

-- by the fault that is told
abbrev pub Stops : Type 1
Stops = Fault → Type 0

-- it has no fault
abbrev pub Passes : Stops → Type 0
Passes stops = (fault : Fault) → stops fault → ⊥

-- nothing does
abbrev pub never : Stops
never fault = ⊥

-- the first fault; or the second, where the first is none
infixr 5 ◌then◌
abbrev pub ◌then◌ : Stops → Stops → Stops
(first then second) fault = first fault ⊎ (Passes first × second fault)

-- ---- the machines that a command is given, and the machine that it makes

-- the one machine, and the two
abbrev pub for_one : List (Machine Cost) → (Machine Cost → Type 0) → Type 0
for_one [] says = ⊥
for_one (m ∷ []) says = says m
for_one (m ∷ n ∷ ms) says = ⊥

abbrev pub for_two : List (Machine Cost) → (Machine Cost → Machine Cost → Type 0) → Type 0
for_two [] says = ⊥
for_two (m ∷ []) says = ⊥
for_two (m ∷ n ∷ []) says = says m n
for_two (m ∷ n ∷ o ∷ ms) says = ⊥

-- what is made is a machine of this arc type, of which this is said
abbrev pub IsMachine : ArcType → (Machine Cost → Type 0) → Made → Type 0
IsMachine kind says (machine k m) = (k ≡ kind) × says m
IsMachine kind says (text bytes) = ⊥
IsMachine kind says (coded k table m) = ⊥
IsMachine kind says (answered bytes expansions) = ⊥
IsMachine kind says (separation bytes) = ⊥

-- ---- the meaning

pub record Meaning : Type 1 where
  -- the fault that stops it, of what it is given
  pub stops : Given → Stops
  -- what it makes of that
  pub makes : Given → Made → Type 0

-- the refusal is out of memory, or tells a fault that stops the command
abbrev pub Declines : Stops → Refusal → Type 0
Declines stops refusal = IsMemory refusal ⊎ ((fault : Fault) × stops fault × Tells (refused (faulty fault)) refusal)

-- a result of a command: it is made, and nothing stops the command; or it is refused
abbrev pub Settles : Meaning → Given → Result Made Refusal → Type 0
Settles m given (Ok made) = Passes (m.stops given) × m.makes given made
Settles m given (Err refusal) = Declines (m.stops given) refusal
