-- What one command writes the next one reads.
use Rattle.std.specs.Prelude.{◌≡◌, ℕ, List, [], ◌∷◌, None, Ok}
use Rattle.fst_semiring.specs.declared.arc_type.ArcType.{ArcType}
use Rattle.fst_semiring.specs.Cost.{Cost}
use Rattle.fst_machine.specs.Machine.{Machine}
use Rattle.fst_binary.specs.Sides.{HasSides, Sides}
use Rattle.fst_binary.specs.Spelling.{HasSpelling}
use Rattle.fst_codex.specs.Spelling.{HasCodexSpelling}
use Rattle.fst_codex.specs.Table.{Table}
use Rattle.fst_words.specs.declared.form.Role.TheVariants as roles
use Rattle.fst_words.specs.declared.plan.Plan.{Plan}
use Rattle.fst_words.specs.Inputs.{plan_inputs}
use Rattle.fst_verbs.specs.Given.{Given, codex_in, machine_in}
use Rattle.fst_verbs.specs.Meaning as meanings
use Rattle.fst_verbs.specs.Meaning.{Made, answered, coded, machine, separation}
use Rattle.fst_command.specs.Outcome.{Output}

-- under any name this content is read as the machine of this arc type, with these symbol tables
abbrev pub IsReadAs : ArcType → Machine Cost → Sides → List ℕ → Type 0
IsReadAs kind m s content = (name : List ℕ) → machine_in name content ≡ Ok (record { typed = record { kind = kind; machine = m }; sides = s })

-- and this one as the codex
abbrev pub IsCodexAs : ArcType → Table Cost → List ℕ → Type 0
IsCodexAs kind table content = (name : List ℕ) → codex_in name content ≡ Ok (record { kind = kind; table = table })

-- The outputs of what is made, with these symbol tables, are read as what is made: each machine and each codex. They have to
-- have a spelling: their numbers are in range.
abbrev pub AreReadAgain : Sides → Made → List Output → Type 0
AreReadAgain s (machine kind m) outputs = HasSides s → HasSpelling kind m → (output : Output) × (outputs ≡ output ∷ []) × IsReadAs kind m s output.1
AreReadAgain s (meanings.text bytes) outputs = Unit {0}
AreReadAgain s (coded kind table m) outputs = HasSides s → HasCodexSpelling kind table → HasSpelling kind m →
    (first : Output) × (second : Output) × (outputs ≡ first ∷ second ∷ []) × IsCodexAs kind table first.1 × IsReadAs kind m s second.1
AreReadAgain s (answered bytes expansions) outputs = Unit {0}
AreReadAgain s (separation bytes) outputs = Unit {0}

-- a plan that reads one machine in the binary form, and no other file
abbrev pub ReadsOneMachine : Plan → Type 0
ReadsOneMachine plan = (name : List ℕ) × (plan_inputs plan ≡ record { name = name; role = roles.Machine } ∷ [])

-- what a command is given where it reads this machine of this arc type, with these symbol tables, and no other file
abbrev pub given_one : ArcType → Machine Cost → Sides → Given
given_one kind m s = record {
  kind = kind;
  tables = record { isymbols = None; osymbols = None; first = s; last = s };
  ipairs = [];
  opairs = [];
  lines = [];
  machines = m ∷ [];
  codex = None;
}
