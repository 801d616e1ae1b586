-- What a refusal says of the answer.
use Rattle.std.specs.Prelude.{◌≡◌, ◌⊎◌, ℕ, List, Some, Result, Ok, Err, String, codes, string_bytes}
use Rattle.std.specs.declared.alloc.Global.{Global}
use Rattle.fst_verbs.specs.declared.refusal.Refusal.{Refusal}
use Rattle.fst_verbs.specs.declared.refusal.Refusal.TheVariants as refusals
use Rattle.fst_verbs.specs.Causes.{Answer, Fault, faulty, refused, status_of, line_of}

-- the status of a refusal
abbrev pub told_status : Refusal → ℕ
told_status refusals.Usage = 1
told_status refusals.Memory = 3
told_status (refusals.Told status line) = status

-- the line of a refusal
abbrev pub told_line : Refusal → List ℕ
told_line refusals.Usage = codes "fst: bad command line\n"
told_line refusals.Memory = codes "fst: out of memory\n"
told_line (refusals.Told status line) = string_bytes line

-- the refusal is out of memory
abbrev pub IsMemory : Refusal → Type 0
IsMemory refusal = refusal ≡ refusals.Memory

-- the refusal tells the answer: its status and its line
pub record Tells (answer : Answer) (refusal : Refusal) : Type 0 where
  pub status : told_status refusal ≡ status_of answer
  pub line : Some (told_line refusal) ≡ line_of answer

-- a refusal that was to tell the answer, and is out of memory where there was none for the line
abbrev pub IsMade : Answer → Refusal → Type 0
IsMade answer refusals.Memory = Unit {0}
IsMade answer refusals.Usage = Tells answer refusals.Usage
IsMade answer (refusals.Told status line) = Tells answer (refusals.Told status line)

-- the refusal of a status with a line, out of memory where the line could not be made
abbrev pub MakesLine : {E : Type 0} → ℕ → Result (String Global) E → Refusal → Type 0
MakesLine status (Ok line) refusal = (told_status refusal ≡ status) × (told_line refusal ≡ string_bytes line) × (refusal ≡ refusals.Told status line)
MakesLine status (Err e) refusal = refusal ≡ refusals.Memory

-- the refusal is out of memory, or tells the fault that reading gives
abbrev pub Fails : {Y : Type 0} → Refusal → Result Y Fault → Type 0
Fails refusal read = IsMemory refusal ⊎ ((fault : Fault) × (read ≡ Err fault) × Tells (refused (faulty fault)) refusal)

-- what a function returned, seen by view, is what reading gives, or its refusal tells the fault
abbrev pub Judges : {X Y : Type 0} → (X → Y) → Result X Refusal → Result Y Fault → Type 0
Judges view (Ok x) read = read ≡ Ok (view x)
Judges view (Err refusal) read = Fails refusal read
