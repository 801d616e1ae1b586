-- What the steps of a command promise: reading an input, reading all, the work, writing an output, and the whole command.
use Rattle.std.specs.Prelude.{◌≡◌, ◌⊎◌, ℕ, ◌<◌, ◌≤◌, Bool, true, false, List, [], ◌∷◌, ◌++◌, length, Option, Some, None, IfSome, Result, Ok, Err}
use Rattle.fst_desk.specs.Seen.{Filed, Files, Seen, Rises, raised}
use Rattle.fst_desk.specs.Desk.{content_of, ToldHolds}
use Rattle.fst_words.specs.declared.options.Options.{Options}
use Rattle.fst_words.specs.declared.plan.Plan.{Plan}
use Rattle.fst_words.specs.Inputs.{Input, expands, plan_inputs}
use Rattle.fst_verbs.specs.Causes.{Answer, Fault, done, faulty, no_memory, refused, too_long, unread, unwritten}
use Rattle.fst_verbs.specs.Commands.{meaning_for}
use Rattle.fst_verbs.specs.Given.{Given, Held, given_at, given_by, kind_of, nothing, put, read_limit}
use Rattle.fst_verbs.specs.Meaning.{Made, Passes, Product, bytes_of, ending_of, expansions_of}
use Rattle.fst_verbs.specs.Tabling.{tables_for}
use Rattle.fst_verbs.specs.Metering.{Metered, risen_by}
use Rattle.fst_command.specs.Outcome.{Agrees, Answers, Calls, Makes}
use Rattle.fst_verbs.specs.declared.refusal.Refusal.{Refusal}
use Rattle.fst_verbs.specs.Told.{Fails, IsMemory, Tells}

-- an input that could not be read
pub record NotRead (name : List ℕ) (old new : Filed) (refusal : Refusal) : Type 0 where
  pub tells : Tells (unread name) refusal
  pub missed : new.missed ≡ old.missed ++ name ∷ []

-- an input that is longer than what is read
pub record ReadsTooLong (name : List ℕ) (old new : Filed) (refusal : Refusal) : Type 0 where
  pub tells : Tells (refused (too_long name)) refusal
  pub taken : read_limit < new.taken
  pub longer : IfSome old.told (λ files. read_limit < length (content_of files name))

-- an input that was read whole
pub record ReadsWhole (name : List ℕ) (old new : Filed) (content : List ℕ) : Type 0 where
  pub missed : new.missed ≡ old.missed
  pub short : length content ≤ read_limit
  pub whole : IfSome old.told (λ files. content ≡ content_of files name)

-- what each answer of reading an input says
abbrev pub ReadAnswer : List ℕ → Filed → Filed → Result (List ℕ) Refusal → Type 0
ReadAnswer name old new (Ok content) = ReadsWhole name old new content
ReadAnswer name old new (Err refusal) = Tells no_memory refusal ⊎ (NotRead name old new refusal ⊎ ReadsTooLong name old new refusal)

-- reading the input of that name: one fetch, no store and no show; no file changes
pub record Reads (name : List ℕ) (old new : Seen) (result : Result (List ℕ) Refusal) : Type 0 where
  pub told : new.filed.told ≡ old.filed.told
  pub write_faults : new.filed.write_faults ≡ old.filed.write_faults
  pub starved : new.filed.starved ≡ old.filed.starved
  pub fetches : new.filed.fetches ≡ raised old.filed.fetches
  pub stores : new.filed.stores ≡ old.filed.stores
  pub showing : new.showing ≡ old.showing
  pub answer : ReadAnswer name old.filed new.filed result

-- one store, and no fetch
pub record StoresOnce (old new : Filed) : Type 0 where
  pub fetches : new.fetches ≡ old.fetches
  pub stores : new.stores ≡ raised old.stores

-- an output that could not be written
pub record NotWritten (name bytes : List ℕ) (old new : Filed) (refusal : Refusal) : Type 0 where
  pub tells : Tells (unwritten name) refusal
  pub rises : Rises old.write_faults new.write_faults
  pub front : List ℕ
  pub rest : List ℕ
  pub splits : bytes ≡ front ++ rest
  pub told : ToldHolds name front old.told new.told
  pub once : StoresOnce old new

-- there was no memory for the line of a write fault, and the desk was not called
pub record NoRoom (old new : Filed) (refusal : Refusal) : Type 0 where
  pub tells : Tells no_memory refusal
  pub same : new ≡ old

-- an output that was written whole
pub record WrittenWhole (name bytes : List ℕ) (old new : Filed) : Type 0 where
  pub told : ToldHolds name bytes old.told new.told
  pub write_faults : new.write_faults ≡ old.write_faults
  pub starved : new.starved ≡ old.starved
  pub once : StoresOnce old new

-- a store that found no memory
pub record Starves (old new : Filed) (refusal : Refusal) : Type 0 where
  pub tells : Tells no_memory refusal
  pub rises : Rises old.starved new.starved
  pub told : new.told ≡ old.told
  pub once : StoresOnce old new

-- what each answer of a store says of an output
abbrev pub StoreAnswer : List ℕ → List ℕ → Filed → Filed → Result Unit Refusal → Type 0
StoreAnswer name bytes old new (Ok _) = WrittenWhole name bytes old new
StoreAnswer name bytes old new (Err refusal) = Starves old new refusal ⊎ NotWritten name bytes old new refusal

-- storing the output of that name: nothing is shown
pub record StoresOutput (name bytes : List ℕ) (old new : Seen) (result : Result Unit Refusal) : Type 0 where
  pub showing : new.showing ≡ old.showing
  pub answer : StoreAnswer name bytes old.filed new.filed result

-- what each answer of writing an output says
abbrev pub WriteAnswer : List ℕ → List ℕ → Filed → Filed → Result Unit Refusal → Type 0
WriteAnswer name bytes old new (Ok _) = WrittenWhole name bytes old new
WriteAnswer name bytes old new (Err refusal) = NoRoom old new refusal ⊎ (Starves old new refusal ⊎ NotWritten name bytes old new refusal)

-- writing the output of that name: nothing is shown
pub record WritesOutput (name bytes : List ℕ) (old new : Seen) (result : Result Unit Refusal) : Type 0 where
  pub showing : new.showing ≡ old.showing
  pub answer : WriteAnswer name bytes old.filed new.filed result

-- the first of two outputs stands whole, and the second does not
pub record StopsAfter (name bytes other more : List ℕ) (old new : Filed) (refusal : Refusal) : Type 0 where
  pub mid : Filed
  pub stands : WrittenWhole name bytes old mid
  pub stops : Starves mid new refusal ⊎ NotWritten other more mid new refusal

-- what each answer of writing two outputs says
abbrev pub BothAnswer : List ℕ → List ℕ → List ℕ → List ℕ → Filed → Filed → Result Unit Refusal → Type 0
BothAnswer name bytes other more old new (Ok _) = (mid : Filed) × WrittenWhole name bytes old mid × WrittenWhole other more mid new
BothAnswer name bytes other more old new (Err refusal) =
    NoRoom old new refusal ⊎ ((Starves old new refusal ⊎ NotWritten name bytes old new refusal) ⊎ StopsAfter name bytes other more old new refusal)

-- writing two outputs, one after the other: nothing is shown
pub record WritesBoth (name bytes other more : List ℕ) (old new : Seen) (result : Result Unit Refusal) : Type 0 where
  pub showing : new.showing ≡ old.showing
  pub answer : BothAnswer name bytes other more old.filed new.filed result

-- ---- the inputs

-- what each answer of reading an input, and judging it beside what stands before it, says
abbrev pub StepAnswer : Input → Options → Held → Held → Seen → Seen → Result Unit Refusal → Type 0
StepAnswer i o before after old new (Ok _) = (content : List ℕ) × Reads i.name old new (Ok content) × (put o i.role i.name content before ≡ Ok after)
StepAnswer i o before after old new (Err refusal) =
    Reads i.name old new (Err refusal) ⊎ ((content : List ℕ) × Reads i.name old new (Ok content) × Fails refusal (put o i.role i.name content before))

-- The inputs in front are read, each by one fetch: this is held of them, no cause is found in them, and nothing else
-- has changed.
pub record Progress (plan : Plan) (front : List Input) (held : Held) (old now : Seen) : Type 0 where
  pub contents : List (List ℕ)
  pub agrees : Agrees old.filed.told front contents
  pub reads : given_by plan.options front contents nothing ≡ Ok held
  pub told : now.filed.told ≡ old.filed.told
  pub write_faults : now.filed.write_faults ≡ old.filed.write_faults
  pub missed : now.filed.missed ≡ old.filed.missed
  pub starved : now.filed.starved ≡ old.filed.starved
  pub calls : Calls (length front) 0 old.filed now.filed
  pub showing : now.showing ≡ old.showing

-- ---- the whole command

-- the answer of a command that ended so
abbrev pub Ends : Answer → Result ℕ Refusal → Type 0
Ends answer (Ok status) = answer ≡ done status
Ends answer (Err refusal) = Tells answer refusal

-- a command that was wanted by its words: its answer, with no show
pub record Works (plan : Option Plan) (old new : Seen) (result : Result ℕ Refusal) : Type 0 where
  pub answer : Answer
  pub ends : Ends answer result
  pub answers : Answers plan old.filed new.filed answer
  pub showing : new.showing ≡ old.showing

-- reading all inputs, or how the command ended
abbrev pub ReadsAll : Plan → Seen → Seen → Result Held Refusal → Type 0
ReadsAll plan old new (Ok held) = Progress plan (plan_inputs plan) held old new
ReadsAll plan old new (Err refusal) = Works (Some plan) old new (Err refusal)

-- these are the status and the bytes of what the command makes of what was read, and nothing stops it
pub record IsWorked (plan : Plan) (held : Held) (product : Product) : Type 0 where
  pub given : Given
  pub reads : given_at (kind_of plan.options held.machines) held ≡ Ok given
  pub passes : Passes ((meaning_for plan).stops given)
  pub made : Made
  pub makes : (meaning_for plan).makes given made
  pub spells : product.bytes ≡ bytes_of (tables_for plan given.tables) made
  pub ends : product.status ≡ ending_of made

-- the fault of what was read, or else that which stops the command
abbrev pub IsFault : Plan → Held → Fault → Type 0
IsFault plan held fault =
    (given_at (kind_of plan.options held.machines) held ≡ Err fault)
    ⊎ ((given : Given) × (given_at (kind_of plan.options held.machines) held ≡ Ok given) × (meaning_for plan).stops given fault)

-- the work on what was read
abbrev pub Decides : Plan → Held → Result Product Refusal → Type 0
Decides plan held (Ok product) = IsWorked plan held product
Decides plan held (Err refusal) = IsMemory refusal ⊎ ((fault : Fault) × IsFault plan held fault × Tells (refused (faulty fault)) refusal)

-- all inputs are read, and these are the status and the bytes of the outputs
pub record IsReady (plan : Plan) (product : Product) (old now : Seen) : Type 0 where
  pub held : Held
  pub progress : Progress plan (plan_inputs plan) held old now
  pub worked : IsWorked plan held product

-- what storing the outputs gives, where the status was ready
abbrev pub ended : ℕ → Result Unit Refusal → Result ℕ Refusal
ended status (Ok _) = Ok status
ended status (Err refusal) = Err refusal

-- ending a command where the bytes were ready, with the status that was ready beside them
abbrev pub WorksAfter : Plan → List (List ℕ) → Seen → Seen → Result Unit Refusal → Type 0
WorksAfter plan bytes mid new result =
    (old : Seen) (status : ℕ) → IsReady plan (record { status = status; bytes = bytes }) old mid → Works (Some plan) old new (ended status result)

-- ---- the meter

-- how the work on what was read leaves it
abbrev pub MetersWorkBy : (expanding : Bool) → Plan → Held → Metered → Metered → Result Product Refusal → Type 0
MetersWorkBy false plan held before after result = after ≡ before
MetersWorkBy true plan held before after (Ok product) = (w : IsWorked plan held product) × (after ≡ risen_by (expansions_of w.made) before)
MetersWorkBy true plan held before after (Err refusal) = Unit {0}

abbrev pub MetersWork : Plan → Held → Metered → Metered → Result Product Refusal → Type 0
MetersWork plan held before after result = MetersWorkBy (expands plan) plan held before after result

-- how the whole command leaves it
abbrev pub MetersEnd : (expanding : Bool) → Plan → Option Files → Metered → Metered → Result ℕ Refusal → Type 0
MetersEnd false plan told before after result = after ≡ before
MetersEnd true plan told before after (Ok _) = (made : Made) × Makes plan told made × (after ≡ risen_by (expansions_of made) before)
MetersEnd true plan told before after (Err refusal) = Unit {0}

-- for words of a command, and for others
abbrev pub MetersWords : Option Plan → Option Files → Metered → Metered → Result ℕ Refusal → Type 0
MetersWords None told before after result = after ≡ before
MetersWords (Some plan) told before after result = MetersEnd (expands plan) plan told before after result
