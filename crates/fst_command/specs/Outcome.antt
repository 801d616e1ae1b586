-- The outcome of a run: what it answers, what then stands, and what it shows. No command and no cause is named here.
use Rattle.std.specs.Prelude.{◌≡◌, ◌⊎◌, ℕ, zero, suc, ◌<◌, ◌≤◌, Bool, true, false, List, [], ◌∷◌, ◌++◌, length, Option, Some, None, IfSome, Ok, Err}
use Rattle.fst_desk.specs.Seen.{Files, Filed, Showing, Seen, Rises, raised}
use Rattle.fst_desk.specs.Desk.{content_of, ToldHolds, ToldAppends}
use Rattle.fst_words.specs.declared.plan.Plan.{Plan}
use Rattle.fst_words.specs.Inputs.{Input, expands, plan_inputs}
use Rattle.fst_words.specs.Plans.{outputs_of, plan_of}
use Rattle.fst_verbs.specs.Causes.{Cause, too_long, faulty, Fault, Answer, done, usage, refused, no_memory, unread, unwritten, status_of, line_of}
use Rattle.fst_verbs.specs.Commands.{meaning_for}
use Rattle.fst_verbs.specs.Given.{Given, Held, given_by, given_of, nothing, read_limit}
use Rattle.fst_verbs.specs.Meaning.{Made, Passes, bytes_of, ending_of, expansions_of}
use Rattle.fst_verbs.specs.Tabling.{tables_for}
use Rattle.fst_verbs.specs.Metering.{Metered, risen_by}

-- the contents are those that are told under the names of the inputs
abbrev pub Agrees : Option Files → List Input → List (List ℕ) → Type 0
Agrees told [] [] = Unit {0}
Agrees told [] (c ∷ cs) = ⊥
Agrees told (i ∷ is) [] = ⊥
Agrees told (i ∷ is) (c ∷ cs) = IfSome told (λ files. c ≡ content_of files i.name) × Agrees told is cs

-- an output: its name and its bytes
abbrev pub Output : Type 0
Output = List ℕ × List ℕ

-- the outputs of these names have these bytes, in order
abbrev pub AreNamed : List (List ℕ) → List (List ℕ) → List Output → Type 0
AreNamed [] [] outputs = outputs ≡ []
AreNamed [] (bytes ∷ made) outputs = ⊥
AreNamed (name ∷ names) [] outputs = ⊥
AreNamed (name ∷ names) (bytes ∷ made) outputs = (rest : List Output) × (outputs ≡ (name, bytes) ∷ rest) × AreNamed names made rest

-- the outputs were written, one after the other, and nothing else
abbrev pub Leaves : List Output → Option Files → Option Files → Type 0
Leaves [] old new = new ≡ old
Leaves (output ∷ outputs) old new = (mid : Option Files) × ToldHolds output.0 output.1 old mid × Leaves outputs mid new

-- nothing stops the command, and this is what it makes of the contents
pub record Makes (plan : Plan) (told : Option Files) (made : Made) : Type 0 where
  pub contents : List (List ℕ)
  pub agrees : Agrees told (plan_inputs plan) contents
  pub given : Given
  pub reads : given_of plan contents ≡ Ok given
  pub passes : Passes ((meaning_for plan).stops given)
  pub is : (meaning_for plan).makes given made

-- the outcome is Ok with these outputs: they are the bytes of what the command makes, with the symbol tables of its row
pub record Prescribes (plan : Plan) (told : Option Files) (outputs : List Output) : Type 0 where
  pub made : Made
  pub makes : Makes plan told made
  pub named : AreNamed (outputs_of plan) (bytes_of (tables_for plan makes.given.tables) made) outputs

-- what a command is given has this cause, or else the command is stopped by it
abbrev pub IsCause : Plan → List (List ℕ) → Cause → Type 0
IsCause plan contents cause =
    (given_of plan contents ≡ Err cause)
    ⊎ ((given : Given) × (given_of plan contents ≡ Ok given) × (fault : Fault) × (meaning_for plan).stops given fault × (cause ≡ faulty fault))

-- the outcome is this cause, the first that holds
pub record Refuses (plan : Plan) (told : Option Files) (cause : Cause) : Type 0 where
  pub contents : List (List ℕ)
  pub agrees : Agrees told (plan_inputs plan) contents
  pub is : IsCause plan contents cause

-- an input past the limit was taken past it
abbrev pub TakesMore : Cause → ℕ → Type 0
TakesMore cause taken = (name : List ℕ) → cause ≡ too_long name → read_limit < taken

-- a count of 64 bits after that many calls more
abbrev pub raised_by : ℕ → ℕ → ℕ
raised_by zero count = count
raised_by (suc n) count = raised (raised_by n count)

-- this many fetches and this many stores were made
pub record Calls (fetched stored : ℕ) (old new : Filed) : Type 0 where
  pub fetches : new.fetches ≡ raised_by fetched old.fetches
  pub stores : new.stores ≡ raised_by stored old.stores

-- at most one fetch for each input was made, and no store; no write failed
pub record OnlyFetches (plan : Plan) (old new : Filed) : Type 0 where
  pub write_faults : new.write_faults ≡ old.write_faults
  pub fetched : ℕ
  pub few : fetched ≤ length (plan_inputs plan)
  pub calls : Calls fetched 0 old new

-- a read fault: the name is that of an input, it alone was missed, and no input before it has a cause; there
-- was one fetch for each input as far as this one
pub record IsUnread (plan : Plan) (old new : Filed) (name : List ℕ) : Type 0 where
  pub missed : new.missed ≡ old.missed ++ name ∷ []
  pub before : List Input
  pub input : Input
  pub after : List Input
  pub inputs : plan_inputs plan ≡ before ++ input ∷ after
  pub named : input.name ≡ name
  pub contents : List (List ℕ)
  pub agrees : Agrees old.told before contents
  pub held : Held
  pub reads : given_by plan.options before contents nothing ≡ Ok held
  pub calls : Calls (suc (length before)) 0 old new

-- a write fault: the outcome is Ok, the name is that of an output, the outputs before it stand whole, and
-- of it a prefix; the count of write faults rose, and there was one store for each output as far as this one
pub record IsUnwritten (plan : Plan) (old new : Filed) (name : List ℕ) : Type 0 where
  pub rises : Rises old.write_faults new.write_faults
  pub before : List Output
  pub front : List ℕ
  pub rest : List ℕ
  pub after : List Output
  pub prescribes : Prescribes plan old.told (before ++ (name, front ++ rest) ∷ after)
  pub leaves : Leaves (before ++ (name, front) ∷ []) old.told new.told
  pub calls : Calls (length (plan_inputs plan)) (suc (length before)) old new

-- out of memory in the store of an output: the outcome is Ok, the outputs before it stand whole; the count of
-- stores without memory rose, and there was one store for each output as far as this one
pub record IsStarved (plan : Plan) (old new : Filed) : Type 0 where
  pub rises : Rises old.starved new.starved
  pub before : List Output
  pub output : Output
  pub after : List Output
  pub prescribes : Prescribes plan old.told (before ++ output ∷ after)
  pub leaves : Leaves before old.told new.told
  pub calls : Calls (length (plan_inputs plan)) (suc (length before)) old new

-- what each answer says of the words, the contents and the files, by the plan of the words
abbrev pub Answers : Option Plan → Filed → Filed → Answer → Type 0
Answers None old new (done status) = ⊥
Answers None old new usage = new ≡ old
Answers None old new (refused cause) = ⊥
Answers None old new no_memory = new ≡ old
Answers None old new (unread name) = ⊥
Answers None old new (unwritten name) = ⊥
Answers (Some plan) old new (done status) =
    (outputs : List Output) × (p : Prescribes plan old.told outputs) × (status ≡ ending_of p.made) × Leaves outputs old.told new.told
    × Calls (length (plan_inputs plan)) (length outputs) old new
Answers (Some plan) old new usage = ⊥
Answers (Some plan) old new (refused cause) = Refuses plan old.told cause × TakesMore cause new.taken × (new.told ≡ old.told) × OnlyFetches plan old new
Answers (Some plan) old new no_memory = ((new.told ≡ old.told) × OnlyFetches plan old new) ⊎ IsStarved plan old new
Answers (Some plan) old new (unread name) = IsUnread plan old new name × (new.told ≡ old.told)
Answers (Some plan) old new (unwritten name) = IsUnwritten plan old new name

-- a prefix of the line was shown, and a count of the shows rose
pub record ShowsFront (line : List ℕ) (old new : Showing) : Type 0 where
  pub rises : Rises old.show_faults new.show_faults ⊎ Rises old.show_starved new.show_starved
  pub front : List ℕ
  pub rest : List ℕ
  pub splits : line ≡ front ++ rest
  pub shown : ToldAppends front old.shown new.shown

-- one show, in which the line was shown, or a prefix of it; without a line there was no show
abbrev pub ShowsLine : Option (List ℕ) → Showing → Showing → Type 0
ShowsLine None old new = new ≡ old
ShowsLine (Some line) old new = (new.shows ≡ raised old.shows) × (ToldAppends line old.shown new.shown ⊎ ShowsFront line old new)

-- A run of the words: its answer, with the status and the line of that answer, and the calls of the desk.
pub record Runs (words : List (List ℕ)) (old new : Seen) (status : ℕ) : Type 0 where
  pub answer : Answer
  pub status_is : status ≡ status_of answer
  pub answers : Answers (plan_of words) old.filed new.filed answer
  pub shows : ShowsLine (line_of answer) old.showing new.showing

-- Words of the stated form, contents that are told and of which nothing stops the command, and a run in which no name
-- was missed and no write failed: the status is that of what the command makes, or of out of memory.
abbrev pub Completes : List (List ℕ) → Seen → Seen → ℕ → Type 0
Completes words old new status =
    (plan : Plan) (files : Files) (contents : List (List ℕ)) → plan_of words ≡ Some plan → old.filed.told ≡ Some files →
    Agrees (Some files) (plan_inputs plan) contents → ((cause : Cause) → IsCause plan contents cause → ⊥) →
    new.filed.missed ≡ old.filed.missed → (Rises old.filed.write_faults new.filed.write_faults → ⊥) →
    ((made : Made) × Makes plan (Some files) made × (status ≡ ending_of made)) ⊎ (status ≡ 3)

-- how a run leaves the meter: a command that expands no states leaves it as it was, and one that does has raised it by
-- the expansions of what it makes, where the status is that of Ok; after its refusal nothing is said
abbrev pub MetersBy : (expanding : Bool) → Plan → Option Files → Metered → Metered → ℕ → Type 0
MetersBy false plan told before after status = after ≡ before
MetersBy true plan told before after status = status ≡ 0 → (made : Made) × Makes plan told made × (after ≡ risen_by (expansions_of made) before)

abbrev pub MetersPlan : Option Plan → Option Files → Metered → Metered → ℕ → Type 0
MetersPlan None told before after status = after ≡ before
MetersPlan (Some plan) told before after status = MetersBy (expands plan) plan told before after status

abbrev pub Meters : List (List ℕ) → Option Files → Metered → Metered → ℕ → Type 0
Meters words told before after status = MetersPlan (plan_of words) told before after status
