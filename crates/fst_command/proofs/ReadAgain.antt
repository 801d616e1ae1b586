-- What one command writes the next one reads.
use Rattle.std.proofs.Common.{◌≡◌, ◌≤◌, ℕ, true, false, List, [], ◌∷◌, length, Option, Result, Ok, refl, ap, ◌∙◌, subst, arith, ltb}
use Rattle.std.proofs.lemmas.Bool.{le-ltb}
use Rattle.std.specs.List.{Contains}
use Rattle.fst_semiring.specs.declared.arc_type.ArcType.{ArcType}
use Rattle.fst_semiring.specs.declared.arc_type.ArcType.TheVariants.{Boolean, Tropical, MinMax, Lexicographic}
use Rattle.fst_semiring.specs.Cost.{Cost}
use Rattle.fst_semiring.specs.Names.{known}
use Rattle.fst_machine.specs.Machine.{Machine}
use Rattle.fst_fields.specs.Reading.{◌>>=◌}
use Rattle.fst_binary.specs.Sides.{HasSides, Sides}
use Rattle.fst_binary.specs.Spelling.{HasSpelling, tabled_spelling}
use Rattle.fst_binary.proofs.Encoded.{is_again_tabled, type_of_spelling}
use Rattle.fst_codex.specs.Spelling.{HasCodexSpelling, codex_spelling}
use Rattle.fst_codex.specs.Table.{Table}
use Rattle.fst_codex.proofs.Again.{codex_again, type_again}
use Rattle.fst_any.specs.Taken.{same_kind}
use Rattle.fst_any.specs.Typed.{codex_of_file, machine_of_file}
use Rattle.fst_desk.specs.Seen.{Files}
use Rattle.fst_words.specs.declared.options.Options.{Options}
use Rattle.fst_words.specs.declared.plan.Plan.{Plan}
use Rattle.fst_words.specs.declared.form.Role.TheVariants as roles
use Rattle.fst_words.specs.Inputs.{Input}
use Rattle.fst_words.specs.Plans.{outputs_of}
use Rattle.fst_verbs.specs.Causes.{Cause, faulty}
use Rattle.fst_verbs.specs.Given.{Given, Held, codex_in, given_at, given_by, given_of, kind_of}
use Rattle.fst_verbs.specs.Given.{machine_in, nothing, put, read_limit, telling}
use Rattle.fst_verbs.specs.Meaning as meanings
use Rattle.fst_verbs.specs.Meaning.{Made, answered, bytes_of, coded, machine, separation}
use Rattle.fst_verbs.specs.Tabling.{tables_for}
use Rattle.fst_command.specs.Outcome.{AreNamed, Output, Prescribes}
use Rattle.fst_command.specs.ReadAgain.{AreReadAgain, IsCodexAs, IsReadAs, ReadsOneMachine, given_one}

all_known : (kind : ArcType) → Contains known kind
all_known Boolean = (0, omega arith, refl)
all_known Tropical = (1, omega arith, refl)
all_known MinMax = (2, omega arith, refl)
all_known Lexicographic = (3, omega arith, refl)

reads_machine : (kind : ArcType) (m : Machine Cost) (s : Sides) → HasSides s → HasSpelling kind m → IsReadAs kind m s (tabled_spelling kind m s)
unfolding machine_in machine_of_file
reads_machine kind m s sided has name =
    let type = type_of_spelling kind m s (all_known kind) in
    let tabled = is_again_tabled {X = ℕ} {E = ℕ} kind m s (λ n. tabled_spelling kind m s) (Ok 0) has sided refl in
    rw (type, tabled) refl

reads_codex : (kind : ArcType) (t : Table Cost) → HasCodexSpelling kind t → IsCodexAs kind t (codex_spelling kind t)
unfolding codex_in codex_of_file
reads_codex kind t has name = rw (type_again kind t, codex_again kind t has) refl

-- the outputs of one content, and of two
one_named : (names : List (List ℕ)) (bytes : List ℕ) (outputs : List Output) → AreNamed names (bytes ∷ []) outputs
    → (output : Output) × (outputs ≡ output ∷ []) × (bytes ≡ output.1)
one_named [] bytes outputs h = absurd h
one_named (n ∷ []) bytes outputs h = ((n, bytes), h.1 ∙ ap (λ (rest : List Output). (n, bytes) ∷ rest) h.2, refl)
one_named (n ∷ k ∷ names) bytes outputs h = absurd h.2

two_named : (names : List (List ℕ)) (bytes more : List ℕ) (outputs : List Output) → AreNamed names (bytes ∷ more ∷ []) outputs
    → (first : Output) × (second : Output) × (outputs ≡ first ∷ second ∷ []) × (bytes ≡ first.1) × (more ≡ second.1)
two_named [] bytes more outputs h = absurd h
two_named (n ∷ names) bytes more outputs h =
    let behind = one_named names more h.0 h.2 in
    ((n, bytes), behind.0, h.1 ∙ ap (λ (rest : List Output). (n, bytes) ∷ rest) behind.1, refl, behind.2)

again : (names : List (List ℕ)) (s : Sides) (made : Made) (outputs : List Output) → AreNamed names (bytes_of s made) outputs → AreReadAgain s made outputs
again names s (machine kind m) outputs named = λ sided has.
    let one = one_named names (tabled_spelling kind m s) outputs named in
    (one.0, one.1, subst (IsReadAs kind m s) one.2 (reads_machine kind m s sided has))
again names s (meanings.text bytes) outputs named = tt
again names s (coded kind table m) outputs named = λ sided can has.
    let two = two_named names (codex_spelling kind table) (tabled_spelling kind m s) outputs named in
    (two.0, two.1, two.2, subst (IsCodexAs kind table) two.3 (reads_codex kind table can), subst (IsReadAs kind m s) two.4 (reads_machine kind m s sided has))
again names s (answered bytes expansions) outputs named = tt
again names s (separation bytes) outputs named = tt

pub written_reads_again : (plan : Plan) (told : Option Files) (outputs : List Output) (p : Prescribes plan told outputs)
    → AreReadAgain (tables_for plan p.makes.given.tables) p.made outputs
written_reads_again plan told outputs p = again (outputs_of plan) (tables_for plan p.makes.given.tables) p.made outputs p.named

-- a command that reads one machine is given what was written

same_alike : (kind : ArcType) → same_kind kind kind ≡ true
same_alike Boolean = refl
same_alike Tropical = refl
same_alike MinMax = refl
same_alike Lexicographic = refl

-- what was read, where all is of one arc type
abbrev at_once : Options → Held → Result Given Cause
at_once o held = telling faulty (given_at (kind_of o held.machines) held)

one_given : (o : Options) (name content : List ℕ) (kind : ArcType) (m : Machine Cost) (s : Sides) → IsReadAs kind m s content → length content ≤ read_limit
    → (given_by o (record { name = name; role = roles.Machine } ∷ []) (content ∷ []) nothing >>= at_once o) ≡ Ok (given_one kind m s)
unfolding put given_at
one_given o name content kind m s reads short =
    let fits : ltb read_limit (length content) ≡ false = le-ltb read_limit (length content) short in
    rw (fits, reads name, same_alike kind) refl

pub given_again : (plan : Plan) (kind : ArcType) (m : Machine Cost) (s : Sides) (content : List ℕ) → IsReadAs kind m s content
    → length content ≤ read_limit → ReadsOneMachine plan → given_of plan (content ∷ []) ≡ Ok (given_one kind m s)
given_again plan kind m s content reads short one =
    ap (λ (inputs : List Input). given_by plan.options inputs (content ∷ []) nothing >>= at_once plan.options) one.1
    ∙ one_given plan.options one.0 content kind m s reads short
