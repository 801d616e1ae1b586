-- The inputs of a plan, in the order in which they are read: the files of the options come first.
use Rattle.std.specs.Prelude.{ℕ, suc, Bool, true, false, List, [], ◌∷◌, ◌++◌, length, Option, Some, None, if◌then◌else◌}
use Rattle.std.specs.Str.{bytes_eq}
use Rattle.fst_words.specs.declared.form.Role.{Role}
use Rattle.fst_words.specs.declared.form.Role.TheVariants as roles
use Rattle.fst_words.specs.declared.form.Role.TheVariants.{InputSymbols, OutputSymbols, BothSymbols, InputPairs, OutputPairs}
use Rattle.fst_words.specs.declared.form.Shape.{Shape}
use Rattle.fst_words.specs.declared.inputs.Input as declared
use Rattle.fst_words.specs.declared.options.Options.{Options}
use Rattle.fst_words.specs.declared.plan.Plan.{Plan}
use Rattle.fst_words.specs.Forms.{facts_of, form_of, role_of}
use Rattle.fst_words.specs.Plans.{input_files}

-- an input: the name of a file, and what it is for
pub record Input : Type 0 where
  pub name : List ℕ
  pub role : Role

-- the file of an option, where the option stands
abbrev pub option_input : Role → Option (List ℕ) → List Input
option_input role None = []
option_input role (Some name) = record { name = name; role = role } ∷ []

-- both options stand, and name the same file
abbrev pub is_one_file : Option (List ℕ) → Option (List ℕ) → Bool
is_one_file None second = false
is_one_file (Some first) None = false
is_one_file (Some first) (Some second) = bytes_eq first second

-- the files of the symbol tables: one that both options name is one input, and serves both sides
abbrev pub table_inputs : Option (List ℕ) → Option (List ℕ) → List Input
table_inputs isymbols osymbols =
    if is_one_file isymbols osymbols then option_input BothSymbols isymbols
    else option_input InputSymbols isymbols ++ option_input OutputSymbols osymbols

-- the files of the options
abbrev pub option_inputs : Options → List Input
option_inputs o = table_inputs o.isymbols o.osymbols ++ (option_input InputPairs o.relabel_ipairs ++ option_input OutputPairs o.relabel_opairs)

-- files of its own that a command fetches, by their places from this one on
abbrev pub inputs_from : Shape → ℕ → List (List ℕ) → List Input
inputs_from shape place [] = []
inputs_from shape place (name ∷ names) = record { name = name; role = role_of shape place } ∷ inputs_from shape (suc place) names

-- the files of its own that a command fetches
abbrev pub own_inputs : Plan → List Input
own_inputs plan = inputs_from (form_of plan.command).shape 0 (input_files plan)

-- the inputs
abbrev pub plan_inputs : Plan → List Input
plan_inputs plan = option_inputs plan.options ++ own_inputs plan

-- what an input holds
abbrev pub input_seen : declared.Input → Input
input_seen i = record { name = i.name.now; role = i.role }

-- ---- how many there are

-- a machine, as text or in the binary form
abbrev pub is_machine : Role → Bool
is_machine InputSymbols = false
is_machine OutputSymbols = false
is_machine BothSymbols = false
is_machine InputPairs = false
is_machine OutputPairs = false
is_machine roles.Text = true
is_machine roles.Machine = true
is_machine roles.Codex = false
is_machine roles.Lines = false

-- a codex
abbrev pub is_codex : Role → Bool
is_codex InputSymbols = false
is_codex OutputSymbols = false
is_codex BothSymbols = false
is_codex InputPairs = false
is_codex OutputPairs = false
is_codex roles.Text = false
is_codex roles.Machine = false
is_codex roles.Codex = true
is_codex roles.Lines = false

-- how many machines a command fetches, whether a codex, and how many files it stores, by the shape of its names
abbrev pub machines_by : Shape → (names : ℕ) → ℕ
machines_by shape names = (facts_of shape).machines names

abbrev pub codex_by : Shape → (decode : Bool) → Bool
codex_by shape decode = (facts_of shape).codex decode

abbrev pub stored_by : Shape → (decode : Bool) → ℕ
stored_by shape decode = (facts_of shape).stored decode

-- whether a command runs lines through a cascade, and expands its states
abbrev pub expands_by : Shape → Bool
expands_by shape = (facts_of shape).expands

abbrev pub machine_count : Plan → ℕ
machine_count plan = machines_by (form_of plan.command).shape (length plan.names)

abbrev pub has_codex : Plan → Bool
has_codex plan = codex_by (form_of plan.command).shape plan.options.decode

abbrev pub expands : Plan → Bool
expands plan = expands_by (form_of plan.command).shape

abbrev pub stored_count : Plan → ℕ
stored_count plan = stored_by (form_of plan.command).shape plan.options.decode

-- of inputs, the machines, and whether a codex is among them
abbrev pub count_machines : List Input → ℕ
count_machines [] = 0
count_machines (i ∷ is) = if is_machine i.role then suc (count_machines is) else count_machines is

abbrev pub any_codex : List Input → Bool
any_codex [] = false
any_codex (i ∷ is) = if is_codex i.role then true else any_codex is
