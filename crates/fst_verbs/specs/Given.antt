-- What a command is given: what the contents of its inputs stand for, each judged before the next is read, and all
-- machines of one arc type; or the first cause. Reading is a function, so that the first cause is the order of its steps.
use Rattle.std.specs.Prelude.{ℕ, List, [], ◌∷◌, ◌++◌, ◌==◌, length, Option, Some, None, Result, Ok, Err, nat_lt, unwrap_or, codes, if◌then◌else◌}
use Rattle.fst_fields.specs.Reading.{◌>>=◌}
use Rattle.fst_semiring.specs.declared.arc_type.ArcType.{ArcType}
use Rattle.fst_semiring.specs.declared.arc_type.ArcType.TheVariants.{Tropical}
use Rattle.fst_semiring.specs.Cost.{Cost}
use Rattle.fst_machine.specs.Machine.{Machine}
use Rattle.fst_symbols.specs.Symbols.{Symbol}
use Rattle.fst_symbols.specs.Reading.{table_of_text}
use Rattle.fst_symbols.specs.Faults as symbols
use Rattle.fst_rational.specs.Labels.{Pair}
use Rattle.fst_rational.specs.Pairs.{pairs_of_text}
use Rattle.fst_rational.specs.Faults as pairs
use Rattle.fst_text.specs.Options as text
use Rattle.fst_text.specs.Faults as texts
use Rattle.fst_binary.specs.Faults as binary
use Rattle.fst_binary.specs.Sides.{Sides, neither}
use Rattle.fst_codex.specs.Faults as codices
use Rattle.fst_codex.specs.Table.{Table}
use Rattle.fst_any.specs.Typed.{Typed, TypedCodex, TypedTabled, codex_of_file, machine_of_file, typed_machine_of_text}
use Rattle.fst_any.specs.Taken.{codex_as, machines_as}
use Rattle.fst_words.specs.declared.form.Role.{Role}
use Rattle.fst_words.specs.declared.form.Role.TheVariants.{InputSymbols, OutputSymbols, BothSymbols, InputPairs, OutputPairs, Text, Machine as MachineRole, Codex, Lines}
use Rattle.fst_words.specs.declared.options.Options.{Options}
use Rattle.fst_words.specs.declared.plan.Plan.{Plan}
use Rattle.fst_words.specs.Inputs.{Input, plan_inputs}
use Rattle.fst_verbs.specs.Causes.{Cause, Fault, faulty, kinds_differ, misread, too_long}

-- the most bytes that are read of an input: the largest machine of every arc type fits
abbrev pub read_limit : ℕ
read_limit = 1342177280

-- the symbol tables that were read: those of the options, and those that the first machine and the last one carry
pub record Tables : Type 0 where
  pub isymbols : Option (List Symbol)
  pub osymbols : Option (List Symbol)
  pub first : Sides
  pub last : Sides

-- what was read, each machine with its arc type
pub record Held : Type 0 where
  pub tables : Tables
  pub ipairs : List Pair
  pub opairs : List Pair
  pub lines : List ℕ
  pub machines : List Typed
  pub codex : Option TypedCodex

-- what a command is given: the files of its options, and what it works on, all of one arc type
pub record Given : Type 0 where
  pub kind : ArcType
  pub tables : Tables
  pub ipairs : List Pair
  pub opairs : List Pair
  pub lines : List ℕ
  pub machines : List (Machine Cost)
  pub codex : Option (Table Cost)

-- no symbol table is read yet, and nothing is
abbrev pub no_tables : Tables
no_tables = record { isymbols = None; osymbols = None; first = neither; last = neither }

abbrev pub nothing : Held
nothing = record { tables = no_tables; ipairs = []; opairs = []; lines = []; machines = []; codex = None }

-- ---- the content of one input

-- what was read, or what is told of its fault
abbrev pub telling : {X E F : Type 0} → (E → F) → Result X E → Result X F
telling tell (Ok x) = Ok x
telling tell (Err fault) = Err (tell fault)

-- a symbol table, pairs, a text, a machine in the binary form and a codex, by the name of the file and its content
unfoldable pub table_in : List ℕ → List ℕ → Result (List Symbol) Fault
table_in name content = telling (λ fault. misread name (codes "line") (symbols.line_of fault) (symbols.reason_of fault)) (table_of_text content)

unfoldable pub pairs_in : List ℕ → List ℕ → Result (List Pair) Fault
pairs_in name content = telling (λ fault. misread name (codes "line") (pairs.line_of fault) (pairs.reason_of fault)) (pairs_of_text content)

unfoldable pub text_in : ArcType → text.Options → List ℕ → List ℕ → Result Typed Fault
text_in kind choices name content =
    telling (λ fault. misread name (codes "line") (texts.line_of fault) (texts.reason_of fault)) (typed_machine_of_text kind choices content)

unfoldable pub machine_in : List ℕ → List ℕ → Result TypedTabled Fault
machine_in name content = telling (λ fault. misread name (codes "byte") fault.offset (binary.reason_of fault.kind)) (machine_of_file content)

unfoldable pub codex_in : List ℕ → List ℕ → Result TypedCodex Fault
codex_in name content = telling (λ fault. misread name (codes "byte") fault.offset (codices.reason_of fault.kind)) (codex_of_file content)

-- the arc type of a machine that is made without a machine
abbrev pub arc_type_of : Options → ArcType
arc_type_of options = unwrap_or options.arc_type Tropical

-- how texts are read and printed
abbrev pub choices_by : Options → Option (List Symbol) → Option (List Symbol) → text.Options
choices_by o isymbols osymbols = record {
  acceptor = o.acceptor;
  keep_state_numbering = o.keep_state_numbering;
  show_weight_one = o.show_weight_one;
  isymbols = isymbols;
  osymbols = osymbols;
}

-- the tables of the options, where those of a side are read, or one for both sides
abbrev pub with_input : List Symbol → Tables → Tables
with_input table t = record t { isymbols = Some table }

abbrev pub with_output : List Symbol → Tables → Tables
with_output table t = record t { osymbols = Some table }

abbrev pub with_both : List Symbol → Tables → Tables
with_both table t = record t { isymbols = Some table; osymbols = Some table }

-- and where a machine is read that carries these, after so many others
abbrev pub with_carried : ℕ → Sides → Tables → Tables
with_carried before own t = if before == 0 then record t { first = own; last = own } else record t { last = own }

-- the content of an input, put beside what stands before it, by what the input is for
unfoldable pub put : Options → Role → List ℕ → List ℕ → Held → Result Held Fault
put o InputSymbols name content held = table_in name content >>= λ table. Ok (record held { tables = with_input table held.tables })
put o OutputSymbols name content held = table_in name content >>= λ table. Ok (record held { tables = with_output table held.tables })
put o BothSymbols name content held = table_in name content >>= λ table. Ok (record held { tables = with_both table held.tables })
put o InputPairs name content held = pairs_in name content >>= λ read. Ok (record held { ipairs = read })
put o OutputPairs name content held = pairs_in name content >>= λ read. Ok (record held { opairs = read })
put o Text name content held =
    text_in (arc_type_of o) (choices_by o held.tables.isymbols held.tables.osymbols) name content >>= λ m. Ok (record held { machines = held.machines ++ m ∷ [] })
put o MachineRole name content held = machine_in name content >>= λ t. Ok (record held { tables = with_carried (length held.machines) t.sides held.tables; machines = held.machines ++ t.typed ∷ [] })
put o Codex name content held = codex_in name content >>= λ c. Ok (record held { codex = Some c })
put o Lines name content held = Ok (record held { lines = content })

-- ---- all inputs

-- the contents of inputs, put beside what stands before them: the first that is too long, or has a fault, is the cause
abbrev pub given_by : Options → List Input → List (List ℕ) → Held → Result Held Cause
given_by o [] contents held = Ok held
given_by o (i ∷ is) [] held = Ok held
given_by o (i ∷ is) (c ∷ cs) held =
    if nat_lt read_limit (length c) then Err (too_long i.name) else (telling faulty (put o i.role i.name c held) >>= λ more. given_by o is cs more)

-- the arc type: that of the first machine, or of the options where there is none
abbrev pub kind_of : Options → List Typed → ArcType
kind_of o [] = arc_type_of o
kind_of o (m ∷ ms) = m.kind

abbrev pub codex_at : ArcType → Option TypedCodex → Result (Option (Table Cost)) ArcType
codex_at kind None = Ok None
codex_at kind (Some c) = codex_as kind c >>= λ table. Ok (Some table)

-- what was read, all of one arc type: the first machine of another, or else a codex of another, is the fault
unfoldable pub given_at : ArcType → Held → Result Given Fault
given_at kind held = do
  machines ← telling (kinds_differ kind) (machines_as kind held.machines)
  codex ← telling (kinds_differ kind) (codex_at kind held.codex)
  Ok (record {
    kind = kind;
    tables = held.tables;
    ipairs = held.ipairs;
    opairs = held.opairs;
    lines = held.lines;
    machines = machines;
    codex = codex;
  })

-- what a command is given, by the contents of its inputs
abbrev pub given_of : Plan → List (List ℕ) → Result Given Cause
given_of plan contents =
    given_by plan.options (plan_inputs plan) contents nothing >>= λ held.
    telling faulty (given_at (kind_of plan.options held.machines) held)
