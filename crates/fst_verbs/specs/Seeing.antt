-- What the code holds, seen as what the definitions speak of.
use Rattle.std.specs.Prelude.{List, [], Option, None, map}
use Rattle.std.specs.Option.{option_map, option_map_or, option_or}
use Rattle.fst_semiring.specs.declared.arc_type.ArcType.{ArcType}
use Rattle.fst_semiring.specs.Cost.{Cost}
use Rattle.fst_machine.specs.Machine.{Machine, valued}
use Rattle.fst_codex.specs.Table.{valued_table}
use Rattle.fst_symbols.specs.Symbols.{Symbol}
use Rattle.fst_binary.specs.Sides.{Sides}
use Rattle.fst_verbs.specs.Given.{Given, Tables, no_tables}
use Rattle.fst_verbs.specs.Meaning.{Made, answered, coded, machine, separation, text}
use Rattle.fst_verbs.specs.declared.tables.Carried.{Carried}
use Rattle.fst_verbs.specs.declared.tables.Tables.{Tables as DeclaredTables}
use Rattle.fst_verbs.specs.declared.given.Given.{Given as DeclaredGiven}
use Rattle.fst_verbs.specs.declared.outputs.Made.{Made as DeclaredMade}
use Rattle.fst_verbs.specs.declared.outputs.Made.TheVariants as made

-- the names of the labels of each side: those of its own table, or else of the table of both sides
abbrev pub input_names : DeclaredTables → Option (List Symbol)
input_names t = option_or t.input t.shared

abbrev pub output_names : DeclaredTables → Option (List Symbol)
output_names t = option_or t.output t.shared

-- those that a machine carries
abbrev pub sides_of : Carried → Sides
sides_of c = record { isymbols = c.isymbols; osymbols = c.osymbols }

-- all symbol tables that were read: where one machine was, it is the first and the last
abbrev pub tables_seen : DeclaredTables → Tables
tables_seen t = record { isymbols = input_names t; osymbols = output_names t; first = sides_of t.first; last = option_map_or sides_of t.last (sides_of t.first) }

-- what a command is given beside the symbol tables
abbrev pub given_seen : {W X : Type 0} → ArcType → (W → Cost) → DeclaredGiven W X → Given
given_seen kind value g = record {
  kind = kind;
  tables = no_tables;
  ipairs = g.ipairs;
  opairs = g.opairs;
  lines = g.lines.items;
  machines = map (valued value) g.machines.items;
  codex = option_map (valued_table value) g.codex;
}

-- and with them
abbrev pub given_with : {W X : Type 0} → DeclaredTables → ArcType → (W → Cost) → DeclaredGiven W X → Given
given_with t kind value g = record (given_seen kind value g) { tables = tables_seen t }

-- what it makes
abbrev pub made_seen : {W X : Type 0} → ArcType → (W → Cost) → DeclaredMade W X → Made
made_seen kind value (made.Machine m) = machine kind (valued value m)
made_seen kind value (made.Joined m) = machine kind (valued value m)
made_seen kind value (made.Text bytes) = text bytes.items
made_seen kind value (made.Coded table m) = coded kind (valued_table value table) (valued value m)
made_seen kind value (made.Answered bytes expansions) = answered bytes.items expansions
made_seen kind value (made.Separation bytes) = separation bytes.items

-- what a command is given where it is machines alone, and where the new labels of both sides, the symbol tables, or a
-- codex stand beside them
abbrev pub just : ArcType → List (Machine Cost) → Given
just kind machines = record { kind = kind; tables = no_tables; ipairs = []; opairs = []; lines = []; machines = machines; codex = None }
