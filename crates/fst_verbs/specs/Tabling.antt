-- The symbol tables that the machine of an output carries: a row for what a command's column says. (OpenFst, `fst.h`: an
-- operation passes its first machine's symbols on; `invert` exchanges them, `project` keeps those of one side, and `compose`
-- takes the outer ones. This project compares no two tables.)
use Rattle.std.specs.Prelude.{List, Option, None, Bool, if◌then◌else◌}
use Rattle.fst_symbols.specs.Symbols.{Symbol}
use Rattle.fst_binary.specs.Sides.{Sides, neither}
use Rattle.fst_words.specs.declared.form.Carries.{Carries}
use Rattle.fst_words.specs.declared.form.Carries.TheVariants.{Nothing, Kept, First, Exchanged, OneSide, Outer}
use Rattle.fst_words.specs.declared.options.Options.{Options}
use Rattle.fst_words.specs.declared.plan.Plan.{Plan}
use Rattle.fst_words.specs.Forms.{carries_of}
use Rattle.fst_verbs.specs.Given.{Tables}

-- a table that is kept, or none
abbrev pub kept_if : Bool → Option (List Symbol) → Option (List Symbol)
kept_if keep table = if keep then table else None

-- the same table on both sides
abbrev pub twice : Option (List Symbol) → Sides
twice table = record { isymbols = table; osymbols = table }

abbrev pub tables_by : Carries → Options → Tables → Sides
tables_by Nothing o t = neither
tables_by Kept o t = record { isymbols = kept_if o.keep_isymbols t.isymbols; osymbols = kept_if o.keep_osymbols t.osymbols }
tables_by First o t = t.first
tables_by Exchanged o t = record { isymbols = t.first.osymbols; osymbols = t.first.isymbols }
tables_by OneSide o t = twice (if o.project_output then t.first.osymbols else t.first.isymbols)
tables_by Outer o t = record { isymbols = t.first.isymbols; osymbols = t.last.osymbols }

-- those of a plan's output
abbrev pub tables_for : Plan → Tables → Sides
tables_for plan t = tables_by (carries_of plan.command) plan.options t
