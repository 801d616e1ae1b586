-- The names of the commands, and the command that a first word names, with or without `fst` in front.
use Rattle.std.specs.Prelude.{ℕ, List, drop, find, map, nat_eq, Option, codes, if◌then◌else◌}
use Rattle.std.specs.List.{starts_with}
use Rattle.std.specs.Str.{bytes_eq}
use Rattle.fst_words.specs.declared.form.TheConstants.{ROWS}
use Rattle.fst_words.specs.declared.verb.Verb.{Verb}
use Rattle.fst_words.specs.Forms.{form_of}

-- the name of a command
abbrev pub name_of : Verb → List ℕ
name_of verb = (form_of verb).name

-- the commands, in the order in which they are tried: those of the rows in the code. No row is missing: each command is
-- found by its name (`NamesAreKnown` of `PlanLaws`).
abbrev pub all_verbs : List Verb
all_verbs = map (λ row. row.0) ROWS.now

-- the command that has this name
unfoldable pub verb_named : List ℕ → Option Verb
verb_named name = find (λ v. bytes_eq (name_of v) name) all_verbs

-- the word without one `fst` in front, where it has one
abbrev pub without_prefix : List ℕ → List ℕ
without_prefix word = if starts_with nat_eq word (codes "fst") then drop 3 word else word

-- the command that a first word names
abbrev pub verb_of : List ℕ → Option Verb
verb_of word = verb_named (without_prefix word)
