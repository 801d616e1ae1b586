-- What a command takes: its options with a value, its flags, and how many names. What it then takes of the words is
-- `clap`'s own function of them, at a command with these options, these flags and one positional argument of several
-- values.
use Rattle.std.specs.Prelude.{ℕ, ◌&&◌, Bool, true, false, List, fold, nat_le, Option, Some, None, codes, if◌then◌else◌}
use Rattle.clap.specs.Faults.{fault_of}
use Rattle.clap.specs.Simple.{App, matches_of, new_app, new_rule, on_top, with_rule}
use Rattle.clap.specs.Walk.{Row, Rule, is_empty}
use Rattle.clap.specs.declared.builder.action.ArgAction.TheVariants.{Append, Set, SetTrue}
use Rattle.fst_words.specs.declared.verb.Verb.{Verb}
use Rattle.fst_words.specs.Forms.{all_of, form_of, least_of}

-- the options with a value
abbrev pub options_of : Verb → List (List ℕ)
options_of verb = (form_of verb).options

-- the flags, which have no value
abbrev pub flags_of : Verb → List (List ℕ)
flags_of verb = (form_of verb).flags

-- how many names must be given
abbrev pub least_names : Verb → ℕ
least_names verb = least_of (form_of verb).shape

-- how many names there are where n are given, with those that are missing
abbrev pub all_names : Verb → ℕ → ℕ
all_names verb n = all_of (form_of verb).shape n

-- the command takes n names
abbrev pub takes_names : Verb → ℕ → Bool
takes_names verb n = nat_le (least_names verb) n && nat_le n (all_names verb n)

-- ---- the command of `clap`

-- an option with a value, which stands after `=` or is the next word, or a flag
abbrev pub argument_rule : (valued : Bool) → List ℕ → Rule
argument_rule true name = record (new_rule name) { long = Some name; action = Some Set }
argument_rule false name = record (new_rule name) { long = Some name; action = Some SetTrue }

-- the positional argument, which takes several values
abbrev pub names_rule : Rule
names_rule = record (new_rule (codes "names")) { action = Some Append }

-- a command without options, to which help is a word like any other
abbrev pub bare_app : App
bare_app = on_top (λ s. record s { disable_help_flag = true }) (new_app (codes "fst"))

-- a command with more arguments
abbrev pub with_arguments : (valued : Bool) → App → List (List ℕ) → App
with_arguments valued = fold (λ a name. with_rule a (argument_rule valued name))

unfoldable pub app_of_verb : Verb → App
app_of_verb verb = with_rule (with_arguments false (with_arguments true bare_app (options_of verb)) (flags_of verb)) names_rule

-- what `clap` finds in the words, the first of which is the command's name, where it takes them
unfoldable pub found_in : Verb → List (List ℕ) → Option (List Row)
found_in verb words = if is_empty (fault_of (app_of_verb verb) words) then Some (matches_of (app_of_verb verb) words) else None
