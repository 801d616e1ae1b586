-- What the words of a command line ask for.
use Rattle.std.specs.Prelude.{◌≡◌, ⊤, ℕ, ◌-◌, ◌&&◌, ◌||◌, ◌++◌, ◌==◌, Bool, true, not, List, [], ◌∷◌, length, take, drop, replicate, count_by}
use Rattle.std.specs.Prelude.{nat_le, Option, Some, None, Result, Ok, Err, is_some, option_and_then, option_to_list, codes, if◌then◌else◌}
use Rattle.std.specs.List.{filter_map, list_all, list_any}
use Rattle.std.specs.Str.{bytes_eq}
use Rattle.clap.specs.Walk.{Row}
use Rattle.fst_words.specs.declared.options.Options.{Options}
use Rattle.fst_words.specs.declared.plan.Plan.{Plan}
use Rattle.fst_words.specs.declared.fault.WordsFault.{WordsFault}
use Rattle.fst_words.specs.declared.fault.WordsFault.TheVariants.{Usage, Memory}
use Rattle.fst_words.specs.declared.verb.Verb.{Verb}
use Rattle.fst_words.specs.declared.verb.Verb.TheVariants.{Compile, Print, Push, Encode}
use Rattle.fst_words.specs.Forms.{form_of, has_rules, place_of}
use Rattle.fst_words.specs.Verbs.{verb_of}
use Rattle.fst_words.specs.Commands.{all_names, found_in, takes_names}
use Rattle.fst_words.specs.Values.{label_of, names_in, options_in, values_stand}

-- ---- the files of a plan

-- of pairs of a machine and a label, the machines
abbrev pub pair_machines : List (List ℕ) → List (List ℕ)
pair_machines [] = []
pair_machines (machine ∷ []) = []
pair_machines (machine ∷ label ∷ rest) = machine ∷ pair_machines rest

-- and the labels
abbrev pub pair_labels : List (List ℕ) → List (List ℕ)
pair_labels [] = []
pair_labels (machine ∷ []) = []
pair_labels (machine ∷ label ∷ rest) = label ∷ pair_labels rest

-- the place of the first name that is stored, of n names: in front of it stand the inputs, or the rules
abbrev pub output_place : Verb → (decode : Bool) → (n : ℕ) → ℕ
output_place verb decode n = place_of (form_of verb).shape decode n

-- the names are rules, each a machine and a label, and then an output
abbrev pub is_replace : Verb → Bool
is_replace verb = has_rules (form_of verb).shape

abbrev pub output_place_of : Plan → ℕ
output_place_of plan = output_place plan.command plan.options.decode (length plan.names)

-- the names of the files that are stored, in order
unfoldable pub outputs_of : Plan → List (List ℕ)
outputs_of plan = drop (output_place_of plan) plan.names

-- the names of the input files, in the order of the words
abbrev pub input_files : Plan → List (List ℕ)
input_files plan =
    if is_replace plan.command then pair_machines plan.names else take (output_place_of plan) plan.names

-- the names of the option files, in the order in which they are fetched; a file that two options name stands twice
abbrev pub option_files : Options → List (List ℕ)
option_files o = option_to_list o.isymbols ++ (option_to_list o.osymbols ++ (option_to_list o.relabel_ipairs ++ option_to_list o.relabel_opairs))

-- the names of the files that are fetched, in order, as often as the words name them
unfoldable pub inputs_of : Plan → List (List ℕ)
inputs_of plan = option_files plan.options ++ input_files plan

-- the labels of the rules of `replace`, in order; other commands have none
abbrev pub rule_labels : Plan → List ℕ
rule_labels plan = if is_replace plan.command then filter_map label_of (pair_labels plan.names) else []

-- ---- the rules

-- no two texts are equal
abbrev pub texts_differ : List (List ℕ) → Bool
texts_differ [] = true
texts_differ (text ∷ texts) = not (list_any (λ other. bytes_eq other text) texts) && texts_differ texts

-- no two numbers are equal
abbrev pub numbers_differ : List ℕ → Bool
numbers_differ [] = true
numbers_differ (n ∷ ns) = not (list_any (λ m. n == m) ns) && numbers_differ ns

-- `-` stands for the standard streams
abbrev pub is_dash : List ℕ → Bool
is_dash name = bytes_eq name (codes "-")

-- the flags that a command needs, those that do not stand together, and those that stand beside an option alone, or never
abbrev pub flags_fit : Verb → Options → Bool
flags_fit Compile o = (not o.keep_isymbols || is_some o.isymbols) && (not o.keep_osymbols || is_some o.osymbols)
flags_fit Print o = not o.numeric || not (is_some o.isymbols || is_some o.osymbols)
flags_fit Push o = o.push_weights
flags_fit Encode o = if o.decode then not o.encode_labels && not o.encode_weights else o.encode_labels
flags_fit _ o = true

-- the texts are labels, and no two are the same
abbrev pub are_labels : List (List ℕ) → Bool
are_labels texts = list_all (λ t. is_some (label_of t)) texts && numbers_differ (filter_map label_of texts)

abbrev pub labels_fit : Plan → Bool
labels_fit plan = not (is_replace plan.command) || are_labels (pair_labels plan.names)

-- `-` is the name of at most one of the files that are fetched, also where two options name one file
abbrev pub inputs_fit : Plan → Bool
inputs_fit plan = nat_le (count_by is_dash (inputs_of plan)) 1

-- the files that are stored have different names
abbrev pub outputs_fit : Plan → Bool
outputs_fit plan = texts_differ (outputs_of plan)

unfoldable pub is_allowed : Plan → Bool
is_allowed plan = flags_fit plan.command plan.options && (labels_fit plan && (inputs_fit plan && outputs_fit plan))

-- ---- the plan of the words

-- the names with `-` for each that is missing
unfoldable pub filled : Verb → List (List ℕ) → List (List ℕ)
filled verb names = names ++ replicate (all_names verb (length names) - length names) (codes "-")

-- the plan of a command and what was found in its words
abbrev pub plan_with : Verb → List Row → Plan
plan_with verb rows = record { command = verb; names = filled verb (names_in rows); options = options_in rows }

unfoldable pub plan_found : Verb → List Row → Option Plan
plan_found verb rows =
    if takes_names verb (length (names_in rows)) && (values_stand rows && is_allowed (plan_with verb rows))
    then Some (plan_with verb rows) else None

-- the plan of a command's words, the first of which names it
unfoldable pub plan_by : Verb → List (List ℕ) → Option Plan
plan_by verb words = option_and_then (plan_found verb) (found_in verb words)

-- what the words ask for, where they are words of a command
unfoldable pub plan_of : List (List ℕ) → Option Plan
plan_of [] = None
plan_of (word ∷ rest) = option_and_then (λ verb. plan_by verb (word ∷ rest)) (verb_of word)

-- ---- the answer to the words

-- the answer is the one that is wanted; want of memory may stand in its place
abbrev pub Answers : {X : Type 0} → Option X → Result X WordsFault → Type 0
Answers wanted (Ok x) = wanted ≡ Some x
Answers wanted (Err Usage) = wanted ≡ None
Answers wanted (Err Memory) = ⊤
