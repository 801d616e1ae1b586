-- The values of the options, as they were found.
use Rattle.std.specs.Prelude.{ℕ, ◌&&◌, Bool, true, false, List, [], ◌∷◌, nat_le, Option, Some, None, is_some, option_and_then, unwrap_or, codes, if◌then◌else◌}
use Rattle.std.specs.List.{list_any}
use Rattle.std.specs.Option.{option_map_or}
use Rattle.std.specs.Str.{bytes_eq}
use Rattle.clap.specs.Walk.{Row, all_of, first_of}
use Rattle.fst_fields.specs.Decimal.{natural_of_text}
use Rattle.fst_semiring.specs.declared.arc_type.ArcType.{ArcType}
use Rattle.fst_semiring.specs.Names.{named}
use Rattle.fst_words.specs.declared.options.Options.{Options}

-- the number, where it lies in the range
abbrev pub within : ℕ → ℕ → ℕ → Option ℕ
within low high n = if nat_le low n && nat_le n high then Some n else None

-- a number of an option: one to twenty decimal digits, in the range
unfoldable pub number_in : ℕ → ℕ → List ℕ → Option ℕ
number_in low high text = option_and_then (within low high) (natural_of_text 20 text)

abbrev pub max_states_of : List ℕ → Option ℕ
max_states_of = number_in 1 4194304

abbrev pub nshortest_of : List ℕ → Option ℕ
nshortest_of = number_in 1 100000

abbrev pub workers_of : List ℕ → Option ℕ
workers_of = number_in 1 64

abbrev pub seed_of : List ℕ → Option ℕ
seed_of = number_in 0 18446744073709551615

abbrev pub lines_of : List ℕ → Option ℕ
lines_of = number_in 0 10000

-- a label of `replace`: one to eighteen decimal digits, not 0, and no greater than the greatest label
unfoldable pub label_of : List ℕ → Option ℕ
label_of text = option_and_then (within 1 2147483647) (natural_of_text 18 text)

-- the arc type of this name
abbrev pub arc_type_of : List ℕ → Option ArcType
arc_type_of = named

-- the text is one of these words
abbrev pub is_among : List (List ℕ) → List ℕ → Bool
is_among words text = list_any (λ word. bytes_eq word text) words

abbrev pub is_sort_type : List ℕ → Bool
is_sort_type = is_among (codes "ilabel" ∷ codes "olabel" ∷ [])

abbrev pub is_truth_value : List ℕ → Bool
is_truth_value = is_among (codes "true" ∷ codes "false" ∷ [])

abbrev pub is_queue_type : List ℕ → Bool
is_queue_type = is_among (codes "auto" ∷ codes "fifo" ∷ codes "lifo" ∷ codes "shortest" ∷ [])

-- ---- the options that were found

-- the text of an option
abbrev pub text_in : List ℕ → List Row → Option (List ℕ)
text_in id rows = first_of id rows

-- the flag stands
abbrev pub flag_in : List ℕ → List Row → Bool
flag_in id rows = option_map_or (λ text. bytes_eq text (codes "true")) (first_of id rows) false

-- the names, in the order of the words
abbrev pub names_in : List Row → List (List ℕ)
names_in rows = unwrap_or (all_of (codes "names") rows) []

-- the value that its text stands for
abbrev pub value_in : {X : Type 0} → (List ℕ → Option X) → List ℕ → List Row → Option X
value_in value_of id rows = option_and_then value_of (first_of id rows)

-- an option that stands has a text that passes
abbrev pub passes_at : (List ℕ → Bool) → List ℕ → List Row → Bool
passes_at test id rows = option_map_or test (first_of id rows) true

-- an option that stands has a value
abbrev pub reads_at : {X : Type 0} → (List ℕ → Option X) → List ℕ → List Row → Bool
reads_at value_of id rows = option_map_or (λ text. is_some (value_of text)) (first_of id rows) true

abbrev pub words_stand : List Row → Bool
words_stand rows =
    passes_at is_sort_type (codes "sort_type") rows
    && (passes_at is_truth_value (codes "connect") rows
    && (passes_at is_queue_type (codes "queue_type") rows
    && reads_at arc_type_of (codes "arc_type") rows))

abbrev pub numbers_stand : List Row → Bool
numbers_stand rows =
    reads_at max_states_of (codes "max_states") rows
    && (reads_at nshortest_of (codes "nshortest") rows
    && (reads_at workers_of (codes "workers") rows
    && (reads_at seed_of (codes "seed") rows
    && reads_at lines_of (codes "lines") rows)))

-- each option that stands has a value that it may have
unfoldable pub values_stand : List Row → Bool
values_stand rows = words_stand rows && numbers_stand rows

-- the options; one that does not stand is None, or false
unfoldable pub options_in : List Row → Options
options_in rows = record {
  arc_type = value_in arc_type_of (codes "arc_type") rows;
  acceptor = flag_in (codes "acceptor") rows;
  keep_state_numbering = flag_in (codes "keep_state_numbering") rows;
  show_weight_one = flag_in (codes "show_weight_one") rows;
  isymbols = text_in (codes "isymbols") rows;
  osymbols = text_in (codes "osymbols") rows;
  keep_isymbols = flag_in (codes "keep_isymbols") rows;
  keep_osymbols = flag_in (codes "keep_osymbols") rows;
  numeric = flag_in (codes "numeric") rows;
  closure_plus = flag_in (codes "closure_plus") rows;
  project_output = flag_in (codes "project_output") rows;
  relabel_ipairs = text_in (codes "relabel_ipairs") rows;
  relabel_opairs = text_in (codes "relabel_opairs") rows;
  sort_type = text_in (codes "sort_type") rows;
  connect = text_in (codes "connect") rows;
  max_states = value_in max_states_of (codes "max_states") rows;
  queue_type = text_in (codes "queue_type") rows;
  weight = text_in (codes "weight") rows;
  reverse = flag_in (codes "reverse") rows;
  nshortest = value_in nshortest_of (codes "nshortest") rows;
  unique = flag_in (codes "unique") rows;
  push_weights = flag_in (codes "push_weights") rows;
  remove_total_weight = flag_in (codes "remove_total_weight") rows;
  encode_labels = flag_in (codes "encode_labels") rows;
  encode_weights = flag_in (codes "encode_weights") rows;
  decode = flag_in (codes "decode") rows;
  workers = value_in workers_of (codes "workers") rows;
  summary = flag_in (codes "summary") rows;
  seed = value_in seed_of (codes "seed") rows;
  lines = value_in lines_of (codes "lines") rows;
}
