-- The text form of a machine: which texts have it, what they say, and the first fault of the others.
-- (OpenFst Quick Tour, "Creating FSTs". The limits and the numbers of digits are this project's own.)
use Rattle.std.specs.Prelude.{ℕ, ◌+◌, Bool, List, [], ◌∷◌, ◌++◌, length, map, nat_le, nat_lt, Option, Some, None, Result, Ok, Err, if◌then◌else◌}
use Rattle.std.specs.List.{flat_map}
use Rattle.fst_fields.specs.Lines.{lines_of, fields_of}
use Rattle.fst_fields.specs.Reading as reading
use Rattle.fst_fields.specs.Reading.{◌>>=◌}
use Rattle.fst_fields.specs.Decimal.{label_of_text, natural_of_text}
use Rattle.fst_symbols.specs.Symbols.{Symbol, number_of}
use Rattle.fst_semiring.specs.declared.arc_type.ArcType.{ArcType}
use Rattle.fst_semiring.specs.Cost.{Cost, best, finite, infinite}
use Rattle.fst_semiring.specs.Semiring.{one_of}
use Rattle.fst_semiring.specs.WeightText.{cost_of_text}
use Rattle.fst_machine.specs.Machine.{Machine, most_arcs, most_states}
use Rattle.fst_text.specs.declared.fault.TextFault.{TextFault}
use Rattle.fst_text.specs.declared.fault.TextFault.TheVariants.{BadColumns, BadState, BadLabel, UnknownSymbol, BadWeight, TooManyStates, TooManyArcs, Memory}
use Rattle.fst_text.specs.Options.{Options}
use Rattle.fst_text.specs.Entries.{Entry, arc_count, arc_entry, final_entry, states_named, state_numbers, machine_of_entries}

-- What still fits into a machine: a state with this number, states with these two numbers, one more arc.
pub record Room : Type 0 where
  pub state : ℕ → Bool
  pub states : ℕ → ℕ → Bool
  pub arc : Bool

-- a state field is a number of one to eighteen digits for which there is room
abbrev pub state_of_field : ℕ → (ℕ → Bool) → List ℕ → Result ℕ TextFault
state_of_field line room field = elim (natural_of_text 18 field) [ None ↦ Err (BadState line) | Some n ↦ if room n then Ok n else Err (TooManyStates line) ]

-- a label field is a name of its side's symbol table where there is one, and else a label number
abbrev pub label_of_field : Option (List Symbol) → ℕ → List ℕ → Result ℕ TextFault
label_of_field None line field = elim (label_of_text field) [ None ↦ Err (BadLabel line) | Some n ↦ Ok n ]
label_of_field (Some symbols) line field = elim (number_of symbols field) [ None ↦ Err (UnknownSymbol line) | Some n ↦ Ok n ]

-- the output label of an arc, behind its input label; where it has no field of its own, the arc has one label
abbrev pub output_label : Option (List Symbol) → ℕ → ℕ → Option (List ℕ) → Result ℕ TextFault
output_label symbols line label None = Ok label
output_label symbols line label (Some field) = label_of_field symbols line field

-- a weight field is a weight text of the arc type; a missing one is One
abbrev pub weight_of_field : ArcType → ℕ → Option (List ℕ) → Result Cost TextFault
weight_of_field kind line None = Ok (one_of kind)
weight_of_field kind line (Some field) = elim (cost_of_text kind field) [ None ↦ Err (BadWeight line) | Some w ↦ Ok w ]

-- no arc has weight Zero
abbrev pub not_zero : ℕ → Cost → Result Cost TextFault
not_zero line best = Ok best
not_zero line (finite a b) = Ok (finite a b)
not_zero line infinite = Err (BadWeight line)

-- the weight field of an arc
abbrev pub arc_weight_of_field : ArcType → ℕ → Option (List ℕ) → Result Cost TextFault
arc_weight_of_field kind line field = weight_of_field kind line field >>= not_zero line

-- an arc line by its fields
unfoldable pub arc_line : ArcType → Options → ℕ → Room → (source dest ilabel : List ℕ) → (olabel weight : Option (List ℕ)) → Result Entry TextFault
arc_line kind options line room source dest ilabel olabel weight = do
  s ← state_of_field line room.state source
  d ← state_of_field line (room.states s) dest
  i ← label_of_field options.isymbols line ilabel
  o ← output_label options.osymbols line i olabel
  w ← arc_weight_of_field kind line weight
  if room.arc then Ok (arc_entry s (record { ilabel = i; olabel = o; weight = w; next = d })) else Err (TooManyArcs line)

-- a final line by its fields
unfoldable pub final_line : ArcType → ℕ → Room → List ℕ → Option (List ℕ) → Result Entry TextFault
final_line kind line room state weight = do
  s ← state_of_field line room.state state
  w ← weight_of_field kind line weight
  Ok (final_entry s w)

-- a line of a transducer that is not blank
abbrev pub transducer_line : ArcType → Options → ℕ → Room → List (List ℕ) → Result Entry TextFault
transducer_line kind options line room (s ∷ []) = final_line kind line room s None
transducer_line kind options line room (s ∷ w ∷ []) = final_line kind line room s (Some w)
transducer_line kind options line room (s ∷ d ∷ i ∷ o ∷ []) = arc_line kind options line room s d i (Some o) None
transducer_line kind options line room (s ∷ d ∷ i ∷ o ∷ w ∷ []) = arc_line kind options line room s d i (Some o) (Some w)
transducer_line kind options line room _ = Err (BadColumns line)

-- a line of an acceptor that is not blank; its label, a symbol of the input's table, is both labels
abbrev pub acceptor_line : ArcType → Options → ℕ → Room → List (List ℕ) → Result Entry TextFault
acceptor_line kind options line room (s ∷ []) = final_line kind line room s None
acceptor_line kind options line room (s ∷ w ∷ []) = final_line kind line room s (Some w)
acceptor_line kind options line room (s ∷ d ∷ l ∷ []) = arc_line kind options line room s d l None None
acceptor_line kind options line room (s ∷ d ∷ l ∷ w ∷ []) = arc_line kind options line room s d l None (Some w)
acceptor_line kind options line room _ = Err (BadColumns line)

abbrev pub entry_of_fields : ArcType → Options → ℕ → Room → List (List ℕ) → Result Entry TextFault
entry_of_fields kind options line room fields = if options.acceptor then acceptor_line kind options line room fields
    else transducer_line kind options line room fields

-- no more than 4,194,304 states, where the entries before and then these numbers are named
abbrev pub fits : Bool → List Entry → List ℕ → Bool
fits kept before numbers = nat_le (length (state_numbers kept (flat_map states_named before ++ numbers))) most_states

-- the room behind these entries
abbrev pub room_behind : Bool → List Entry → Room
room_behind kept before = record {
  state = λ s. fits kept before (s ∷ []);
  states = λ s d. fits kept before (s ∷ d ∷ []);
  arc = nat_lt (arc_count before) most_arcs;
}

-- the entries before, and behind them those of lines of which the first has this number; blank lines say nothing
abbrev pub entries_of_lines : ArcType → Options → ℕ → List Entry → List (List (List ℕ)) → Result (List Entry) TextFault
entries_of_lines kind options line before [] = Ok before
entries_of_lines kind options line before ([] ∷ lines) = entries_of_lines kind options (line + 1) before lines
entries_of_lines kind options line before ((f ∷ fs) ∷ lines) =
    entry_of_fields kind options line (room_behind options.keep_state_numbering before) (f ∷ fs)
    >>= λ e. entries_of_lines kind options (line + 1) (before ++ e ∷ []) lines

-- the machine of a text, or the first fault of its first faulty line
abbrev pub machine_of_text : ArcType → Options → List ℕ → Result (Machine Cost) TextFault
machine_of_text kind options text = entries_of_lines kind options 1 [] (map fields_of (lines_of text))
    >>= λ es. Ok (machine_of_entries options.keep_state_numbering es)

-- what was returned, seen by view, is what reading gives, or memory ran out
abbrev pub Gives : {X Y : Type 0} → (X → Y) → Result X TextFault → Result Y TextFault → Type 0
Gives view result read = reading.Gives Memory view result read
