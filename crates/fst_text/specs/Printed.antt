-- The printed text of a machine. (OpenFst manual, `fstprint`.)
use Rattle.std.specs.Prelude.{◌≡◌, ℕ, ◌+◌, ◌-◌, ◌*◌, ◌^◌, length, min, ◌==◌, Bool, List, [], ◌∷◌, ◌++◌, map, slice_get, Option, Some, None, Result, Ok, Err, ◌&&◌, ◌||◌, if◌then◌else◌}
use Rattle.std.specs.Option.{is_none, option_map}
use Rattle.std.specs.List.{flat_map}
use Rattle.std.specs.Fmt.{decimal}
use Rattle.std.specs.Ordering.{is_eq}
use Rattle.fst_semiring.specs.declared.arc_type.ArcType.{ArcType}
use Rattle.fst_semiring.specs.Cost.{Cost, cost_cmp, is_infinite}
use Rattle.fst_semiring.specs.Semiring.{one_of}
use Rattle.fst_semiring.specs.WeightText.{text_of_cost}
use Rattle.fst_symbols.specs.Symbols.{Symbol, mean_name_length, name_of}
use Rattle.fst_fields.specs.Reading as reading
use Rattle.fst_machine.specs.Machine.{Arc, State, Machine, arc_total}
use Rattle.fst_text.specs.Entries.{Entry, arc_entry, final_entry}
use Rattle.fst_text.specs.declared.fault.PrintFault.{PrintFault}
use Rattle.fst_text.specs.declared.fault.PrintFault.TheVariants.{NotAcceptor, UnknownSymbol, Memory}
use Rattle.fst_text.specs.Options.{Options}

-- each field with a tab in front of it
abbrev pub behind_tabs : List (List ℕ) → List ℕ
behind_tabs fields = flat_map (λ field. 9 ∷ field) fields

-- the text of a line: its fields joined by one tab, and a line feed
abbrev pub text_of_line : List (List ℕ) → List ℕ
text_of_line [] = 10 ∷ []
text_of_line (field ∷ fields) = field ++ behind_tabs fields ++ 10 ∷ []

-- the value is One
abbrev pub is_one : ArcType → Cost → Bool
is_one kind w = is_eq (cost_cmp w (one_of kind))

-- the field of a weight; One is left out unless it is to be shown
abbrev pub weight_fields : ArcType → Options → Cost → List (List ℕ)
weight_fields kind options w = if options.show_weight_one then text_of_cost kind w ∷ [] else (if is_one kind w then [] else text_of_cost kind w ∷ [])

-- A label that is printed, with the symbol table of its side.
pub record Label : Type 0 where
  pub symbols : Option (List Symbol)
  pub number : ℕ

-- the printed form of a label: its number, or where its side has a table its name, if it has one
abbrev pub text_of_label : Label → Option (List ℕ)
text_of_label label = elim label.symbols [ None ↦ Some (decimal label.number) | Some symbols ↦ name_of symbols label.number ]

-- the labels of an arc that are printed; an acceptor's arc has one
abbrev pub labels_of_arc : Options → Arc Cost ℕ → List Label
labels_of_arc options a = if options.acceptor then record { symbols = options.isymbols; number = a.ilabel } ∷ []
    else record { symbols = options.isymbols; number = a.ilabel } ∷ record { symbols = options.osymbols; number = a.olabel } ∷ []

-- every label that is printed is printed as its number
abbrev pub is_numbered : Options → Bool
is_numbered options = is_none options.isymbols && (options.acceptor || is_none options.osymbols)

-- the field of a label; one without a name is not printed
abbrev pub field_of_label : Label → List ℕ
field_of_label label = elim (text_of_label label) [ None ↦ [] | Some text ↦ text ]

-- the labels of an arc as fields
abbrev pub label_fields : Options → Arc Cost ℕ → List (List ℕ)
label_fields options a = map field_of_label (labels_of_arc options a)

-- the fields of an entry, states by their numbers
abbrev pub fields_of_entry : ArcType → Options → Entry → List (List ℕ)
fields_of_entry kind options (arc_entry source a) = decimal source ∷ decimal a.next ∷ label_fields options a ++ weight_fields kind options a.weight
fields_of_entry kind options (final_entry state w) = decimal state ∷ weight_fields kind options w

-- the text of entries, a line each
abbrev pub text_of_entries : ArcType → Options → List Entry → List ℕ
text_of_entries kind options es = flat_map (λ e. text_of_line (fields_of_entry kind options e)) es

-- a state has a final entry where it is final, and where it has no arcs
abbrev pub final_entries : ℕ → Cost → List (Arc Cost ℕ) → List Entry
final_entries state w [] = final_entry state w ∷ []
final_entries state w (a ∷ arcs) = if is_infinite w then [] else final_entry state w ∷ []

-- the entries of a state: its arcs in order, then its final entry
abbrev pub state_entries : ℕ → State Cost → List Entry
state_entries state s = map (arc_entry state) s.arcs ++ final_entries state s.final s.arcs

-- the entries of the states but the start, where the first of them has this number
abbrev pub other_entries : ℕ → ℕ → List (State Cost) → List Entry
other_entries start state [] = []
other_entries start state (s ∷ states) = (if state == start then [] else state_entries state s) ++ other_entries start (state + 1) states

-- the entries of the state with this number
abbrev pub entries_at : ℕ → List (State Cost) → List Entry
entries_at state states = elim (slice_get states state) [ None ↦ [] | Some s ↦ state_entries state s ]

-- the entries of a machine: those of the start, then those of the other states by number
abbrev pub entries_of_machine : Machine Cost → List Entry
entries_of_machine m = elim m.start [ None ↦ [] | Some start ↦ entries_at start m.states ++ other_entries start 0 m.states ]

-- the first arc of these with two different labels, where the first of them has this place
abbrev pub split_arc : ℕ → ℕ → List (Arc Cost ℕ) → Option PrintFault
split_arc state place [] = None
split_arc state place (a ∷ arcs) = if a.ilabel == a.olabel then split_arc state (place + 1) arcs else Some (NotAcceptor state place)

-- the first arc with two different labels of the states, where the first of them has this number
abbrev pub split_state : ℕ → List (State Cost) → Option PrintFault
split_state state [] = None
split_state state (s ∷ states) = elim (split_arc state 0 s.arcs) [ None ↦ split_state (state + 1) states | Some fault ↦ Some fault ]

-- the labels of an entry that are printed
abbrev pub labels_of_entry : Options → Entry → List Label
labels_of_entry options (arc_entry source a) = labels_of_arc options a
labels_of_entry options (final_entry state w) = []

-- the number of the first of these labels that has no name in its table
abbrev pub first_unnamed : List Label → Option ℕ
first_unnamed [] = None
first_unnamed (label ∷ labels) = elim (text_of_label label) [ None ↦ Some label.number | Some text ↦ first_unnamed labels ]

-- the first label of entries without a name, in the order of printing
abbrev pub unnamed_label : Options → List Entry → Option ℕ
unnamed_label options es = first_unnamed (flat_map (labels_of_entry options) es)

-- the first arc with two different labels of a machine that is to be printed as an acceptor
abbrev pub split_machine : Options → Machine Cost → Option PrintFault
split_machine options m = if options.acceptor then split_state 0 m.states else None

-- why a machine is not printed: an acceptor has no arc with two different labels, and every label that is
-- printed has a name where its side has a table
abbrev pub refusal : Options → Machine Cost → Option PrintFault
refusal options m = elim (split_machine options m) [ None ↦ option_map UnknownSymbol (unnamed_label options (entries_of_machine m)) | Some fault ↦ Some fault ]

-- the printed text of a machine, or why there is none
abbrev pub text_of_machine : ArcType → Options → Machine Cost → Result (List ℕ) PrintFault
text_of_machine kind options m = elim (refusal options m) [ None ↦ Ok (text_of_entries kind options (entries_of_machine m)) | Some fault ↦ Err fault ]

-- the mean length of the names of a side; 0 where it has no symbol table
abbrev pub mean_length : Option (List Symbol) → ℕ
mean_length symbols = elim symbols [ None ↦ 0 | Some symbols ↦ mean_name_length symbols ]

-- that of output labels, where these are printed
abbrev pub output_length : Options → ℕ
output_length options = if options.acceptor then 0 else mean_length options.osymbols

-- how many bytes are reserved for the text of states: what numbers take, and for each name the mean of its table
abbrev pub named_room : {V : Type 0} → Options → List (State V) → ℕ
named_room options states =
    let arcs = arc_total states in
    min (arcs * 32 + length states * 16 + arcs * mean_length options.isymbols + arcs * output_length options) (2 ^ 64 - 1)

-- what was returned, seen by view, is this text or this refusal, or memory ran out
abbrev pub Prints : {X : Type 0} → (X → List ℕ) → Result X PrintFault → Result (List ℕ) PrintFault → Type 0
Prints view result text = reading.Gives Memory view result text

-- every label that was printed has a name; or a fault tells of the first that has none
abbrev pub Names : {X : Type 0} → Result X PrintFault → Option ℕ → Type 0
Names (Ok x) unnamed = unnamed ≡ None
Names (Err fault) unnamed = option_map UnknownSymbol unnamed ≡ Some fault
