-- A printed entry is read again.
use Rattle.std.proofs.Common.{◌≡◌, ◌≢◌, ℕ, ◌<◌, ◌≤◌, Bool, true, false, cond, List, [], ◌∷◌, ◌++◌, map, Option, Some, None, Result, Ok, Err, refl, sym, ap, ◌∙◌, subst, arith, nat_le, lit<}
use Rattle.std.specs.Prelude.{IfSome}
use Rattle.std.specs.Fmt.{decimal}
use Rattle.std.specs.List.{AllByRecursion}
use Rattle.std.proofs.lemmas.Bool.Decides.{nat_tests}
use Rattle.fst_fields.specs.Reading.{◌>>=◌}
use Rattle.fst_fields.specs.Decimal.{label_of_text}
use Rattle.fst_semiring.specs.declared.arc_type.ArcType.{ArcType}
use Rattle.fst_semiring.specs.Cost.{Cost, best, finite, infinite}
use Rattle.fst_semiring.specs.WeightText.{text_of_cost}
use Rattle.fst_symbols.specs.Symbols.{IsTable, Symbol, name_of}
use Rattle.fst_machine.specs.Machine.{Arc, greatest_label, most_states}
use Rattle.fst_text.specs.declared.fault.TextFault.{TextFault}
use Rattle.fst_text.specs.declared.fault.TextFault.TheVariants.{BadState, BadLabel, UnknownSymbol, BadWeight, TooManyStates, TooManyArcs}
use Rattle.fst_text.specs.Options.{HasTables, Options}
use Rattle.fst_text.specs.Entries.{Entry, arc_entry, final_entry}
use Rattle.fst_text.specs.Grammar.{Room, acceptor_line, arc_line, arc_weight_of_field, entry_of_fields, final_line, label_of_field, not_zero, output_label, state_of_field, transducer_line, weight_of_field}
use Rattle.fst_text.specs.Laws.{IsWeight}
use Rattle.fst_text.specs.Printed.{Label, field_of_label, fields_of_entry, first_unnamed, is_one, labels_of_arc, labels_of_entry, text_of_label, weight_fields}
use Rattle.fst_fields.proofs.Decimals.{AreDigits, IsDigit, decimal-digits, decimal-read}
use Rattle.fst_semiring.proofs.Texts.{weight-read}
use Rattle.fst_text.proofs.SymbolTables.{name_of-name, number_of-name_of}
use Rattle.fst_text.proofs.TextLines.{IsDark, IsField, IsWord, field-word, name-word}
use Rattle.fst_text.proofs.WeightTexts.{one-is, weight-field}

-- An arc of a machine with so many states that may be printed with these options.
pub record GoodArc (kind : ArcType) (options : Options) (states : ℕ) (a : Arc Cost ℕ) : Type 0 where
  pub ilabel : a.ilabel ≤ greatest_label
  pub olabel : a.olabel ≤ greatest_label
  pub weight : a.weight ≢ infinite
  pub next : a.next < states
  pub value : IsWeight kind a.weight
  pub same : options.acceptor ≡ true → a.ilabel ≡ a.olabel

-- an entry of such a machine
abbrev pub GoodEntry : ArcType → Options → ℕ → Entry → Type 0
GoodEntry kind options states (arc_entry source a) = (source < states) × GoodArc kind options states a
GoodEntry kind options states (final_entry state w) = (state < states) × IsWeight kind w

dark-digits : (cs : List ℕ) → AllByRecursion IsDigit cs → AllByRecursion IsDark cs
dark-digits [] h = tt
dark-digits (c ∷ cs) h = (let d = h.0.0 in omega arith, dark-digits cs h.1)

field-digits : (ds : List ℕ) → AreDigits ds → IsField ds
field-digits [] h = absurd h
field-digits (c ∷ cs) h = (let d = h.0.0 in omega arith, dark-digits cs h.1)

decimal-word : (n : ℕ) → n < 4294967296 → IsWord (decimal n)
decimal-word n small = field-word (decimal n) (field-digits (decimal n) (decimal-digits n (omega arith)))

weight-word : (kind : ArcType) (w : Cost) → IsWeight kind w → IsWord (text_of_cost kind w)
weight-word kind w h = field-word (text_of_cost kind w) (weight-field kind w h.cost h.range)

weight-fields-good : (kind : ArcType) (options : Options) (w : Cost) → IsWeight kind w → AllByRecursion IsWord (weight_fields kind options w)
weight-fields-good kind options w h = go options.show_weight_one (is_one kind w) where
  go : (show one : Bool) → AllByRecursion IsWord (cond show (text_of_cost kind w ∷ []) (cond one [] (text_of_cost kind w ∷ [])))
  go true one = (weight-word kind w h, tt)
  go false true = tt
  go false false = (weight-word kind w h, tt)

fields-append : (xs ys : List (List ℕ)) → AllByRecursion IsWord xs → AllByRecursion IsWord ys → AllByRecursion IsWord (xs ++ ys)
fields-append [] ys h g = g
fields-append (x ∷ xs) ys h g = (h.0, fields-append xs ys h.1 g)

-- What is known of a label that is printed: its field is one, and is read as the label.
pub record IsRead (symbols : Option (List Symbol)) (n : ℕ) : Type 0 where
  pub word : IsWord (field_of_label (record { symbols = symbols; number = n }))
  pub reads : (line : ℕ) → label_of_field symbols line (field_of_label (record { symbols = symbols; number = n })) ≡ Ok n

label-text : (n : ℕ) → n ≤ greatest_label → label_of_text (decimal n) ≡ Some n
label-text n low =
    let test : nat_le n greatest_label ≡ true = grind (arith, nat_tests) in
    ap (λ (o : Option ℕ). elim o [ None ↦ None | Some n ↦ cond (nat_le n greatest_label) (Some n) None ]) (decimal-read 18 n (lit< tt) (omega arith) (omega arith))
    ∙ ap (λ b. cond b (Some n) None) test

-- a label with a name
named-read : (symbols : Option (List Symbol)) (n : ℕ) → IfSome symbols IsTable → n ≤ greatest_label → first_unnamed (record { symbols = symbols; number = n } ∷ []) ≡ None → IsRead symbols n
named-read None n tables low named = record { word = decimal-word n (omega arith); reads = λ line. ap (λ (o : Option ℕ). elim o [ None ↦ Err (BadLabel line) | Some n ↦ Ok n ]) (label-text n low) }
named-read (Some symbols) n table low named = go (name_of symbols n) refl named where
  go : (o : Option (List ℕ)) → name_of symbols n ≡ o → ◌≡◌ {A = Option ℕ} (elim o [ None ↦ Some n | Some text ↦ None ]) None → IsRead (Some symbols) n
  go None e named = absurd (cc)
  go (Some name) e named =
      let field : field_of_label (record { symbols = Some symbols; number = n }) ≡ name = ap (λ (o : Option (List ℕ)). elim o [ None ↦ [] | Some text ↦ text ]) e in
      record {
        word = subst IsWord (sym field) (name-word name (name_of-name symbols n name table e));
        reads = λ line. ap (label_of_field (Some symbols) line) field ∙ ap (λ (o : Option ℕ). elim o [ None ↦ Err (UnknownSymbol line) | Some n ↦ Ok n ]) (number_of-name_of symbols n name table e);
      }

-- where the first of these labels has a name, the others are asked
first-named : (label : Label) (labels : List Label) → first_unnamed (label ∷ labels) ≡ None → (first_unnamed (label ∷ []) ≡ None) × (first_unnamed labels ≡ None)
first-named label labels h = go (text_of_label label) h where
  go : (o : Option (List ℕ)) → ◌≡◌ {A = Option ℕ} (elim o [ None ↦ Some label.number | Some text ↦ first_unnamed labels ]) None → (◌≡◌ {A = Option ℕ} (elim o [ None ↦ Some label.number | Some text ↦ None ]) None) × (first_unnamed labels ≡ None)
  go None e = absurd (cc)
  go (Some text) e = (refl, e)

-- the labels of an arc that is printed
pub record LabelsRead (options : Options) (a : Arc Cost ℕ) : Type 0 where
  pub input : IsRead options.isymbols a.ilabel
  pub output : options.acceptor ≡ false → IsRead options.osymbols a.olabel

labels-read : (options : Options) (a : Arc Cost ℕ) → HasTables options → a.ilabel ≤ greatest_label → a.olabel ≤ greatest_label → first_unnamed (labels_of_arc options a) ≡ None → LabelsRead options a
labels-read options a tables li lo named = go options.acceptor refl named where
  input : Label
  input = record { symbols = options.isymbols; number = a.ilabel }

  output : Label
  output = record { symbols = options.osymbols; number = a.olabel }

  go : (acceptor : Bool) → options.acceptor ≡ acceptor → first_unnamed (cond acceptor (input ∷ []) (input ∷ output ∷ [])) ≡ None → LabelsRead options a
  go true e named = record { input = named-read options.isymbols a.ilabel tables.input li named; output = λ f. absurd (cc) }
  go false e named =
      let both = first-named input (output ∷ []) named in
      record { input = named-read options.isymbols a.ilabel tables.input li both.0; output = λ f. named-read options.osymbols a.olabel tables.output lo both.1 }

-- each label of the entry has a name where it needs one
abbrev pub IsNamed : Options → Entry → Type 0
IsNamed options e = first_unnamed (labels_of_entry options e) ≡ None

label-fields-good : (options : Options) (a : Arc Cost ℕ) → LabelsRead options a → AllByRecursion IsWord (map field_of_label (labels_of_arc options a))
label-fields-good options a h = go options.acceptor h.output where
  input : Label
  input = record { symbols = options.isymbols; number = a.ilabel }

  output : Label
  output = record { symbols = options.osymbols; number = a.olabel }

  go : (acceptor : Bool) → (acceptor ≡ false → IsRead options.osymbols a.olabel) → AllByRecursion IsWord (map field_of_label (cond acceptor (input ∷ []) (input ∷ output ∷ [])))
  go true out = (h.input.word, tt)
  go false out = (h.input.word, ((out refl).word, tt))

-- what is printed of an entry are fields
pub fields-good : (kind : ArcType) (options : Options) (states : ℕ) (e : Entry) → HasTables options → states ≤ most_states → GoodEntry kind options states e → IsNamed options e → AllByRecursion IsWord (fields_of_entry kind options e)
fields-good kind options states (arc_entry source a) tables few h named =
    let good = h.1 in
    let labels = labels-read options a tables good.ilabel good.olabel named in
    (decimal-word source (omega arith), (decimal-word a.next (omega (arith, good.next)), fields-append (map field_of_label (labels_of_arc options a)) (weight_fields kind options a.weight) (label-fields-good options a labels) (weight-fields-good kind options a.weight good.value)))
fields-good kind options states (final_entry state w) tables few h named = (decimal-word state (omega arith), weight-fields-good kind options w h.1)

state-reads : (line : ℕ) (room : ℕ → Bool) (n : ℕ) → n < most_states → room n ≡ true → state_of_field line room (decimal n) ≡ Ok n
state-reads line room n low fits =
    ap (λ (o : Option ℕ). elim o [ None ↦ Err (BadState line) | Some n ↦ cond (room n) (Ok n) (Err (TooManyStates line)) ]) (decimal-read 18 n (lit< tt) (omega arith) (omega arith))
    ∙ ap (λ b. cond b (Ok n) (Err (TooManyStates line))) fits

weight-shown : (kind : ArcType) (line : ℕ) (w : Cost) → IsWeight kind w → weight_of_field kind line (Some (text_of_cost kind w)) ≡ Ok w
weight-shown kind line w h = ap (λ (o : Option Cost). elim o [ None ↦ Err (BadWeight line) | Some w ↦ Ok w ]) (weight-read kind w h.cost h.range)

weight-left_out : (kind : ArcType) (line : ℕ) (w : Cost) → is_one kind w ≡ true → weight_of_field kind line None ≡ Ok w
weight-left_out kind line w h = ap Ok (sym (one-is kind w h))

finite-weight : (line : ℕ) (w : Cost) → w ≢ infinite → not_zero line w ≡ Ok w
finite-weight line best h = refl
finite-weight line (finite a b) h = refl
finite-weight line infinite h = absurd (h refl)

-- There is room for each state of so many, and for an arc.
pub record Roomy (states : ℕ) (room : Room) : Type 0 where
  pub one : (s : ℕ) → s < states → room.state s ≡ true
  pub two : (s d : ℕ) → s < states → d < states → room.states s d ≡ true

arc-reads : (kind : ArcType) (options : Options) (line : ℕ) (room : Room) (s d i o : ℕ) (ilabel : List ℕ) (olabel : Option (List ℕ)) (w : Cost) (field : Option (List ℕ)) → s < most_states → d < most_states → room.state s ≡ true → room.states s d ≡ true → room.arc ≡ true → label_of_field options.isymbols line ilabel ≡ Ok i → output_label options.osymbols line i olabel ≡ Ok o → w ≢ infinite → weight_of_field kind line field ≡ Ok w → arc_line kind options line room (decimal s) (decimal d) ilabel olabel field ≡ Ok (arc_entry s (record { ilabel = i; olabel = o; weight = w; next = d }))
unfolding arc_line
arc-reads kind options line room s d i o ilabel olabel w field ls ld rs rd ra ri ro nz weight =
    let input = options.isymbols in
    let output = options.osymbols in
    let last : (i o : ℕ) → Cost → Result Entry TextFault = λ i o w. cond room.arc (Ok (arc_entry s (record { ilabel = i; olabel = o; weight = w; next = d }))) (Err (TooManyArcs line)) in
    ap (λ (r : Result ℕ TextFault). r >>= λ s. (state_of_field line (room.states s) (decimal d) >>= λ d. (label_of_field input line ilabel >>= λ i. (output_label output line i olabel >>= λ o. (arc_weight_of_field kind line field >>= λ w. cond room.arc (Ok (arc_entry s (record { ilabel = i; olabel = o; weight = w; next = d }))) (Err (TooManyArcs line))))))) (state-reads line room.state s ls rs)
    ∙ ap (λ (r : Result ℕ TextFault). r >>= λ d. (label_of_field input line ilabel >>= λ i. (output_label output line i olabel >>= λ o. (arc_weight_of_field kind line field >>= λ w. cond room.arc (Ok (arc_entry s (record { ilabel = i; olabel = o; weight = w; next = d }))) (Err (TooManyArcs line)))))) (state-reads line (room.states s) d ld rd)
    ∙ ap (λ (r : Result ℕ TextFault). r >>= λ i. (output_label output line i olabel >>= λ o. (arc_weight_of_field kind line field >>= λ w. last i o w))) ri
    ∙ ap (λ (r : Result ℕ TextFault). r >>= λ o. (arc_weight_of_field kind line field >>= λ w. last i o w)) ro
    ∙ ap (λ (r : Result Cost TextFault). (r >>= not_zero line) >>= λ w. last i o w) weight
    ∙ ap (λ (r : Result Cost TextFault). r >>= λ w. last i o w) (finite-weight line w nz)
    ∙ ap (λ b. cond b (Ok (arc_entry s (record { ilabel = i; olabel = o; weight = w; next = d }))) (Err (TooManyArcs line))) ra

final-reads : (kind : ArcType) (line : ℕ) (room : Room) (s : ℕ) (w : Cost) (field : Option (List ℕ)) → s < most_states → room.state s ≡ true → weight_of_field kind line field ≡ Ok w → final_line kind line room (decimal s) field ≡ Ok (final_entry s w)
unfolding final_line
final-reads kind line room s w field ls rs weight =
    ap (λ (r : Result ℕ TextFault). r >>= λ s. (weight_of_field kind line field >>= λ w. Ok (final_entry s w))) (state-reads line room.state s ls rs)
    ∙ ap (λ (r : Result Cost TextFault). r >>= λ w. Ok (final_entry s w)) weight

-- the fields of an entry are read as the entry
pub arc-entry-reads : (kind : ArcType) (options : Options) (states line : ℕ) (room : Room) (s : ℕ) (a : Arc Cost ℕ) → HasTables options → states ≤ most_states → Roomy states room → room.arc ≡ true → s < states → GoodArc kind options states a → IsNamed options (arc_entry s a) → entry_of_fields kind options line room (fields_of_entry kind options (arc_entry s a)) ≡ Ok (arc_entry s a)
arc-entry-reads kind options states line room s a tables few roomy arc low good named = go options.acceptor options.show_weight_one (is_one kind a.weight) good.same labels.output refl where
  labels : LabelsRead options a
  labels = labels-read options a tables good.ilabel good.olabel named

  input : Label
  input = record { symbols = options.isymbols; number = a.ilabel }

  output : Label
  output = record { symbols = options.osymbols; number = a.olabel }

  reads : (o : ℕ) (olabel field : Option (List ℕ)) → output_label options.osymbols line a.ilabel olabel ≡ Ok o → weight_of_field kind line field ≡ Ok a.weight → arc_line kind options line room (decimal s) (decimal a.next) (field_of_label input) olabel field ≡ Ok (arc_entry s (record { ilabel = a.ilabel; olabel = o; weight = a.weight; next = a.next }))
  reads o olabel field ro weight = arc-reads kind options line room s a.next a.ilabel o (field_of_label input) olabel a.weight field (omega arith) (omega (arith, good.next)) (roomy.one s low) (roomy.two s a.next low good.next) arc (labels.input.reads line) ro good.weight weight

  one_label : a.ilabel ≡ a.olabel → (r : Result Entry TextFault) → r ≡ Ok (arc_entry s (record { ilabel = a.ilabel; olabel = a.ilabel; weight = a.weight; next = a.next })) → r ≡ Ok (arc_entry s a)
  one_label same r h = h ∙ ap (λ (o : ℕ). Ok (arc_entry s (record { ilabel = a.ilabel; olabel = o; weight = a.weight; next = a.next }))) same

  printed : Bool → Bool → Bool → List (List ℕ)
  printed acceptor show one = decimal s ∷ decimal a.next ∷ map field_of_label (cond acceptor (input ∷ []) (input ∷ output ∷ [])) ++ cond show (text_of_cost kind a.weight ∷ []) (cond one [] (text_of_cost kind a.weight ∷ []))

  go : (acceptor show one : Bool) → (acceptor ≡ true → a.ilabel ≡ a.olabel) → (acceptor ≡ false → IsRead options.osymbols a.olabel) → is_one kind a.weight ≡ one → cond acceptor (acceptor_line kind options line room (printed acceptor show one)) (transducer_line kind options line room (printed acceptor show one)) ≡ Ok (arc_entry s a)
  go true true one same out e = one_label (same refl) _ (reads a.ilabel None (Some (text_of_cost kind a.weight)) refl (weight-shown kind line a.weight good.value))
  go true false true same out e = one_label (same refl) _ (reads a.ilabel None None refl (weight-left_out kind line a.weight e))
  go true false false same out e = one_label (same refl) _ (reads a.ilabel None (Some (text_of_cost kind a.weight)) refl (weight-shown kind line a.weight good.value))
  go false true one same out e = reads a.olabel (Some (field_of_label output)) (Some (text_of_cost kind a.weight)) ((out refl).reads line) (weight-shown kind line a.weight good.value)
  go false false true same out e = reads a.olabel (Some (field_of_label output)) None ((out refl).reads line) (weight-left_out kind line a.weight e)
  go false false false same out e = reads a.olabel (Some (field_of_label output)) (Some (text_of_cost kind a.weight)) ((out refl).reads line) (weight-shown kind line a.weight good.value)

pub final-entry-reads : (kind : ArcType) (options : Options) (states line : ℕ) (room : Room) (s : ℕ) (w : Cost) → states ≤ most_states → Roomy states room → s < states → IsWeight kind w → entry_of_fields kind options line room (fields_of_entry kind options (final_entry s w)) ≡ Ok (final_entry s w)
final-entry-reads kind options states line room s w few roomy low good = go options.acceptor options.show_weight_one (is_one kind w) refl where
  reads : (field : Option (List ℕ)) → weight_of_field kind line field ≡ Ok w → final_line kind line room (decimal s) field ≡ Ok (final_entry s w)
  reads field weight = final-reads kind line room s w field (omega arith) (roomy.one s low) weight

  printed : Bool → Bool → List (List ℕ)
  printed show one = decimal s ∷ cond show (text_of_cost kind w ∷ []) (cond one [] (text_of_cost kind w ∷ []))

  go : (acceptor show one : Bool) → is_one kind w ≡ one → cond acceptor (acceptor_line kind options line room (printed show one)) (transducer_line kind options line room (printed show one)) ≡ Ok (final_entry s w)
  go true true one e = reads (Some (text_of_cost kind w)) (weight-shown kind line w good)
  go true false true e = reads None (weight-left_out kind line w e)
  go true false false e = reads (Some (text_of_cost kind w)) (weight-shown kind line w good)
  go false true one e = reads (Some (text_of_cost kind w)) (weight-shown kind line w good)
  go false false true e = reads None (weight-left_out kind line w e)
  go false false false e = reads (Some (text_of_cost kind w)) (weight-shown kind line w good)
