-- The printed entries of a machine are read in order.
use Rattle.std.proofs.Common.{◌≡◌, ℕ, ◌+◌, ◌≤◌, max, Bool, true, List, [], ◌∷◌, ◌++◌, length, map, Result, Ok, sym, ap, ◌∙◌, arith, append_assoc, append-nil, nat_le}
use Rattle.std.specs.List.{AllByRecursion, flat_map}
use Rattle.std.proofs.lemmas.Bool.Decides.{nat_tests}
use Rattle.std.proofs.lemmas.Grind.{flat_map-append}
use Rattle.fst_semiring.specs.declared.arc_type.ArcType.{ArcType}
use Rattle.fst_machine.specs.Machine.{most_arcs, most_states}
use Rattle.fst_text.specs.declared.fault.TextFault.{TextFault}
use Rattle.fst_text.specs.Options.{HasTables, Options}
use Rattle.fst_text.specs.Entries.{Entry, above, arc_count, arc_entry, final_entry, from_zero, states_named}
use Rattle.fst_fields.specs.Reading.{◌>>=◌}
use Rattle.fst_text.specs.Grammar.{entries_of_lines, fits, room_behind}
use Rattle.fst_text.specs.Printed.{fields_of_entry}
use Rattle.fst_text.proofs.Numbers.{length-from_zero}
use Rattle.fst_text.proofs.EntryTexts.{GoodEntry, IsNamed, Roomy, arc-entry-reads, final-entry-reads}

pub above-append : (a b : List ℕ) → above (a ++ b) ≡ max (above a) (above b)
above-append [] b = omega arith
above-append (n ∷ a) b = let e = above-append a b in omega arith

pub named-append : (a b : List Entry) → flat_map states_named (a ++ b) ≡ flat_map states_named a ++ flat_map states_named b
named-append a b = flat_map-append states_named a b

pub arc_count-append : (a b : List Entry) → arc_count (a ++ b) ≡ arc_count a + arc_count b
arc_count-append [] b = omega arith
arc_count-append (arc_entry source a ∷ es) b = let e = arc_count-append es b in omega arith
arc_count-append (final_entry state w ∷ es) b = arc_count-append es b

fits-below : (kept : Bool) (before : List Entry) (ns : List ℕ) → kept ≡ true → above (flat_map states_named before) ≤ most_states → above ns ≤ most_states → fits kept before ns ≡ true
fits-below kept before ns e low small =
    let named = flat_map states_named before ++ ns in
    let all = above-append (flat_map states_named before) ns in
    let long = length-from_zero (above named) in
    let test : nat_le (length (from_zero (above named))) most_states ≡ true = grind (arith, nat_tests) in
    ap (λ k. fits k before ns) e ∙ test

roomy : (kept : Bool) (before : List Entry) (states : ℕ) → kept ≡ true → states ≤ most_states → above (flat_map states_named before) ≤ states → Roomy states (room_behind kept before)
roomy kept before states e few low = record {
  one = λ s small. fits-below kept before (s ∷ []) e (omega arith) (omega arith);
  two = λ s d small next. fits-below kept before (s ∷ d ∷ []) e (omega arith) (omega arith);
}

-- the lines of entries behind others
pub entries-read : (kind : ArcType) (options : Options) (states line : ℕ) (before es : List Entry) → HasTables options → options.keep_state_numbering ≡ true → states ≤ most_states → above (flat_map states_named before) ≤ states → arc_count before + arc_count es ≤ most_arcs → AllByRecursion (GoodEntry kind options states) es → AllByRecursion (IsNamed options) es → entries_of_lines kind options line before (map (fields_of_entry kind options) es) ≡ Ok (before ++ es)
entries-read kind options states line before [] tables kept few low count h named_all = ap Ok (sym (append-nil before))
entries-read kind options states line before (arc_entry s a ∷ es) tables kept few low count h named_all =
    let room = room_behind options.keep_state_numbering before in
    let e : Entry = arc_entry s a in
    let next : options.keep_state_numbering ≡ true = kept in
    let arc : room.arc ≡ true = grind (arith, nat_tests) in
    let reads = arc-entry-reads kind options states line room s a tables few (roomy options.keep_state_numbering before states kept few low) arc h.0.0 h.0.1 named_all.0 in
    let named = ap above (named-append before (e ∷ [])) ∙ above-append (flat_map states_named before) (s ∷ a.next ∷ []) in
    let counted = arc_count-append before (e ∷ []) in
    let low_next = h.0.1.next in
    let low_source = h.0.0 in
    ap (λ (r : Result Entry TextFault). r >>= λ e. entries_of_lines kind options (line + 1) (before ++ e ∷ []) (map (fields_of_entry kind options) es)) reads
    ∙ entries-read kind options states (line + 1) (before ++ e ∷ []) es tables kept few (omega arith) (omega arith) h.1 named_all.1
    ∙ ap Ok (append_assoc before (e ∷ []) es)
entries-read kind options states line before (final_entry s w ∷ es) tables kept few low count h named_all =
    let room = room_behind options.keep_state_numbering before in
    let e : Entry = final_entry s w in
    let reads = final-entry-reads kind options states line room s w few (roomy options.keep_state_numbering before states kept few low) h.0.0 h.0.1 in
    let named = ap above (named-append before (e ∷ [])) ∙ above-append (flat_map states_named before) (s ∷ []) in
    let counted = arc_count-append before (e ∷ []) in
    let low_source = h.0.0 in
    ap (λ (r : Result Entry TextFault). r >>= λ e. entries_of_lines kind options (line + 1) (before ++ e ∷ []) (map (fields_of_entry kind options) es)) reads
    ∙ entries-read kind options states (line + 1) (before ++ e ∷ []) es tables kept few (omega arith) (omega arith) h.1 named_all.1
    ∙ ap Ok (append_assoc before (e ∷ []) es)
