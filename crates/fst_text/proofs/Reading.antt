-- Building line by line gives the machine of the text, or its fault.
use Rattle.std.proofs.Common.{◌≡◌, ℕ, ◌+◌, Bool, true, false, List, [], ◌∷◌, ◌++◌, length, map, nat_le, nat_lt, Result, Ok, Err, refl, sym, ap, ◌∙◌}
use Rattle.std.specs.List.{flat_map}
use mathlib.Core.Path.{fun_ext}
use Rattle.fst_fields.specs.Lines.{lines_of, fields_of}
use Rattle.fst_fields.specs.Reading.{◌>>=◌}
use Rattle.fst_fields.specs.Texts.{read_lines}
use Rattle.fst_semiring.specs.declared.arc_type.ArcType.{ArcType}
use Rattle.fst_semiring.specs.Cost.{Cost}
use Rattle.fst_machine.specs.Machine.{Machine, arc_total, most_arcs, most_states}
use Rattle.fst_text.specs.declared.fault.TextFault.{TextFault}
use Rattle.fst_text.specs.Options.{Options}
use Rattle.fst_text.specs.Entries.{Entry, machine_of_entries, states_named}
use Rattle.fst_text.specs.Grammar.{Room, entries_of_lines, entry_of_fields, machine_of_text, room_behind}
use Rattle.fst_text.specs.Building.{Building, after_line, built_of_text, nothing_built, room_of, with_entry, with_number}
use Rattle.fst_text.proofs.Held.{Holds, number-held, states-count}
use Rattle.fst_text.proofs.Added.{entry-held, numbers-one, numbers-two, numbers_of}
use Rattle.fst_text.proofs.Numbers.{with_more}
use Rattle.fst_text.proofs.Counted.{arc-counted}

-- a building has the room of the entries that it stands for
room-held : (kept : Bool) (es : List Entry) (b : Building) → Holds kept (numbers_of kept es) es b → room_of kept b ≡ room_behind kept es
room-held kept es b h =
    let named = flat_map states_named es in
    let ns = numbers_of kept es in
    let room : Room = room_of kept b in
    let one : (s : ℕ) → room.state s ≡ (room_behind kept es).state s = λ s.
    ap (λ (k : ℕ). nat_le k most_states) (states-count kept (with_more kept ns s) es (with_number kept b s) (number-held kept ns es b s h) ∙ ap length (sym (numbers-one kept named s))) in
    let two : (s d : ℕ) → room.states s d ≡ (room_behind kept es).states s d = λ s d.
    ap (λ (k : ℕ). nat_le k most_states) (states-count kept (with_more kept (with_more kept ns s) d) es (with_number kept (with_number kept b s) d) (number-held kept (with_more kept ns s) es (with_number kept b s) d (number-held kept ns es b s h)) ∙ ap length (sym (numbers-two kept named s d))) in
    let arc : room.arc ≡ (room_behind kept es).arc =
    ap (λ (m : Machine Cost). nat_lt (arc_total m.states) most_arcs) h.machine ∙ ap (λ (k : ℕ). nat_lt k most_arcs) (arc-counted ns es h.named h.apart) in
    ap (λ (f : ℕ → Bool). record { state = f; states = room.states; arc = room.arc }) (fun_ext one)
    ∙ ap (λ (f : ℕ → ℕ → Bool). record { state = (room_behind kept es).state; states = f; arc = room.arc }) (fun_ext (λ s. fun_ext (two s)))
    ∙ ap (λ (t : Bool). record { state = (room_behind kept es).state; states = (room_behind kept es).states; arc = t }) arc

-- lines behind entries for which a building stands
after_lines-reads : (kind : ArcType) (options : Options) (line : ℕ) (es : List Entry) (b : Building) (lines : List (List (List ℕ))) → Holds options.keep_state_numbering (numbers_of options.keep_state_numbering es) es b → (read_lines (after_line kind options) line b lines >>= λ c. Ok c.machine) ≡ (entries_of_lines kind options line es lines >>= λ es. Ok (machine_of_entries options.keep_state_numbering es))
after_lines-reads kind options line es b [] h = ap Ok h.machine
after_lines-reads kind options line es b ([] ∷ lines) h = after_lines-reads kind options (line + 1) es b lines h
after_lines-reads kind options line es b ((f ∷ fs) ∷ lines) h =
    ap (λ (room : Room). ((entry_of_fields kind options line room (f ∷ fs) >>= λ e. Ok (with_entry options.keep_state_numbering b e)) >>= λ c. read_lines (after_line kind options) (line + 1) c lines) >>= λ c. Ok c.machine) (room-held options.keep_state_numbering es b h)
    ∙ go (entry_of_fields kind options line (room_behind options.keep_state_numbering es) (f ∷ fs)) (λ e. after_lines-reads kind options (line + 1) (es ++ e ∷ []) (with_entry options.keep_state_numbering b e) lines (entry-held options.keep_state_numbering es b e h)) where
      go : (read : Result Entry TextFault) → ((e : Entry) → (read_lines (after_line kind options) (line + 1) (with_entry options.keep_state_numbering b e) lines >>= λ c. Ok c.machine) ≡ (entries_of_lines kind options (line + 1) (es ++ e ∷ []) lines >>= λ es. Ok (machine_of_entries options.keep_state_numbering es))) → (((read >>= λ e. Ok (with_entry options.keep_state_numbering b e)) >>= λ c. read_lines (after_line kind options) (line + 1) c lines) >>= λ c. Ok c.machine) ≡ ((read >>= λ e. entries_of_lines kind options (line + 1) (es ++ e ∷ []) lines) >>= λ es. Ok (machine_of_entries options.keep_state_numbering es))
      go (Ok e) more = more e
      go (Err fault) more = refl

nothing-holds : (kept : Bool) → Holds kept (numbers_of kept []) [] nothing_built
nothing-holds true = record { found = λ e n. refl; machine = refl; named = tt; apart = tt; zeros = λ e. refl }
nothing-holds false = record { found = λ e n. refl; machine = refl; named = tt; apart = tt; zeros = λ e. refl }

-- a text is read line by line
pub text-reads : (kind : ArcType) (options : Options) (text : List ℕ) → (built_of_text kind options text >>= λ c. Ok c.machine) ≡ machine_of_text kind options text
text-reads kind options text = after_lines-reads kind options 1 [] nothing_built (map fields_of (lines_of text)) (nothing-holds options.keep_state_numbering)

-- what the lines of a text build has the machine of the text
pub text-built : (kind : ArcType) (options : Options) (text : List ℕ) (b : Building) → built_of_text kind options text ≡ Ok b → machine_of_text kind options text ≡ Ok b.machine
text-built kind options text b h = sym (text-reads kind options text) ∙ ap (λ (r : Result Building TextFault). r >>= λ c. Ok c.machine) h

-- and their fault is its fault
pub text-fails : (kind : ArcType) (options : Options) (text : List ℕ) (fault : TextFault) → built_of_text kind options text ≡ Err fault → machine_of_text kind options text ≡ Err fault
text-fails kind options text fault h = sym (text-reads kind options text) ∙ ap (λ (r : Result Building TextFault). r >>= λ c. Ok c.machine) h
