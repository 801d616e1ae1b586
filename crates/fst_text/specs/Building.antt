-- A machine that is being built line by line.
use Rattle.std.specs.Prelude.{◌≡◌, ◌≢◌, ◌≤◌, ℕ, true, ◌+◌, ◌-◌, ◌<◌, Bool, List, [], ◌∷◌, ◌++◌, length, replicate, nat_le, nat_lt, Option, Some, None, IfSome, Result, Ok, if◌then◌else◌}
use Rattle.fst_semiring.specs.declared.arc_type.ArcType.{ArcType}
use Rattle.fst_semiring.specs.Cost.{Cost, infinite}
use Rattle.fst_machine.specs.Machine.{
  Machine,
  State,
  arc_total,
  bare_state,
  changed,
  greatest_label,
  most_arcs,
  most_states,
  no_states,
  valued,
  with_arc,
  with_final,
}
use Rattle.fst_text.specs.declared.fault.TextFault.{TextFault}
use Rattle.fst_text.specs.Options.{Options}
use Rattle.fst_text.specs.declared.builder.Builder.{Builder}
pub use Rattle.fst_table.specs.Slots.{with_place}
pub use Rattle.fst_table.specs.Found.{found_in}
use Rattle.fst_text.specs.Entries.{Entry, arc_entry, final_entry}
use Rattle.fst_fields.specs.Reading.{◌>>=◌}
use Rattle.fst_fields.specs.Texts.{read_text}
use Rattle.fst_text.specs.declared.entry.LineEntry.{LineEntry}
use Rattle.fst_text.specs.declared.entry.LineEntry.TheVariants.{Arc, Final}
use Rattle.fst_text.specs.Grammar.{Room, entry_of_fields}

-- The place of the state of each written number that is known, and the machine so far.
pub record Building : Type 0 where
  pub found : ℕ → Option ℕ
  pub machine : Machine Cost

-- the building that a builder stands for
abbrev pub built : {W V : Type 0} → (W → Cost) → Builder W V → Building
built value builder = record { found = found_in builder.places; machine = valued value builder.fst }

-- at least so many states
abbrev pub grown : ℕ → List (State Cost) → List (State Cost)
grown n states = states ++ replicate (n - length states) (bare_state infinite)

-- the place of the state with a written number, which is the next one where it is not known
abbrev pub place_of : Bool → Building → ℕ → ℕ
place_of kept b n = if kept then n else elim (b.found n) [ None ↦ length b.machine.states | Some place ↦ place ]

-- with a state more at the end, which has this number
abbrev pub with_state : Building → ℕ → Building
with_state b n = record {
  found = with_place b.found n (length b.machine.states);
  machine = record { start = b.machine.start; states = b.machine.states ++ bare_state infinite ∷ [] };
}

-- with a state for this number
abbrev pub with_number : Bool → Building → ℕ → Building
with_number kept b n = if kept
    then record { found = b.found; machine = record { start = b.machine.start; states = grown (n + 1) b.machine.states } }
    else elim (b.found n) [ None ↦ with_state b n | Some place ↦ b ]

-- the start, which is this state where there was none
abbrev pub or_start : ℕ → Option ℕ → Option ℕ
or_start place None = Some place
or_start place (Some start) = Some start

-- with the states of an entry
abbrev pub with_states : Bool → Building → Entry → Building
with_states kept b (arc_entry source a) = with_number kept (with_number kept b source) a.next
with_states kept b (final_entry state w) = with_number kept b state

-- the states with what the entry adds to one of them
abbrev pub with_line : Bool → Building → Entry → List (State Cost) → List (State Cost)
with_line kept b (arc_entry source a) states = changed
    (with_arc (record { ilabel = a.ilabel; olabel = a.olabel; weight = a.weight; next = place_of kept (with_number kept b source) a.next }))
    states (place_of kept b source)
with_line kept b (final_entry state w) states = changed (with_final w) states (place_of kept b state)

-- the place of the first state of an entry
abbrev pub first_place : Bool → Building → Entry → ℕ
first_place kept b (arc_entry source a) = place_of kept b source
first_place kept b (final_entry state w) = place_of kept b state

-- with an entry more
abbrev pub with_entry : Bool → Building → Entry → Building
with_entry kept b e =
    let more = with_states kept b e in
    record {
      found = more.found;
      machine = record { start = or_start (first_place kept b e) more.machine.start; states = with_line kept b e more.machine.states };
    }

-- what still fits
abbrev pub room_of : Bool → Building → Room
room_of kept b = record {
  state = λ s. nat_le (length (with_number kept b s).machine.states) most_states;
  states = λ s d. nat_le (length (with_number kept (with_number kept b s) d).machine.states) most_states;
  arc = nat_lt (arc_total b.machine.states) most_arcs;
}

-- each number that is known has a state
abbrev pub IsPlaced : Building → Type 0
IsPlaced b = (n : ℕ) → IfSome (b.found n) (λ place. place < length b.machine.states)

-- with the entry that was read
abbrev pub with_read : Bool → Building → Result Entry TextFault → Result Building TextFault
with_read kept b read = read >>= λ e. Ok (with_entry kept b e)

-- with a line of these fields; a blank one adds nothing
abbrev pub after_line : ArcType → Options → ℕ → Building → List (List ℕ) → Result Building TextFault
after_line kind options line b [] = Ok b
after_line kind options line b (f ∷ fs) = with_read options.keep_state_numbering b
    (entry_of_fields kind options line (room_of options.keep_state_numbering b) (f ∷ fs))

-- nothing is known and there is no state
abbrev pub nothing_built : Building
nothing_built = record { found = λ n. None; machine = no_states }

-- what the lines of a text build, or the first fault of the first faulty line
abbrev pub built_of_text : ArcType → Options → List ℕ → Result Building TextFault
built_of_text kind options text = read_text (after_line kind options) nothing_built text

-- what a line says, by the values of its weights
abbrev pub said : {W : Type 0} → (W → Cost) → LineEntry W → Entry
said value (Arc source dest ilabel olabel weight) = arc_entry source (record { ilabel = ilabel; olabel = olabel; weight = value weight; next = dest })
said value (Final state weight) = final_entry state (value weight)

-- A building has room for an entry, whose labels are in range, and whose weight is not Zero where it is an arc.
abbrev pub HasRoomFor : Bool → Building → Entry → Type 0
HasRoomFor kept b (arc_entry source a) = ((room_of kept b).state source ≡ true) × ((room_of kept b).states source a.next ≡ true)
    × ((room_of kept b).arc ≡ true) × (a.ilabel ≤ greatest_label) × (a.olabel ≤ greatest_label) × (a.weight ≢ infinite)
HasRoomFor kept b (final_entry state w) = (room_of kept b).state state ≡ true
