-- Tables from numbers to places, in a list of slots.
use Rattle.std.specs.Prelude.{
  ◌≡◌,
  ◌≢◌,
  ℕ,
  ◌+◌,
  ◌-◌,
  ◌*◌,
  ◌/◌,
  ◌%◌,
  ◌^◌,
  ◌==◌,
  Bool,
  true,
  List,
  drop,
  get_or,
  ◌<◌,
  ◌≤◌,
  nat_lt,
  min,
  length,
  Option,
  Some,
  None,
  if◌then◌else◌,
}
use Rattle.std.specs.BTreeMap.{BTreeMap, get}
use Rattle.std.specs.List.{position_or_len}
use Rattle.std.specs.Option.{option_or}
use Rattle.std.specs.Ordering.{nat_cmp}
use Rattle.fst_table.specs.declared.flat_table.Slot.{Slot}

-- a slot of a table of places; the greatest number of 32 bits stands for none
abbrev pub place_in_slot : ℕ → Option ℕ
place_in_slot slot = if slot == 4294967295 then None else Some slot

-- the slot that holds a number, as two numbers of 32 bits, and its place
abbrev pub slot_of : ℕ → ℕ → Slot
slot_of n place = record { low = n % 4294967296; high = n / 4294967296; place = place }

abbrev pub number_of : Slot → ℕ
number_of slot = slot.low + slot.high * 4294967296

abbrev pub empty_slot : Slot
empty_slot = slot_of 0 4294967295

-- the first slot of a number among so many; nothing hangs on which one it is
unfoldable pub first_slot : ℕ → ℕ → ℕ
first_slot len n =
    let once = n * 11400714819323198485 % 2 ^ 64 in
    let twice = (once + once / 2 ^ 32) % 2 ^ 64 * 15485907386658061715 % 2 ^ 64 in
    twice / 2 ^ 32 * (len - min (len / 16) 32) % 2 ^ 64 / 2 ^ 32

-- the probe for a number ends where a slot is empty or holds it
abbrev pub ends_probe : ℕ → Slot → Bool
ends_probe n slot = if slot.place == 4294967295 then true else number_of slot == n

-- the slot at which the probe for a number ends, from this one on
abbrev pub probe_from : List Slot → ℕ → ℕ → ℕ
probe_from slots n at = at + position_or_len (ends_probe n) (drop at slots)

-- the slot at which it ends
abbrev pub probe_end : List Slot → ℕ → ℕ
probe_end slots n = probe_from slots n (first_slot (length slots) n)

-- a probe looks at 32 slots at most, at those before this one
abbrev pub window_end : List Slot → ℕ → ℕ
window_end slots n = min (first_slot (length slots) n + 32) (length slots)

-- the slot at which it ends among these; the number of slots where it ends at none of them
abbrev pub probed_slot : List Slot → ℕ → ℕ
probed_slot slots n = if nat_lt (probe_end slots n) (window_end slots n) then probe_end slots n else length slots

-- the number and the place in a slot; a slot behind the last is empty
abbrev pub number_at : List Slot → ℕ → ℕ
number_at slots k = number_of (get_or slots k empty_slot)

abbrev pub place_at : List Slot → ℕ → ℕ
place_at slots k = (get_or slots k empty_slot).place

-- the place of a number in the slots
abbrev pub placed_in_slots : List Slot → ℕ → Option ℕ
placed_in_slots slots n = place_in_slot (place_at slots (probe_end slots n))

-- the place of a number in the slots, or else in the map
abbrev pub placed_among : List Slot → BTreeMap ℕ ℕ → ℕ → Option ℕ
placed_among slots overflow n = option_or (placed_in_slots slots n) (get nat_cmp overflow n)

-- each number is where its probe ends
abbrev pub IsProbed : List Slot → Type 0
IsProbed slots = (k : ℕ) → place_at slots k ≢ 4294967295 → probe_end slots (number_at slots k) ≡ k

-- and its probe looks there
abbrev pub IsNear : List Slot → Type 0
IsNear slots = (k : ℕ) → place_at slots k ≢ 4294967295 → k < window_end slots (number_at slots k)

-- the probe for a number meets no empty slot
abbrev pub MeetsNoEmpty : List Slot → ℕ → Type 0
MeetsNoEmpty slots n = (k : ℕ) → first_slot (length slots) n ≤ k → k < window_end slots n → place_at slots k ≢ 4294967295

-- so a number is in the map: its probe meets no empty slot, it is in no slot, and its place is not the one of empty slots
abbrev pub Overflows : List Slot → ℕ → ℕ → Type 0
Overflows slots n p = MeetsNoEmpty slots n × (placed_in_slots slots n ≡ None) × (p < 4294967295)

abbrev pub IsOverflow : List Slot → BTreeMap ℕ ℕ → Type 0
IsOverflow slots overflow = (n p : ℕ) → get nat_cmp overflow n ≡ Some p → Overflows slots n p

-- one more number with its place
abbrev pub with_place : (ℕ → Option ℕ) → ℕ → ℕ → ℕ → Option ℕ
with_place found n place m = if m == n then Some place else found m
