-- States whose rooms stand side by side in one store, and what an arc that is put in its room makes of them.
use Rattle.std.proofs.Common.{◌≡◌, ℕ, zero, suc, ◌+◌, ◌<◌, ◌≤◌, ◌-◌, List, [], ◌∷◌, ◌++◌, length, map, set, get_or, take, drop, refl, sym, ap, ap₂, ◌∙◌, subst, arith}
use Rattle.std.specs.List.{All}
use Rattle.std.proofs.lemmas.List.{drop-set-add, drop-set-lt, drop-take, length-drop, length-set, length-take-le, take-set-le, take_more_set}
use Rattle.std.proofs.lemmas.List.Elements.{All-cons, All-nil}
use Rattle.std.proofs.lemmas.List.Sums.{sum_by-cons}
use Rattle.fst_machine.specs.Machine.{Arc, State, arc_total, bare_state, changed, with_arc}
use Rattle.fst_machine.specs.Placing.{AreInRooms, ArePlaced, Placed, arc_counts, begin_of, rooms_of}
use Rattle.fst_machine.specs.Store.{Slot, LiesIn, kept_from, kept_states, slot_arcs}
use Rattle.fst_machine.proofs.Keeping.{kept_from-push, none_apart}
use Rattle.fst_machine.proofs.Retaining.{arcs_here}

-- the rooms begin before they end
begin_low : {V : Type 0} (slots : List (Slot V)) (end : ℕ) → AreInRooms slots end → begin_of slots end ≤ end
begin_low [] end in_rooms = omega arith
begin_low (s ∷ slots) end in_rooms = omega (arith, in_rooms.0, begin_low slots end in_rooms.1)

-- a state has as many arcs as its slot counts
pub counts_are : {V : Type 0} (store : List (Arc V ℕ)) (from end : ℕ) (slots : List (Slot V)) → AreInRooms slots end → end ≤ length store → arc_counts (kept_from store [] from slots) ≡ map (λ s. s.count) slots
counts_are store from end [] in_rooms inside = refl
counts_are store from end (s ∷ slots) in_rooms inside =
    let below = begin_low slots end in_rooms.1 in
    let own : length (slot_arcs store [] from s) ≡ s.count = ap length (arcs_here store from s) ∙ length-take-le s.count (drop s.first store) (omega (arith, in_rooms.0, below, inside, length-drop s.first store)) in
    ap₂ (λ n ns. n ∷ ns) own (counts_are store (suc from) end slots in_rooms.1 inside)

-- what has room is there
pub room_low : {V : Type 0} (slots : List (Slot V)) (end i n : ℕ) → n < get_or (rooms_of slots end) i 0 → i < length slots
room_low [] end i n room = absurd (omega (arith, room))
room_low (s ∷ slots) end zero n room = omega arith
room_low (s ∷ slots) end (suc i) n room = omega (arith, room_low slots end i n room)

-- each part lies in the store
pub parts_lie : {V : Type 0} (slots : List (Slot V)) (end size : ℕ) → AreInRooms slots end → end ≤ size → All (LiesIn size) slots
parts_lie [] end size in_rooms inside = All-nil (LiesIn size)
parts_lie (s ∷ slots) end size in_rooms inside = All-cons (LiesIn size) s slots (λ some. omega (arith, in_rooms.0, begin_low slots end in_rooms.1, inside)) (parts_lie slots end size in_rooms.1 inside)

-- ---- an arc that is put

-- the slot with one more arc
abbrev pub slot_more : {V : Type 0} → Slot V → Slot V
slot_more s = record { final = s.final; first = s.first; count = s.count + 1 }

-- a store with another arc in front of all these parts
kept_behind_place : {V : Type 0} (store : List (Arc V ℕ)) (arc : Arc V ℕ) (place from end : ℕ) (slots : List (Slot V)) → AreInRooms slots end → place < begin_of slots end → kept_from (set store place arc) [] from slots ≡ kept_from store [] from slots
kept_behind_place store arc place from end [] in_rooms low = refl
kept_behind_place store arc place from end (s ∷ slots) in_rooms low =
    let own : slot_arcs (set store place arc) [] from s ≡ slot_arcs store [] from s =
    arcs_here (set store place arc) from s ∙ (ap (take s.count) (drop-set-lt s.first store place arc low) ∙ sym (arcs_here store from s)) in
    ap₂ (λ arcs ss. record { final = s.final; arcs = arcs } ∷ ss) own (kept_behind_place store arc place (suc from) end slots in_rooms.1 (omega (arith, in_rooms.0, low)))

-- behind this part
kept_before_place : {V : Type 0} (store : List (Arc V ℕ)) (arc : Arc V ℕ) (place from : ℕ) (s : Slot V) → s.first + s.count ≤ place → slot_arcs (set store place arc) [] from s ≡ slot_arcs store [] from s
kept_before_place store arc place from s low =
    arcs_here (set store place arc) from s
    ∙ (sym (drop-take s.first s.count (set store place arc)) ∙ (ap (drop s.first) (take-set-le (s.first + s.count) store place arc low) ∙ (drop-take s.first s.count store ∙ sym (arcs_here store from s))))

-- what is there after an arc was put
pub record IsPut {V : Type 0} (arc : Arc V ℕ) (store : List (Arc V ℕ)) (from end : ℕ) (slots : List (Slot V)) (i : ℕ) (s : Slot V) : Type 0 where
  pub states : kept_from (set store (s.first + s.count) arc) [] from (set slots i (slot_more s)) ≡ changed (with_arc arc) (kept_from store [] from slots) i
  pub rooms : rooms_of (set slots i (slot_more s)) end ≡ rooms_of slots end
  pub in_rooms : AreInRooms (set slots i (slot_more s)) end
  pub begins : begin_of (set slots i (slot_more s)) end ≡ begin_of slots end
  pub low : begin_of slots end ≤ s.first + s.count
  pub inside : s.first + s.count < end

pub put_from : {V : Type 0} (arc : Arc V ℕ) (store : List (Arc V ℕ)) (from end : ℕ) (slots : List (Slot V)) (i : ℕ) (s : Slot V) → AreInRooms slots end → end ≤ length store → s ≡ get_or slots i s → get_or (map (λ (t : Slot V). t.count) slots) i 0 < get_or (rooms_of slots end) i 0 → IsPut arc store from end slots i s
put_from arc store from end [] i s in_rooms inside read room = absurd (omega (arith, room))
put_from {V} arc store from end (x ∷ slots) zero s in_rooms inside read room = subst (λ (t : Slot V). IsPut arc store from end (x ∷ slots) 0 t) (sym read) here
  where
    place : ℕ
    place = x.first + x.count

    before : place < begin_of slots end
    before = omega (arith, room)

    low_end : begin_of slots end ≤ end
    low_end = begin_low slots end in_rooms.1

    own : slot_arcs (set store (x.first + x.count) arc) [] from (slot_more x) ≡ slot_arcs store [] from x ++ arc ∷ []
    own =
        arcs_here (set store (x.first + x.count) arc) from (slot_more x)
        ∙ (ap (take (x.count + 1)) (drop-set-add x.first store x.count arc)
        ∙ (take_more_set (drop x.first store) x.count arc (omega (arith, before, low_end, inside, length-drop x.first store))
        ∙ ap (λ arcs. arcs ++ arc ∷ []) (sym (arcs_here store from x))))

    here : IsPut arc store from end (x ∷ slots) 0 x
    here = record {
      states = ap₂ (λ arcs ss. record { final = x.final; arcs = arcs } ∷ ss) own (kept_behind_place store arc (x.first + x.count) (suc from) end slots in_rooms.1 before);
      rooms = refl;
      in_rooms = (omega (arith, before), in_rooms.1);
      begins = refl;
      low = omega arith;
      inside = omega (arith, before, low_end);
    }
put_from {V} arc store from end (x ∷ slots) (suc i) s in_rooms inside read room =
    let rest = put_from arc store (suc from) end slots i s in_rooms.1 inside read room in
    record {
      states = ap₂ (λ arcs ss. record { final = x.final; arcs = arcs } ∷ ss) (kept_before_place store arc (s.first + s.count) from x (omega (arith, in_rooms.0, rest.low))) rest.states;
      rooms = ap₂ (λ n ns. (n - x.first) ∷ ns) rest.begins rest.rooms;
      in_rooms = (subst (λ (n : ℕ). x.first + x.count ≤ n) (sym rest.begins) in_rooms.0, rest.in_rooms);
      begins = refl;
      low = omega (arith, in_rooms.0, rest.low);
      inside = rest.inside;
    }

-- the states as they are seen
abbrev pub placed_of : {V : Type 0} → List (Slot V) → List (Arc V ℕ) → ℕ → Placed V
placed_of slots store end = record { states = kept_states store [] slots; rooms = rooms_of slots end; left = length store - end }

-- there is room where they show it
pub seen_room : {V : Type 0} (store : List (Arc V ℕ)) (end : ℕ) (slots : List (Slot V)) (i : ℕ) (seen : Placed V) → ArePlaced slots end (length store) → placed_of slots store end ≡ seen → get_or (arc_counts seen.states) i 0 < get_or seen.rooms i 0 → get_or (map (λ (t : Slot V). t.count) slots) i 0 < get_or (rooms_of slots end) i 0
seen_room {V} store end slots i seen placed is room =
    let counts : get_or (map (λ (t : Slot V). t.count) slots) i 0 ≡ get_or (arc_counts seen.states) i 0 =
    ap (λ ns. get_or ns i 0) (sym (counts_are store 0 end slots placed.rooms placed.inside) ∙ ap (λ (p : Placed V). arc_counts p.states) is) in
    let rooms : get_or (rooms_of slots end) i 0 ≡ get_or seen.rooms i 0 = ap (λ (p : Placed V). get_or p.rooms i 0) is in
    omega (arith, counts, rooms, room)

pub slot_there : {V : Type 0} (store : List (Arc V ℕ)) (end : ℕ) (slots : List (Slot V)) (i : ℕ) (seen : Placed V) → ArePlaced slots end (length store) → placed_of slots store end ≡ seen → get_or (arc_counts seen.states) i 0 < get_or seen.rooms i 0 → i < length slots
slot_there {V} store end slots i seen placed is room = room_low slots end i (get_or (map (λ (t : Slot V). t.count) slots) i 0) (seen_room store end slots i seen placed is room)

pub put_seen : {V : Type 0} (arc : Arc V ℕ) (store : List (Arc V ℕ)) (end : ℕ) (slots : List (Slot V)) (i : ℕ) (s : Slot V) (seen : Placed V) → ArePlaced slots end (length store) → placed_of slots store end ≡ seen → get_or (arc_counts seen.states) i 0 < get_or seen.rooms i 0 → s ≡ get_or slots i s → IsPut arc store 0 end slots i s
put_seen arc store end slots i s seen placed is room read = put_from arc store 0 end slots i s placed.rooms placed.inside read (seen_room store end slots i seen placed is room)

-- and then they are seen with the arc
pub seen-put : {V : Type 0} (arc : Arc V ℕ) (store : List (Arc V ℕ)) (end : ℕ) (slots : List (Slot V)) (i : ℕ) (s : Slot V) (seen : Placed V) → placed_of slots store end ≡ seen → IsPut arc store 0 end slots i s → placed_of (set slots i (slot_more s)) (set store (s.first + s.count) arc) end ≡ record { states = changed (with_arc arc) seen.states i; rooms = seen.rooms; left = seen.left }
seen-put {V} arc store end slots i s seen is put =
    let states : kept_states (set store (s.first + s.count) arc) [] (set slots i (slot_more s)) ≡ changed (with_arc arc) seen.states i = put.states ∙ ap (λ (p : Placed V). changed (with_arc arc) p.states i) is in
    let rooms : rooms_of (set slots i (slot_more s)) end ≡ seen.rooms = put.rooms ∙ ap (λ (p : Placed V). p.rooms) is in
    let left : length (set store (s.first + s.count) arc) - end ≡ seen.left = ap (λ n. n - end) (length-set store (s.first + s.count) arc) ∙ ap (λ (p : Placed V). p.left) is in
    λ k. record { states = states k; rooms = rooms k; left = left k }

pub ArePlaced-put : {V : Type 0} (arc : Arc V ℕ) (store : List (Arc V ℕ)) (end : ℕ) (slots : List (Slot V)) (i : ℕ) (s : Slot V) → ArePlaced slots end (length store) → IsPut arc store 0 end slots i s → ArePlaced (set slots i (slot_more s)) end (length (set store (s.first + s.count) arc))
ArePlaced-put arc store end slots i s placed is =
    let same : length (set store (s.first + s.count) arc) ≡ length store = length-set store (s.first + s.count) arc in
    record {
      begins = is.begins ∙ placed.begins;
      rooms = is.in_rooms;
      inside = omega (arith, same, placed.inside);
      few = omega (arith, same, placed.few);
    }

-- ---- a state that is put

abbrev pub slot_at : {V : Type 0} → V → ℕ → Slot V
slot_at w first = record { final = w; first = first; count = 0 }

begin-push : {V : Type 0} (slots : List (Slot V)) (w : V) (end room : ℕ) → begin_of (slots ++ slot_at w end ∷ []) (end + room) ≡ begin_of slots end
begin-push [] w end room = refl
begin-push (s ∷ slots) w end room = refl

pub rooms-push : {V : Type 0} (slots : List (Slot V)) (w : V) (end room : ℕ) → rooms_of (slots ++ slot_at w end ∷ []) (end + room) ≡ rooms_of slots end ++ room ∷ []
rooms-push [] w end room = let same : (end + room) - end ≡ room = omega arith in ap (λ n. n ∷ []) same
rooms-push (s ∷ slots) w end room = ap₂ (λ n ns. (n - s.first) ∷ ns) (begin-push slots w end room) (rooms-push slots w end room)

in_rooms-push : {V : Type 0} (slots : List (Slot V)) (w : V) (end room : ℕ) → AreInRooms slots end → AreInRooms (slots ++ slot_at w end ∷ []) (end + room)
in_rooms-push [] w end room in_rooms = (omega arith, tt)
in_rooms-push (s ∷ slots) w end room in_rooms = (subst (λ (n : ℕ). s.first + s.count ≤ n) (sym (begin-push slots w end room)) in_rooms.0, in_rooms-push slots w end room in_rooms.1)

pub states-push : {V : Type 0} (store : List (Arc V ℕ)) (slots : List (Slot V)) (w : V) (end : ℕ) → kept_states store [] (slots ++ slot_at w end ∷ []) ≡ kept_states store [] slots ++ bare_state w ∷ []
states-push {V} store slots w end = kept_from-push store [] [] 0 slots (slot_at w end) (λ state. none_apart V end state)

pub ArePlaced-push : {V : Type 0} (slots : List (Slot V)) (w : V) (end room size : ℕ) → ArePlaced slots end size → end + room ≤ size → ArePlaced (slots ++ slot_at w end ∷ []) (end + room) size
ArePlaced-push slots w end room size placed fits = record {
  begins = begin-push slots w end room ∙ placed.begins;
  rooms = in_rooms-push slots w end room placed.rooms;
  inside = fits;
  few = placed.few;
}

-- and then they are seen with it
pub seen-push : {V : Type 0} (store : List (Arc V ℕ)) (end room : ℕ) (slots : List (Slot V)) (w : V) (seen : Placed V) → placed_of slots store end ≡ seen → placed_of (slots ++ slot_at w end ∷ []) store (end + room) ≡ record { states = seen.states ++ bare_state w ∷ []; rooms = seen.rooms ++ room ∷ []; left = seen.left - room }
seen-push {V} store end room slots w seen is =
    let states : kept_states store [] (slots ++ slot_at w end ∷ []) ≡ seen.states ++ bare_state w ∷ [] = states-push store slots w end ∙ ap (λ (p : Placed V). p.states ++ bare_state w ∷ []) is in
    let rooms : rooms_of (slots ++ slot_at w end ∷ []) (end + room) ≡ seen.rooms ++ room ∷ [] = rooms-push slots w end room ∙ ap (λ (p : Placed V). p.rooms ++ room ∷ []) is in
    let before : length store - end ≡ seen.left = ap (λ (p : Placed V). p.left) is in
    let left : length store - (end + room) ≡ seen.left - room = omega (arith, before) in
    λ k. record { states = states k; rooms = rooms k; left = left k }

-- ---- all rooms are full

-- where each state has as many arcs as it has room for, all have as many as there is room
full_total : {V : Type 0} (states : List (State V)) (slots : List (Slot V)) (end : ℕ) → AreInRooms slots end → arc_counts states ≡ rooms_of slots end → arc_total states + begin_of slots end ≡ end
full_total [] [] end in_rooms full = omega arith
full_total [] (s ∷ slots) end in_rooms full = absurd (let size : 0 ≡ suc (length (rooms_of slots end)) = ap length full in omega (arith, size))
full_total (t ∷ states) [] end in_rooms full = absurd (let size : suc (length (arc_counts states)) ≡ 0 = ap length full in omega (arith, size))
full_total {V} (t ∷ states) (s ∷ slots) end in_rooms full =
    let own : length t.arcs ≡ begin_of slots end - s.first = ap (λ ns. get_or ns 0 0) full in
    let rest = full_total states slots end in_rooms.1 (ap (drop 1) full) in
    let all = sum_by-cons (λ (u : State V). length u.arcs) t states in
    omega (arith, own, rest, all, in_rooms.0)

pub full_store : {V : Type 0} (states : List (State V)) (slots : List (Slot V)) (end size : ℕ) → ArePlaced slots end size → arc_counts states ≡ rooms_of slots end → size - end ≡ 0 → size ≡ arc_total states
full_store states slots end size placed full given = omega (arith, full_total states slots end placed.rooms full, placed.begins, placed.inside, given)
