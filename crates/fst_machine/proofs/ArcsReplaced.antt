-- One state gets other arcs, where its own stand.
use Rattle.std.proofs.Common.{◌≡◌, ◌⊎◌, inl, inr, Bool, false, eqb, true≢false, ℕ, zero, suc, ◌+◌, ◌<◌, ◌≤◌, List, [], ◌∷◌, ◌++◌, Option, None, Some, length, get_or, set, slice_get, take, drop, refl, sym, ap, ◌∙◌, subst, arith}
use Rattle.std.specs.List.{All}
use Rattle.std.specs.Option.{option_map}
use Rattle.std.proofs.lemmas.Bool.{cases_lt, eq-eqb}
use Rattle.std.proofs.lemmas.List.{drop-drop, drop-set-lt, length-drop, length-set, length-take-le, nil_from_length, take_all, take_more_set}
use Rattle.std.proofs.lemmas.Option.{same_Some, slice_get_within, slice_get_read, get_or_from_slice_get}
use borrow.Rule.Slice.PartMut.{put_mid}
use Rattle.fst_semiring.specs.Cost.{Cost}
use Rattle.fst_machine.specs.ArcsChanged.{part_of, with_new_arcs}
use Rattle.fst_machine.specs.Machine.{Arc, State, Machine, IsArc, IsMachine, arc_total, changed}
use Rattle.fst_machine.specs.SideBySide.{Follow}
use Rattle.fst_machine.specs.Store.{Slot, LiesIn, kept_state, kept_from, kept_states, slot_arcs}
use Rattle.fst_machine.specs.KeptMachine.{IsKept}
use Rattle.fst_machine.proofs.ArcsChanged.{IsKept-sized, arc_total-sized, follow_apart, length-put_mid, part_behind, part_below, part_itself}
use Rattle.fst_machine.proofs.Changes.{IsMachine-set, set-changed}
use Rattle.fst_machine.proofs.Keeping.{kept_get, kept_length}
use Rattle.fst_machine.proofs.Retaining.{arcs_here, written_back}

-- a part that lies in the store has as many arcs as it counts
part_length : {V : Type 0} (store : List (Arc V ℕ)) (s : Slot V) → LiesIn (length store) s → length (part_of s store) ≡ s.count
part_length {V} store s lies = by_count (cases_lt 0 s.count)
  where
    by_count : (0 < s.count) ⊎ (s.count ≤ 0) → length (part_of s store) ≡ s.count
    by_count (inl some) = length-take-le s.count (drop s.first store) (omega (arith, lies some, length-drop s.first store))
    by_count (inr none) = let e : s.count ≡ 0 = omega (arith, none) in ap (λ c. length (take c (drop s.first store))) e ∙ sym e

-- a state whose part is the same is the same
kept_same : {V : Type 0} (old new : List (Arc V ℕ)) (i : ℕ) (s : Slot V) → part_of s new ≡ part_of s old → kept_state new [] i s ≡ kept_state old [] i s
kept_same old new i s same = ap (λ arcs. record { final = s.final; arcs = arcs }) (arcs_here new i s ∙ (same ∙ sym (arcs_here old i s)))

-- so are states
kept_all : {V : Type 0} (old new : List (Arc V ℕ)) (from : ℕ) (slots : List (Slot V)) → ((p : ℕ) (t : Slot V) → slice_get slots p ≡ Some t → part_of t new ≡ part_of t old) → kept_from new [] from slots ≡ kept_from old [] from slots
kept_all old new from [] same = refl
kept_all old new from (s ∷ slots) same =
    ap (λ t. t ∷ kept_from new [] (suc from) slots) (kept_same old new from s (same 0 s refl))
    ∙ ap (λ ss. kept_state old [] from s ∷ ss) (kept_all old new (suc from) slots (λ p t there. same (suc p) t there))

-- and all but one, where the parts of all but one are
kept_but : {V : Type 0} (old new ys : List (Arc V ℕ)) (from : ℕ) (slots : List (Slot V)) (i : ℕ) (s : Slot V) → ((p : ℕ) (t : Slot V) → (p ≡ i → ⊥) → slice_get slots p ≡ Some t → part_of t new ≡ part_of t old) → slice_get slots i ≡ Some s → part_of s new ≡ ys → kept_from new [] from slots ≡ set (kept_from old [] from slots) i (record { final = s.final; arcs = ys })
kept_but old new ys from [] i s others here own = absurd (cc)
kept_but {V} old new ys from (t ∷ slots) zero s others here own =
    let same : t ≡ s = same_Some t s here in
    let state : kept_state new [] from t ≡ record { final = s.final; arcs = ys } = ap (kept_state new [] from) same ∙ ap (λ arcs. record { final = s.final; arcs = arcs }) (arcs_here new from s ∙ own) in
    ap (λ u. u ∷ kept_from new [] (suc from) slots) state
    ∙ ap (λ ss. record { final = s.final; arcs = ys } ∷ ss) (kept_all old new (suc from) slots (λ p u there. others (suc p) u (λ e. omega (arith, e)) there))
kept_but old new ys from (t ∷ slots) (suc i) s others here own =
    ap (λ u. u ∷ kept_from new [] (suc from) slots) (kept_same old new from t (others 0 t (λ e. omega (arith, e)) refl))
    ∙ ap (λ ss. kept_state old [] from t ∷ ss) (kept_but old new ys (suc from) slots i s (λ p u other there. others (suc p) u (λ e. other (omega (arith, e))) there) here own)

-- what is there after a state got other arcs
pub record IsReplaced {V : Type 0} (value : V → Cost) (start : Option ℕ) (slots : List (Slot V)) (total : ℕ) (old new ys : List (Arc V ℕ)) (i : ℕ) : Type 0 where
  pub kept : IsKept slots new [] total
  pub states : kept_states new [] slots ≡ changed (with_new_arcs ys) (kept_states old [] slots) i
  pub machine : IsMachine value (record { start = start; states = kept_states new [] slots })

module _ {V : Type 0} (value : V → Cost) (start : Option ℕ) (slots : List (Slot V)) (total : ℕ) (old ys : List (Arc V ℕ)) (i : ℕ) (s : Slot V) (follow : Follow 0 slots) (kept : IsKept slots old [] total) (here : slice_get slots i ≡ Some s) where
  lies : LiesIn (length old) s
  lies =
      let low = slice_get_within slots i s here in
      subst (λ (t : Slot V). LiesIn (length old) t) (get_or_from_slice_get slots i s s here) (kept.parts i s low)

  state_here : slice_get (kept_states old [] slots) i ≡ Some (kept_state old [] i s)
  state_here = kept_get old [] slots i s (slice_get_within slots i s here) (sym (get_or_from_slice_get slots i s s here))

  -- the arcs are as many as the state has
  count_is : option_map (λ (t : State V). length t.arcs) (slice_get (kept_states old [] slots) i) ≡ Some (length ys) → length ys ≡ s.count
  count_is size =
      let both : Some (length (slot_arcs old [] i s)) ≡ Some (length ys) = sym (ap (option_map (λ (t : State V). length t.arcs)) state_here) ∙ size in
      sym (same_Some _ _ both) ∙ (ap length (arcs_here old i s) ∙ part_length old s lies)

  -- and there is room for them
  room_is : length ys ≡ s.count → 0 < length ys → s.first + length ys ≤ length old
  room_is size some = omega (arith, size, lies (omega (arith, size, some)))

  replaced : IsMachine value (record { start = start; states = kept_states old [] slots }) → length ys ≡ s.count → 0 < length ys → All (IsArc value (length (kept_states old [] slots))) ys → (new : List (Arc V ℕ)) → new ≡ put_mid s.first (length ys) old ys → IsReplaced value start slots total old new ys i
  replaced machine size some good new is = record {
    kept = IsKept-sized slots old new total same_size kept;
    states = states ∙ set-changed (with_new_arcs ys) (kept_states old [] slots) i own (kept_state old [] i s) low (sym (ap (with_new_arcs ys) (get_or_from_slice_get (kept_states old [] slots) i (kept_state old [] i s) (kept_state old [] i s) state_here)));
    machine = subst (λ (ss : List (State V)). IsMachine value (record { start = start; states = ss })) (sym states)
        (IsMachine-set value (record { start = start; states = kept_states old [] slots }) i own machine good (omega (arith, few, machine.few_arcs)));
  }
    where
      own : State V
      own = record { final = s.final; arcs = ys }

      room : s.first + length ys ≤ length old
      room = room_is size some

      same_size : length new ≡ length old
      same_size = ap length is ∙ length-put_mid old ys s.first (length ys) room refl

      low : i < length (kept_states old [] slots)
      low = slice_get_within (kept_states old [] slots) i (kept_state old [] i s) state_here

      none_same : (t : Slot V) (xs zs : List (Arc V ℕ)) → t.count ≤ 0 → part_of t xs ≡ part_of t zs
      none_same t xs zs none = let e : t.count ≡ 0 = omega (arith, none) in ap (λ c. take c (drop t.first xs)) e ∙ sym (ap (λ c. take c (drop t.first zs)) e)

      by_place : (p : ℕ) (t : Slot V) → (p ≡ i → ⊥) → slice_get slots p ≡ Some t → (0 < t.count) ⊎ (t.count ≤ 0) → (p < i) ⊎ (i ≤ p) → part_of t (put_mid s.first (length ys) old ys) ≡ part_of t old
      by_place p t other there (inr none) order = none_same t (put_mid s.first (length ys) old ys) old none
      by_place p t other there (inl more) (inl before) = part_below old ys s.first (length ys) t.first t.count (follow_apart 0 slots p i t s follow before there here more (omega (arith, size, some))) (omega (arith, room))
      by_place p t other there (inl more) (inr past) =
          let after : i < p = by_cases (cases_lt i p) in
          part_behind old ys s.first (length ys) t.first t.count (omega (arith, follow_apart 0 slots i p s t follow after here there (omega (arith, size, some)) more, size)) (omega (arith, room)) refl
        where
          by_cases : (i < p) ⊎ (p ≤ i) → i < p
          by_cases (inl h) = h
          by_cases (inr h) = absurd (other (omega (arith, h, past)))

      others : (p : ℕ) (t : Slot V) → (p ≡ i → ⊥) → slice_get slots p ≡ Some t → part_of t new ≡ part_of t old
      others p t other there = ap (part_of t) is ∙ by_place p t other there (cases_lt 0 t.count) (cases_lt p i)

      own_part : part_of s new ≡ ys
      own_part = ap (part_of s) is ∙ (ap (λ c. take c (drop s.first (put_mid s.first (length ys) old ys))) (sym size) ∙ part_itself old ys s.first (length ys) (omega (arith, room)) refl)

      states : kept_states new [] slots ≡ set (kept_states old [] slots) i own
      states = kept_but old new ys 0 slots i s others here own_part

      few : arc_total (set (kept_states old [] slots) i own) ≡ arc_total (kept_states old [] slots)
      few = ap arc_total (sym states) ∙ sym (arc_total-sized old new 0 slots (sym same_size))

-- a state without arcs gets none
pub none_replaced : {V : Type 0} (states : List (State V)) (i : ℕ) → option_map (λ (t : State V). length t.arcs) (slice_get states i) ≡ Some 0 → states ≡ changed (with_new_arcs []) states i
none_replaced [] i size = refl
none_replaced {V} (s ∷ states) zero size =
    let none : s.arcs ≡ [] = nil_from_length s.arcs (same_Some _ _ size) in
    λ k. record { final = s.final; arcs = none k } ∷ states
none_replaced (s ∷ states) (suc i) size = ap (λ ss. s ∷ ss) (none_replaced states i size)

-- there is a state whose arcs are counted
pub state_low : {V : Type 0} (states : List (State V)) (i n : ℕ) → option_map (λ (t : State V). length t.arcs) (slice_get states i) ≡ Some n → i < length states
state_low {V} states i n h = by (slice_get states i) refl h
  where
    by : (o : Option (State V)) → slice_get states i ≡ o → option_map (λ (t : State V). length t.arcs) o ≡ Some n → i < length states
    by None e h = absurd (cc)
    by (Some s) e h = slice_get_within states i s e

-- an empty list has no elements
pub some_there : {X : Type 0} (xs : List X) (b : Bool) → b ≡ eqb (length xs) 0 → b ≡ false → 0 < length xs
some_there xs b is differs = by_order (cases_lt 0 (length xs))
  where
    by_order : (0 < length xs) ⊎ (length xs ≤ 0) → 0 < length xs
    by_order (inl low) = low
    by_order (inr none) = absurd (true≢false (sym (eq-eqb (length xs) 0 (omega (arith, none))) ∙ (sym is ∙ differs)))

-- the same by what is read of a machine that is seen, and what is written of its store
module _ {V : Type 0} (value : V → Cost) (start : Option ℕ) (slots : List (Slot V)) (total : ℕ) (store ys : List (Arc V ℕ)) (i : ℕ) (m : Machine V) (follow : Follow 0 slots) (kept : IsKept slots store [] total) (is : ◌≡◌ {A = Machine V} (record { start = start; states = kept_states store [] slots }) m) (size : option_map (λ (t : State V). length t.arcs) (slice_get m.states i) ≡ Some (length ys)) (some : 0 < length ys) (s read : Slot V) (seen : s ≡ read) (at : read ≡ get_or slots i read) where
  slot_here : slice_get slots i ≡ Some s
  slot_here =
      let same : length slots ≡ length m.states = sym (kept_length store [] 0 slots) ∙ ap (λ (n : Machine V). length n.states) is in
      let low : i < length slots = omega (arith, same, state_low m.states i (length ys) size) in
      subst (λ (t : Slot V). slice_get slots i ≡ Some t) (sym seen) (slice_get_read slots (length slots) i read refl low at)

  sized : length ys ≡ s.count
  sized = count_is value start slots total store ys i s follow kept slot_here (subst (λ (n : Machine V). option_map (λ (t : State V). length t.arcs) (slice_get n.states i) ≡ Some (length ys)) (sym is) size)

  pub room_there : s.first + length ys ≤ length store
  room_there = room_is value start slots total store ys i s follow kept slot_here sized some

  pub put_there : IsMachine value (record { start = start; states = kept_states store [] slots }) → All (IsArc value (length m.states)) ys → (lent given : List (Arc V ℕ)) (len : ℕ) → lent ≡ store → given ≡ put_mid s.first (length ys) lent ys → length lent ≡ len → IsReplaced value start slots total store (take len (given ++ drop (length given) store)) ys i
  put_there machine good lent given len same put count =
      let put_so : given ≡ put_mid s.first (length ys) store ys = put ∙ ap (λ (xs : List (Arc V ℕ)). put_mid s.first (length ys) xs ys) same in
      let whole : length given ≡ length store = ap length put_so ∙ length-put_mid store ys s.first (length ys) room_there refl in
      let back : take len (given ++ drop (length given) store) ≡ given = written_back store given len (sym count ∙ ap length same) whole in
      replaced value start slots total store ys i s follow kept slot_here machine sized some (subst (λ (n : Machine V). All (IsArc value (length n.states)) ys) (sym is) good) (take len (given ++ drop (length given) store)) (back ∙ put_so)

-- ---- the states in order, each with other arcs

-- a state whose arcs are these has as many as others that are as many
pub counted_by : {V : Type 0} (o : Option (State V)) (arcs own : List (Arc V ℕ)) → option_map (λ (s : State V). s.arcs) o ≡ Some arcs → length own ≡ length arcs → option_map (λ (s : State V). length s.arcs) o ≡ Some (length own)
counted_by None arcs own h size = absurd (cc)
counted_by {V} (Some s) arcs own h size = ap Some (ap length (same_Some s.arcs arcs h) ∙ sym size)

at_drop : {X : Type 0} (xs : List X) (i : ℕ) → slice_get xs i ≡ slice_get (drop i xs) 0
at_drop [] zero = refl
at_drop [] (suc i) = refl
at_drop (x ∷ xs) zero = refl
at_drop (x ∷ xs) (suc i) = at_drop xs i

-- what is there after one more got its arcs, where those before it have theirs and the others are as they were
pub record IsNext {V : Type 0} (old now new : List (State V)) (i : ℕ) (arcs own : List (Arc V ℕ)) : Type 0 where
  pub last : V
  pub final : option_map (λ (s : State V). s.final) (slice_get old i) ≡ Some last
  pub has : option_map (λ (s : State V). s.arcs) (slice_get old i) ≡ Some arcs
  pub done : take (i + 1) new ≡ take i now ++ record { final = last; arcs = own } ∷ []
  pub rest : drop (i + 1) new ≡ drop (i + 1) old
  pub size : length new ≡ length old

pub next_replaced : {V : Type 0} (old now new : List (State V)) (i : ℕ) (arcs own : List (Arc V ℕ)) → drop i now ≡ drop i old → length now ≡ length old → option_map (λ (s : State V). s.arcs) (slice_get now i) ≡ Some arcs → new ≡ changed (with_new_arcs own) now i → IsNext old now new i arcs own
next_replaced {V} old now new i arcs own rest size has is = by (slice_get now i) refl has
  where
    by : (o : Option (State V)) → slice_get now i ≡ o → option_map (λ (s : State V). s.arcs) o ≡ Some arcs → IsNext old now new i arcs own
    by None e h = absurd (cc)
    by (Some s) e h = record {
      last = s.final;
      final = ap (option_map (λ (t : State V). t.final)) there;
      has = ap (option_map (λ (t : State V). t.arcs)) there ∙ h;
      done = ap (take (i + 1)) written ∙ take_more_set now i t low;
      rest = ap (drop (i + 1)) written ∙ (drop-set-lt (i + 1) now i t (omega arith) ∙ (sym (drop-drop 1 i now) ∙ (ap (drop 1) rest ∙ drop-drop 1 i old)));
      size = ap length written ∙ (length-set now i t ∙ size);
    }
      where
        t : State V
        t = record { final = s.final; arcs = own }

        low : i < length now
        low = slice_get_within now i s e

        there : slice_get old i ≡ Some s
        there = at_drop old i ∙ (ap (λ (ss : List (State V)). slice_get ss 0) (sym rest) ∙ (sym (at_drop now i) ∙ e))

        written : new ≡ set now i t
        written = is ∙ sym (set-changed (with_new_arcs own) now i t s low (ap (with_new_arcs own) (sym (get_or_from_slice_get now i s s e))))

-- at the end all have theirs
pub all_replaced : {V : Type 0} (old now : List (State V)) (i : ℕ) → length now ≡ length old → length old ≤ i → (take i now ≡ now) × (take i old ≡ old)
all_replaced old now i size past = (take_all i now (omega (arith, size, past)), take_all i old past)

-- arcs of a machine, by the state that has them
pub arcs_of_machine : {V : Type 0} (value : V → Cost) (m : Machine V) (i : ℕ) (arcs : List (Arc V ℕ)) → IsMachine value m → option_map (λ (s : State V). s.arcs) (slice_get m.states i) ≡ Some arcs → All (IsArc value (length m.states)) arcs
arcs_of_machine {V} value m i arcs h has = by (slice_get m.states i) refl has
  where
    by : (o : Option (State V)) → slice_get m.states i ≡ o → option_map (λ (s : State V). s.arcs) o ≡ Some arcs → All (IsArc value (length m.states)) arcs
    by None e there = absurd (cc)
    by (Some s) e there =
        let good : All (IsArc value (length m.states)) s.arcs = subst (λ (t : State V). All (IsArc value (length m.states)) t.arcs) (get_or_from_slice_get m.states i s s e) (h.arcs i s (slice_get_within m.states i s e)) in
        subst (λ (xs : List (Arc V ℕ)). All (IsArc value (length m.states)) xs) (same_Some s.arcs arcs there) good
