-- The marked states of those that are kept in one store, kept in front of it.
use Rattle.std.proofs.Common.{◌≡◌, ℕ, zero, suc, ◌+◌, ◌<◌, ◌≤◌, ◌-◌, Bool, true, false, cond, List, [], ◌∷◌, ◌++◌, length, set, get_or, take, drop, refl, sym, ap, ◌∙◌, subst, append_assoc, append-nil, arith}
use Rattle.std.specs.List.{All}
use Rattle.std.proofs.lemmas.List.{get_or_default, length-append, length-take-le, take_all, drop_all}
use Rattle.std.proofs.Math.Seq.{drop-cons, drop-drop, get_or-drop, take-suc-set}
use Rattle.fst_machine.specs.Machine.{Arc, State, arc_total}
use Rattle.fst_machine.specs.Renumbered.{marked_arcs, marked_states, renumbered}
use Rattle.fst_machine.specs.Retaining.{IsRetained}
use Rattle.fst_machine.specs.SideBySide.{Follow, end_of}
use Rattle.fst_machine.specs.Store.{Slot, LiesIn, kept_state, kept_states, slot_arcs, part_or, arcs_apart}
use Rattle.fst_machine.proofs.Keeping.{Pushed, kept_length, kept_read, lies_at, pushed, slot_behind}

-- the marked ones of the states before the i-th are kept: their arcs end at a place, and what follows the arcs of the old states is as it was
pub record IsRetaining {V : Type 0} (marks : List Bool) (numbers : List ℕ) (slots : List (Slot V)) (store new_store : List (Arc V ℕ)) (i end : ℕ) (new_slots : List (Slot V)) : Type 0 where
  pub behind : ℕ
  pub low : end ≤ behind
  pub inside : behind ≤ length store
  pub size : length new_store ≡ length store
  pub rest : drop behind new_store ≡ drop behind store
  pub follow : Follow behind (drop i slots)
  pub states : kept_states (take end new_store) [] new_slots ++ marked_states marks numbers i (drop i (kept_states store [] slots)) ≡ marked_states marks numbers 0 (kept_states store [] slots)
  pub counted : end ≡ arc_total (kept_states (take end new_store) [] new_slots)
  pub parts : All (LiesIn end) new_slots

-- the first of what follows, and what follows behind it
pub follow_at : {V : Type 0} (slots : List (Slot V)) (i behind : ℕ) (s : Slot V) → i < length slots → get_or slots i s ≡ s → Follow behind (drop i slots) → (0 < s.count → behind ≤ s.first) × Follow (end_of behind s.first s.count) (drop (i + 1) slots)
follow_at {V} slots i behind s within read follow =
    let step : i + 1 ≡ suc i = omega arith in
    let here : drop i slots ≡ s ∷ drop (i + 1) slots = drop-cons slots i s within ∙ (ap (λ (t : Slot V). t ∷ drop (suc i) slots) read ∙ ap (λ n. s ∷ drop n slots) (sym step)) in
    subst (λ (ss : List (Slot V)). Follow behind ss) here follow

-- the elements of a list from a place on, of which the first is read in another list that is the same from there on
pub part_at : {X : Type 0} (old store : List X) (place n : ℕ) (a d : X) → place < length store → length store ≡ length old → get_or store place d ≡ a → drop place store ≡ drop place old → place < n → take (n - place) (drop place old) ≡ a ∷ take (n - (place + 1)) (drop (place + 1) old)
part_at {X} old store place n a d within size read same more =
    let step : place + 1 ≡ suc place = omega arith in
    let read_old : get_or old place d ≡ a = sym (get_or_from old) ∙ (ap (λ l. get_or l 0 d) (sym same) ∙ (get_or_from store ∙ read)) in
    let here : drop place old ≡ a ∷ drop (place + 1) old = drop-cons old place d (omega (arith, size, within)) ∙ (ap (λ (t : X). t ∷ drop (suc place) old) read_old ∙ ap (λ k. a ∷ drop k old) (sym step)) in
    let count : n - place ≡ suc (n - (place + 1)) = omega (arith, more) in
    ap (λ k. take k (drop place old)) count ∙ ap (take (suc (n - (place + 1)))) here
  where
    get_or_from : (l : List X) → get_or (drop place l) 0 d ≡ get_or l place d
    get_or_from l = let same_place : place + 0 ≡ place = omega arith in get_or-drop place l 0 d ∙ ap (λ k. get_or l k d) same_place

module _ {V : Type 0} (marks : List Bool) (numbers : List ℕ) (old store before : List (Arc V ℕ)) (first count place end : ℕ) (a d : Arc V ℕ) where
  abbrev rest_at : ℕ → List (Arc V ℕ)
  rest_at p = marked_arcs marks numbers (take (first + count - p) (drop p old))

  -- an arc that does not lead to a marked state
  pub passed : place < length store → length store ≡ length old → get_or store place d ≡ a → drop place store ≡ drop place old → place < first + count → get_or marks a.next false ≡ false → take end store ++ rest_at place ≡ before → take end store ++ rest_at (place + 1) ≡ before
  passed within size read same more not_marked kept =
      let here : rest_at place ≡ rest_at (place + 1) =
      ap (marked_arcs marks numbers) (part_at old store place (first + count) a d within size read same more)
      ∙ ap (λ b. cond b (renumbered numbers a ∷ rest_at (place + 1)) (rest_at (place + 1))) not_marked in
      ap (λ l. take end store ++ l) (sym here) ∙ kept

  -- one that does
  pub put : place < length store → length store ≡ length old → get_or store place d ≡ a → drop place store ≡ drop place old → place < first + count → end ≤ place → get_or marks a.next false ≡ true → take end store ++ rest_at place ≡ before → take (end + 1) (set store end (renumbered numbers a)) ++ rest_at (place + 1) ≡ before
  put within size read same more low is_marked kept =
      let here : rest_at place ≡ renumbered numbers a ∷ rest_at (place + 1) =
      ap (marked_arcs marks numbers) (part_at old store place (first + count) a d within size read same more)
      ∙ ap (λ b. cond b (renumbered numbers a ∷ rest_at (place + 1)) (rest_at (place + 1))) is_marked in
      let step : end + 1 ≡ suc end = omega arith in
      let grown : take (end + 1) (set store end (renumbered numbers a)) ≡ take end store ++ renumbered numbers a ∷ [] =
      ap (λ k. take k (set store end (renumbered numbers a))) step ∙ take-suc-set store end (renumbered numbers a) (omega (arith, low, within)) in
      ap (λ l. l ++ rest_at (place + 1)) grown
      ∙ (append_assoc (take end store) (renumbered numbers a ∷ []) (rest_at (place + 1))
      ∙ (ap (λ l. take end store ++ l) (sym here) ∙ kept))

-- the arcs of a state where no list stands apart
pub arcs_here : {V : Type 0} (store : List (Arc V ℕ)) (i : ℕ) (s : Slot V) → slot_arcs store [] i s ≡ take s.count (drop s.first store)
arcs_here {V} store i s = by_count s.count
  where
    by_first : (first : ℕ) → arcs_apart {V = V} [] first i ≡ []
    by_first zero = refl
    by_first (suc place) = refl

    by_count : (count : ℕ) → part_or count (take count (drop s.first store)) (arcs_apart [] s.first i) ≡ take count (drop s.first store)
    by_count zero = by_first s.first
    by_count (suc more) = refl

-- from a later place on two lists are the same too
pub drop_later : {X : Type 0} (old store : List X) (place later : ℕ) → place ≤ later → drop place store ≡ drop place old → drop later store ≡ drop later old
drop_later {X} old store place later low same = sym (from store) ∙ (ap (drop (later - place)) same ∙ from old)
  where
    from : (l : List X) → drop (later - place) (drop place l) ≡ drop later l
    from l = let whole : place + (later - place) ≡ later = omega (arith, low) in drop-drop (later - place) place l ∙ ap (λ n. drop n l) whole

-- so are their parts there
pub take_same : {X : Type 0} (old store : List X) (first count : ℕ) → (0 < count → drop first store ≡ drop first old) → take count (drop first store) ≡ take count (drop first old)
take_same old store first zero same = refl
take_same old store first (suc more) same = ap (take (suc more)) (same (omega arith))

-- the place behind a state is no less than the one before it, lies in the store, and leaves room for its arcs
pub end_low : (behind first count : ℕ) → (0 < count → behind ≤ first) → behind ≤ end_of behind first count
end_low behind first zero low = omega arith
end_low behind first (suc more) low = omega (arith, low (omega arith))

pub end_inside : (behind first count n : ℕ) → behind ≤ n → (0 < count → first + count ≤ n) → end_of behind first count ≤ n
end_inside behind first zero n low inside = low
end_inside behind first (suc more) n low inside = inside (omega arith)

end_high : (behind first count end next : ℕ) → end ≤ behind → (0 < count → behind ≤ first) → next ≤ end + count → next ≤ end_of behind first count
end_high behind first zero end next before low few = omega (arith, before, few)
end_high behind first (suc more) end next before low few = omega (arith, before, few, low (omega arith))

pub end_past : (behind first count : ℕ) → 0 < count → first + count ≤ end_of behind first count
end_past behind first zero some = absurd (omega (arith, some))
end_past behind first (suc more) some = omega arith

module _ {V : Type 0} (marks : List Bool) (numbers : List ℕ) (slots : List (Slot V)) (old store : List (Arc V ℕ)) (i end : ℕ) (kept : List (Slot V)) (s d : Slot V) (within : i < length slots) (is_read : get_or slots i d ≡ s) (parts : All (LiesIn (length old)) slots) (is : IsRetaining marks numbers slots old store i end kept) where
  read : get_or slots i s ≡ s
  read = get_or_default slots i s d within ∙ is_read

  abbrev state_arcs : List (Arc V ℕ)
  state_arcs = take s.count (drop s.first old)

  abbrev rest : List (State V)
  rest = marked_states marks numbers (i + 1) (drop (i + 1) (kept_states old [] slots))

  abbrev own : List (Arc V ℕ)
  own = marked_arcs marks numbers state_arcs

  -- the states from here on
  here : drop i (kept_states old [] slots) ≡ record { final = s.final; arcs = state_arcs } ∷ drop (i + 1) (kept_states old [] slots)
  here =
      let count = kept_length old [] 0 slots in
      let step : i + 1 ≡ suc i = omega arith in
      drop-cons (kept_states old [] slots) i (kept_state old [] i s) (omega (arith, within, count))
      ∙ (ap (λ (t : State V). t ∷ drop (suc i) (kept_states old [] slots)) (sym (kept_read old [] slots i s (sym read)) ∙ ap (λ (arcs : List (Arc V ℕ)). record { final = s.final; arcs = arcs }) (arcs_here old i s))
      ∙ ap (λ n. record { final = s.final; arcs = state_arcs } ∷ drop n (kept_states old [] slots)) (sym step))

  marked_here : marked_states marks numbers i (drop i (kept_states old [] slots)) ≡ cond (get_or marks i false) (record { final = s.final; arcs = own } ∷ rest) rest
  marked_here = ap (marked_states marks numbers i) here

  follows : (0 < s.count → is.behind ≤ s.first) × Follow (end_of is.behind s.first s.count) (drop (i + 1) slots)
  follows = follow_at slots i is.behind s within read is.follow

  abbrev next : ℕ
  next = end_of is.behind s.first s.count

  low_next : is.behind ≤ next
  low_next = end_low is.behind s.first s.count follows.0

  inside_next : next ≤ length old
  inside_next = end_inside is.behind s.first s.count (length old) is.inside (lies_at slots (length old) i s parts within (sym read))

  -- a state that is not marked
  pub skipped : get_or marks i false ≡ false → IsRetaining marks numbers slots old store (i + 1) end kept
  skipped not_marked = record {
    behind = next;
    low = omega (arith, is.low, low_next);
    inside = inside_next;
    size = is.size;
    rest = drop_later old store is.behind next low_next is.rest;
    follow = follows.1;
    states = ap (λ l. kept_states (take end store) [] kept ++ l) (sym (marked_here ∙ ap (λ b. cond b (record { final = s.final; arcs = own } ∷ rest) rest) not_marked)) ∙ is.states;
    counted = is.counted;
    parts = is.parts;
  }

  -- one that is marked
  pub put_state : get_or marks i false ≡ true → (new_store : List (Arc V ℕ)) (new_end : ℕ) (new_kept : List (Slot V)) → take new_end new_store ≡ take end store ++ marked_arcs marks numbers (take s.count (drop s.first store)) → ((n : ℕ) → (0 < s.count → s.first + s.count ≤ n) → drop n new_store ≡ drop n store) → length new_store ≡ length store → end ≤ new_end → new_end ≤ end + s.count → new_kept ≡ kept ++ record { final = s.final; first = end; count = new_end - end } ∷ [] → IsRetaining marks numbers slots old new_store (i + 1) new_end new_kept
  put_state is_marked new_store new_end new_kept put_arcs behind size more few pushed_one =
      let whole : take new_end new_store ≡ take end store ++ own = put_arcs ∙ ap (λ l. take end store ++ marked_arcs marks numbers l) (take_same old store s.first s.count (λ some. drop_later old store is.behind s.first (follows.0 some) is.rest)) in
      let high : new_end ≤ next = end_high is.behind s.first s.count end new_end is.low follows.0 few in
      let before : length (take end store) ≡ end = length-take-le end store (omega (arith, is.low, is.inside, is.size)) in
      let after : length (take new_end new_store) ≡ new_end = length-take-le new_end new_store (omega (arith, high, inside_next, size, is.size)) in
      let sum : length (take end store ++ own) ≡ length (take end store) + length own = length-append (take end store) own in
      let same_length : length (take new_end new_store) ≡ length (take end store ++ own) = ap length whole in
      let count : new_end - end ≡ length own = omega (arith, before, after, sum, same_length) in
      let slot : record { final = s.final; first = end; count = new_end - end } ≡ slot_behind (take end store) s.final own =
      ap (λ n. record { final = s.final; first = n; count = new_end - end }) (sym before) ∙ ap (λ n. record { final = s.final; first = length (take end store); count = n }) count in
      let p : Pushed (take end store) own (take new_end new_store) kept new_kept s.final =
      pushed (take end store) own (take new_end new_store) kept new_kept s.final (subst (λ n. All (LiesIn n) kept) (sym before) is.parts) (before ∙ is.counted) whole (pushed_one ∙ ap (λ (x : Slot V). kept ++ x ∷ []) slot) in
      record {
        behind = next;
        low = high;
        inside = inside_next;
        size = size ∙ is.size;
        rest = behind next (end_past is.behind s.first s.count) ∙ drop_later old store is.behind next low_next is.rest;
        follow = follows.1;
        states = ap (λ l. l ++ rest) p.states
            ∙ (append_assoc (kept_states (take end store) [] kept) (record { final = s.final; arcs = own } ∷ []) rest
            ∙ (ap (λ l. kept_states (take end store) [] kept ++ l) (sym (marked_here ∙ ap (λ b. cond b (record { final = s.final; arcs = own } ∷ rest) rest) is_marked)) ∙ is.states));
        counted = sym after ∙ p.counted;
        parts = subst (λ n. All (LiesIn n) new_kept) after p.parts;
      }

-- all states were looked at
pub retained : {V : Type 0} (marks : List Bool) (numbers : List ℕ) (slots : List (Slot V)) (old store : List (Arc V ℕ)) (i end : ℕ) (kept : List (Slot V)) → length slots ≤ i → IsRetaining marks numbers slots old store i end kept → IsRetained marks numbers slots old (take end store) kept
retained marks numbers slots old store i end kept done is =
    let count = kept_length old [] 0 slots in
    let none : drop i (kept_states old [] slots) ≡ [] = drop_all i (kept_states old [] slots) (omega (arith, count, done)) in
    let size : length (take end store) ≡ end = length-take-le end store (omega (arith, is.low, is.inside, is.size)) in
    record {
      states = sym (append-nil (kept_states (take end store) [] kept)) ∙ (ap (λ l. kept_states (take end store) [] kept ++ marked_states marks numbers i l) (sym none) ∙ is.states);
      counted = size ∙ is.counted;
      parts = subst (λ n. All (LiesIn n) kept) (sym size) is.parts;
    }

-- a list whose elements were all written is what was written
pub written_back : {X : Type 0} (old new : List X) (len : ℕ) → len ≡ length old → length new ≡ length old → take len (new ++ drop (length new) old) ≡ new
written_back old new len e size =
    ap (λ l. take len (new ++ l)) (drop_all (length new) old (omega (arith, size))) ∙ (ap (take len) (append-nil new) ∙ take_all len new (omega (arith, e, size)))
