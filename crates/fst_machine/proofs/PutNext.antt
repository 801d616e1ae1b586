-- The states of a machine that is given away, which get arcs more where they stand.
use Rattle.std.proofs.Common.{◌≡◌, ℕ, zero, suc, ◌+◌, ◌<◌, ◌≤◌, ◌-◌, None, Option, Some, List, [], ◌∷◌, ◌++◌, length, map, set, get_or, slice_get, take, drop, refl, sym, ap, ◌∙◌, subst, append_assoc, arith}
use Rattle.std.specs.List.{All}
use Rattle.std.proofs.lemmas.List.{drop-set-lt, get_or_default, length-append, length-drop, length-set, length-take-le, take_all, take_more_set}
use Rattle.std.proofs.lemmas.List.Elements.{All-drop, recursion_from_All}
use Rattle.std.proofs.lemmas.Slice.{drop-append-drop}
use Rattle.std.proofs.Math.Seq.{drop-cons, drop-drop, take-suc-set}
use Rattle.fst_machine.specs.Extending.{shifted, wrapped}
use Rattle.fst_machine.specs.Machine.{Arc, State, arc_total}
use Rattle.fst_machine.specs.SideBySide.{Follow, end_of}
use Rattle.fst_machine.specs.Spreading.{IsSpreading}
use Rattle.fst_machine.specs.Store.{Slot, LiesIn, kept_from, kept_state, kept_states}
use Rattle.fst_machine.proofs.Extending.{wrapped_here}
use Rattle.fst_machine.proofs.Keeping.{Pushed, kept_length, pushed, slot_behind}
use Rattle.fst_machine.proofs.Retaining.{arcs_here, drop_later, end_inside, end_low, end_past, follow_at, part_at, take_same, written_back}

-- an arc was copied to a place before its own
pub copied : {V : Type 0} (by : ℕ) (old store before : List (Arc V ℕ)) (first count place end : ℕ) (a d : Arc V ℕ) → place < length store → length store ≡ length old → get_or store place d ≡ a → drop place store ≡ drop place old → place < first + count → end ≤ place → take end store ++ map (wrapped by) (take (first + count - place) (drop place old)) ≡ before → take (end + 1) (set store end (wrapped by a)) ++ map (wrapped by) (take (first + count - (place + 1)) (drop (place + 1) old)) ≡ before
copied {V} by old store before first count place end a d within size read same more low kept =
    let rest : List (Arc V ℕ) = map (wrapped by) (take (first + count - (place + 1)) (drop (place + 1) old)) in
    let here : map (wrapped by) (take (first + count - place) (drop place old)) ≡ wrapped by a ∷ rest = ap (map (wrapped by)) (part_at old store place (first + count) a d within size read same more) in
    let step : end + 1 ≡ suc end = omega arith in
    let grown : take (end + 1) (set store end (wrapped by a)) ≡ take end store ++ wrapped by a ∷ [] =
    ap (λ k. take k (set store end (wrapped by a))) step ∙ take-suc-set store end (wrapped by a) (omega (arith, low, within)) in
    ap (λ l. l ++ rest) grown
    ∙ (append_assoc (take end store) (wrapped by a ∷ []) rest
    ∙ (ap (λ l. take end store ++ l) (sym here) ∙ kept))

-- behind arcs that were written to a place a store is as it was
pub written : {X : Type 0} (store arcs new : List X) (first : ℕ) → first + length arcs ≤ length store → new ≡ take first store ++ (arcs ++ drop (length arcs) (drop first store)) → (n : ℕ) → first + length arcs ≤ n → drop n new ≡ drop n store
written {X} store arcs new first inside is n past =
    let k : ℕ = first + length arcs in
    let front : List X = take first store ++ arcs in
    let rest : drop (length arcs) (drop first store) ≡ drop k store = drop-drop (length arcs) first store in
    let whole : new ≡ front ++ drop k store = is ∙ (ap (λ l. take first store ++ (arcs ++ l)) rest ∙ sym (append_assoc (take first store) arcs (drop k store))) in
    let low : length (take first store) ≡ first = length-take-le first store (omega (arith, inside)) in
    let size : length front ≡ k = length-append (take first store) arcs ∙ ap (λ m. m + length arcs) low in
    ap (drop n) whole ∙ drop-append-drop k store front n past size

-- the states whose parts begin behind a place, from which on the store is the same
same_states : {V : Type 0} (old new : List (Arc V ℕ)) (behind i j : ℕ) (slots : List (Slot V)) → drop behind new ≡ drop behind old → Follow behind slots → kept_from new [] i slots ≡ kept_from old [] j slots
same_states old new behind i j [] same follow = refl
same_states {V} old new behind i j (s ∷ slots) same follow =
    let later : drop (end_of behind s.first s.count) new ≡ drop (end_of behind s.first s.count) old = drop_later old new behind (end_of behind s.first s.count) (end_low behind s.first s.count follow.0) same in
    ap (λ (arcs : List (Arc V ℕ)). record { final = s.final; arcs = arcs } ∷ kept_from new [] (suc i) slots)
    (arcs_here new i s ∙ (take_same old new s.first s.count (λ some. drop_later old new behind s.first (follow.0 some) same) ∙ sym (arcs_here old j s)))
    ∙ ap (λ ss. kept_state old [] j s ∷ ss) (same_states old new (end_of behind s.first s.count) (suc i) (suc j) slots later follow.1)

-- where there is room before a part, there is room before its end, for its arcs too
room_before : (back place first count end : ℕ) → (0 < count → place ≤ first) → end ≤ back + place → end + count ≤ back + end_of place first count
room_before back place first zero end low room = omega (arith, room)
room_before back place first (suc more) end low room = omega (arith, room, low (omega arith))

-- all states are done
spread_all : {V : Type 0} (slots : List (Slot V)) (state : ℕ) (store : List (Arc V ℕ)) (from : ℕ) → kept_from store [] from (drop state slots) ≡ [] → take state slots ≡ slots
spread_all slots state store from none =
    let count : length (drop state slots) ≡ length slots - state = length-drop state slots in
    let left : length (drop state slots) ≡ 0 = sym (kept_length store [] from (drop state slots)) ∙ ap length none in
    take_all state slots (omega (arith, count, left))

pub listed : {V : Type 0} (slots : List (Slot V)) (store new : List (Arc V ℕ)) (state end back place : ℕ) → IsSpreading slots store state end back place → kept_states (drop back store) [] (drop state slots) ≡ [] → new ≡ take end store → (length new ≡ arc_total (kept_states new [] slots)) × All (LiesIn (length new)) slots × (kept_states new [] slots ≡ kept_states (take end store) [] (take state slots))
listed {V} slots store new state end back place is none cut =
    let all : take state slots ≡ slots = spread_all slots state (drop back store) 0 none in
    let size : length new ≡ end = ap length cut ∙ length-take-le end store (omega (arith, is.low, is.inside)) in
    let same : kept_states new [] slots ≡ kept_states (take end store) [] (take state slots) = ap (λ st. kept_states st [] slots) cut ∙ ap (kept_states (take end store) []) (sym all) in
    (size ∙ (is.counted ∙ ap arc_total (sym same)), subst (λ n. All (LiesIn n) slots) (sym size) (subst (λ (ss : List (Slot V)). All (LiesIn end) ss) all is.parts), same)

-- how many states are left
pub left_length : {V : Type 0} (slots : List (Slot V)) (store : List (Arc V ℕ)) (state : ℕ) (left : List (State V)) → kept_states store [] (drop state slots) ≡ left → length left ≡ length slots - state
left_length slots store state left is = sym (ap length is) ∙ (kept_length store [] 0 (drop state slots) ∙ length-drop state slots)

-- the arcs of a state that was found
abbrev arcs_found : {V : Type 0} → Option (State V) → List (Arc V ℕ)
arcs_found None = []
arcs_found (Some s) = s.arcs

module _ {V : Type 0} (slots : List (Slot V)) (old : List (Arc V ℕ)) (state end back place : ℕ) (s d : Slot V) (within : state < length slots) (is_read : get_or slots state d ≡ s) (is : IsSpreading slots old state end back place) where
  read : get_or slots state s ≡ s
  read = get_or_default slots state s d within ∙ is_read

  abbrev pub state_arcs : List (Arc V ℕ)
  state_arcs = take s.count (drop s.first (drop back old))

  abbrev others : List (Slot V)
  others = drop (state + 1) slots

  here : drop state slots ≡ s ∷ others
  here =
      let step : state + 1 ≡ suc state = omega arith in
      drop-cons slots state s within ∙ (ap (λ (t : Slot V). t ∷ drop (suc state) slots) read ∙ ap (λ n. s ∷ drop n slots) (sym step))

  -- the first state that is left
  left_here : kept_states (drop back old) [] (drop state slots) ≡ record { final = s.final; arcs = state_arcs } ∷ kept_from (drop back old) [] 1 others
  left_here = ap (kept_states (drop back old) []) here ∙ ap (λ (arcs : List (Arc V ℕ)). record { final = s.final; arcs = arcs } ∷ kept_from (drop back old) [] 1 others) (arcs_here (drop back old) 0 s)

  pub first_left : slice_get (kept_states (drop back old) [] (drop state slots)) 0 ≡ Some (record { final = s.final; arcs = state_arcs })
  first_left = ap (λ ss. slice_get ss 0) left_here

  pub first_arcs : (left : List (State V)) (t : State V) → kept_states (drop back old) [] (drop state slots) ≡ left → slice_get left 0 ≡ Some t → state_arcs ≡ t.arcs
  first_arcs left t is e = ap arcs_found (sym first_left ∙ (ap (λ ss. slice_get ss 0) is ∙ e))

  follows : (0 < s.count → place ≤ s.first) × Follow (end_of place s.first s.count) others
  follows = follow_at slots state place s within read is.follow

  abbrev pub next : ℕ
  next = end_of place s.first s.count

  lies : LiesIn (length old - back) s
  lies =
      let some : 0 < length (drop state slots) = omega (arith, within, length-drop state slots) in
      subst (λ (ss : List (Slot V)). LiesIn (length old - back) (get_or ss 0 s)) here (is.others 0 s some)

  inside_next : back + next ≤ length old
  inside_next = (let low = end_inside place s.first s.count (length old - back) (omega (arith, is.inside)) lies in omega (arith, low, is.inside))

  -- its part lies in the store, behind the arcs of the states that are done
  pub part_inside : 0 < s.count → back + s.first + s.count ≤ length old
  part_inside some = omega (arith, lies some, is.inside)

  pub part_behind : 0 < s.count → end ≤ back + s.first
  part_behind some = omega (arith, follows.0 some, is.low)

  pub room_behind : (more : ℕ) → more ≤ back + place - end → end + s.count + more ≤ length old
  room_behind more room = (let enough = room_before back place s.first s.count (end + more) follows.0 (omega (arith, room, is.low)) in omega (arith, enough, inside_next))

  pub record IsPut (new_slots : List (Slot V)) (new : List (Arc V ℕ)) (last : V) (by : ℕ) (more : List (Arc V ℕ)) (new_end new_place : ℕ) : Type 0 where
    pub invariant : IsSpreading new_slots new (state + 1) new_end back new_place
    pub done : kept_states (take new_end new) [] (take (state + 1) new_slots) ≡ kept_states (take end old) [] (take state slots) ++ record { final = last; arcs = map (shifted by) state_arcs ++ more } ∷ []
    pub left : kept_states (drop back new) [] (drop (state + 1) new_slots) ≡ drop 1 (kept_states (drop back old) [] (drop state slots))

  -- the state has its final weight, its arcs and those behind them
  put : (new_slots : List (Slot V)) (new : List (Arc V ℕ)) (last : V) (by : ℕ) (more : List (Arc V ℕ)) (new_end : ℕ) → new_end ≡ end + s.count + length more → length more ≤ back + place - end → All (λ a. by + a.next < 4294967296) state_arcs → take new_end new ≡ take end old ++ (map (wrapped by) (take s.count (drop (back + s.first) old)) ++ more) → ((n : ℕ) → (0 < s.count → back + s.first + s.count ≤ n) → new_end ≤ n → drop n new ≡ drop n old) → length new ≡ length old → new_slots ≡ set slots state (record { final = last; first = end; count = s.count + length more }) → IsPut new_slots new last by more new_end next
  put new_slots new last by more new_end is_end room places put_arcs behind size put_slot =
      let own : List (Arc V ℕ) = map (shifted by) state_arcs ++ more in
      let moved : map (wrapped by) (take s.count (drop (back + s.first) old)) ≡ map (shifted by) state_arcs =
      ap (λ l. map (wrapped by) (take s.count l)) (sym (drop-drop s.first back old)) ∙ wrapped_here by state_arcs (recursion_from_All (λ a. by + a.next < 4294967296) state_arcs places) in
      let whole : take new_end new ≡ take end old ++ own = put_arcs ∙ ap (λ l. take end old ++ (l ++ more)) moved in
      let enough : end + length more + s.count ≤ back + next = room_before back place s.first s.count (end + length more) follows.0 (omega (arith, room, is.low)) in
      let before : length (take end old) ≡ end = length-take-le end old (omega (arith, is.low, is.inside)) in
      let after : length (take new_end new) ≡ new_end = length-take-le new_end new (omega (arith, is_end, enough, inside_next, size)) in
      let sum : length (take end old ++ own) ≡ length (take end old) + length own = length-append (take end old) own in
      let same_length : length (take new_end new) ≡ length (take end old ++ own) = ap length whole in
      let count : s.count + length more ≡ length own = omega (arith, is_end, before, after, sum, same_length) in
      let slot : record { final = last; first = end; count = s.count + length more } ≡ slot_behind (take end old) last own =
      ap (λ (n : ℕ). record { final = last; first = n; count = s.count + length more }) (sym before) ∙ ap (λ (n : ℕ). record { final = last; first = length (take end old); count = n }) count in
      let grown : take (state + 1) new_slots ≡ take state slots ++ slot_behind (take end old) last own ∷ [] =
      ap (take (state + 1)) put_slot ∙ (take_more_set slots state (record { final = last; first = end; count = s.count + length more }) within ∙ ap (λ (x : Slot V). take state slots ++ x ∷ []) slot) in
      let rest : drop (state + 1) new_slots ≡ others =
      ap (drop (state + 1)) put_slot ∙ drop-set-lt (state + 1) slots state (record { final = last; first = end; count = s.count + length more }) (omega arith) in
      let p : Pushed (take end old) own (take new_end new) (take state slots) (take (state + 1) new_slots) last =
      pushed (take end old) own (take new_end new) (take state slots) (take (state + 1) new_slots) last (subst (λ n. All (LiesIn n) (take state slots)) (sym before) is.parts) (before ∙ is.counted) whole grown in
      let same : drop next (drop back new) ≡ drop next (drop back old) =
      drop-drop next back new ∙ (behind (back + next) (λ some. omega (arith, end_past place s.first s.count some)) (omega (arith, is_end, enough)) ∙ sym (drop-drop next back old)) in
      let width : length old - back ≡ length new - back = ap (λ n. n - back) (sym size) in
      record {
        invariant = record {
          states = (let still : length new_slots ≡ length slots = ap length put_slot ∙ length-set slots state (record { final = last; first = end; count = s.count + length more }) in omega (arith, still, within));
          parts = subst (λ n. All (LiesIn n) (take (state + 1) new_slots)) after p.parts;
          counted = sym after ∙ p.counted;
          low = omega (arith, is_end, enough);
          inside = omega (arith, inside_next, size);
          others = subst (λ (ss : List (Slot V)). All (LiesIn (length new - back)) ss) (drop-drop 1 state slots ∙ sym rest) (subst (λ n. All (LiesIn n) (drop 1 (drop state slots))) width (All-drop (LiesIn (length old - back)) 1 (drop state slots) is.others));
          follow = subst (λ (ss : List (Slot V)). Follow next ss) (sym rest) follows.1;
          few_arcs = omega (arith, size, is.few_arcs);
        };
        done = p.states;
        left = ap (kept_states (drop back new) []) rest ∙ (same_states (drop back old) (drop back new) next 0 1 others same follows.1 ∙ sym (ap (drop 1) left_here));
      }

  -- the same of a store that was lent
  pub put_back : (new_slots : List (Slot V)) (lent new : List (Arc V ℕ)) (len : ℕ) (last : V) (by : ℕ) (more : List (Arc V ℕ)) (new_end new_place : ℕ) → lent ≡ old → length lent ≡ len → new_end ≡ end + s.count + length more → new_place ≡ next → length more ≤ back + place - end → All (λ a. by + a.next < 4294967296) state_arcs → take (end + s.count + length more) new ≡ take end lent ++ (map (wrapped by) (take s.count (drop (back + s.first) lent)) ++ more) → ((n : ℕ) → (0 < s.count → back + s.first + s.count ≤ n) → end + s.count + length more ≤ n → drop n new ≡ drop n lent) → length new ≡ length lent → new_slots ≡ set slots state (record { final = last; first = end; count = s.count + length more }) → IsPut new_slots (take len (new ++ drop (length new) old)) last by more new_end new_place
  put_back new_slots lent new len last by more new_end new_place same count is_end is_place room places front behind size put_slot =
      let all : List (Arc V ℕ) = take len (new ++ drop (length new) old) in
      let is_new : all ≡ new = written_back old new len (sym count ∙ ap length same) (size ∙ ap length same) in
      subst (λ n. IsPut new_slots all last by more new_end n) (sym is_place)
      (put new_slots all last by more new_end is_end room places
      (ap (λ n. take n all) is_end ∙ (ap (take (end + s.count + length more)) is_new ∙ (front ∙ ap (λ (l : List (Arc V ℕ)). take end l ++ (map (wrapped by) (take s.count (drop (back + s.first) l)) ++ more)) same)))
      (λ n past far. ap (drop n) is_new ∙ (behind n past (omega (arith, is_end, far)) ∙ ap (drop n) same))
      (ap length is_new ∙ (size ∙ ap length same))
      put_slot)
