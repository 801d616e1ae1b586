-- States whose arcs lead further on, and a state in front of others.
use Rattle.std.proofs.Common.{◌≡◌, ℕ, suc, ◌+◌, ◌<◌, ◌≤◌, List, [], ◌∷◌, ◌++◌, length, map, take, drop, refl, sym, ap, ap₂, ◌∙◌, subst, append-nil, arith}
use Rattle.std.specs.List.{All, AllByRecursion}
use Rattle.std.proofs.Math.Nat.{mod-eq_of_lt}
use Rattle.std.proofs.lemmas.List.{drop-map, drop_at, take-append-le, drop_all, length-append, length-map, take-append-drop, take-map, take_all}
use Rattle.std.proofs.lemmas.List.Elements.{All-cons, All-weaker, recursion_from_All}
use Rattle.std.proofs.lemmas.List.Sums.{sum_by-cons}
use Rattle.fst_machine.specs.Extending.{HasRoom, shifted, shifted_state, wrapped}
use Rattle.fst_machine.specs.Machine.{Arc, State, arc_total}
use Rattle.fst_machine.specs.Store.{Slot, LiesIn, kept_state, kept_from, kept_states, slot_arcs}
use Rattle.fst_machine.proofs.Keeping.{arcs_behind, kept_from-append, slot_behind}
use Rattle.fst_machine.proofs.Retaining.{arcs_here, written_back}

-- all elements are changed
pub changed_all : {X : Type 0} (f : X → X) (old now : List X) (i : ℕ) → length old ≤ i → now ≡ map f (take i old) ++ drop i old → now ≡ map f old
changed_all f old now i done is = is ∙ (ap (λ l. map f (take i old) ++ l) (drop_all i old done) ∙ (append-nil (map f (take i old)) ∙ ap (map f) (take_all i old done)))

pub changed_sized : {X : Type 0} (f : X → X) (old now : List X) (i : ℕ) → now ≡ map f (take i old) ++ drop i old → length now ≡ length old
changed_sized f old now i is =
    let whole : length now ≡ length (map f (take i old)) + length (drop i old) = ap length is ∙ length-append (map f (take i old)) (drop i old) in
    let both : length old ≡ length (take i old) + length (drop i old) = ap length (sym (take-append-drop i old)) ∙ length-append (take i old) (drop i old) in
    omega (arith, whole, both, length-map (take i old) f)

-- the state with its arcs changed
abbrev with_each : {V : Type 0} → (Arc V ℕ → Arc V ℕ) → State V → State V
with_each f s = record { final = s.final; arcs = map f s.arcs }

-- where the arcs of a store are changed, those of each state are
kept_each : {V : Type 0} (f : Arc V ℕ → Arc V ℕ) (store : List (Arc V ℕ)) (from : ℕ) (slots : List (Slot V)) → kept_from (map f store) [] from slots ≡ map (with_each f) (kept_from store [] from slots)
kept_each f store from [] = refl
kept_each {V} f store from (s ∷ slots) =
    let arcs : slot_arcs (map f store) [] from s ≡ map f (slot_arcs store [] from s) =
    arcs_here (map f store) from s ∙ (ap (take s.count) (drop-map f s.first store) ∙ (take-map f s.count (drop s.first store) ∙ ap (map f) (sym (arcs_here store from s)))) in
    ap (λ (xs : List (Arc V ℕ)). record { final = s.final; arcs = xs } ∷ kept_from (map f store) [] (suc from) slots) arcs
    ∙ ap (λ ss. with_each f (kept_state store [] from s) ∷ ss) (kept_each f store (suc from) slots)

-- where there is room, no number is wrapped
pub wrapped_here : {V : Type 0} (by : ℕ) (arcs : List (Arc V ℕ)) → AllByRecursion (λ a. by + a.next < 4294967296) arcs → map (wrapped by) arcs ≡ map (shifted by) arcs
wrapped_here by [] room = refl
wrapped_here {V} by (a ∷ arcs) room =
    ap (λ (n : ℕ). record { ilabel = a.ilabel; olabel = a.olabel; weight = a.weight; next = n } ∷ map (wrapped by) arcs) (mod-eq_of_lt room.0)
    ∙ ap (λ rest. shifted by a ∷ rest) (wrapped_here by arcs room.1)

wrapped_all : {V : Type 0} (by : ℕ) (states : List (State V)) → AllByRecursion (HasRoom by) states → map (with_each (wrapped by)) states ≡ map (shifted_state by) states
wrapped_all by [] room = refl
wrapped_all {V} by (s ∷ states) room =
    ap (λ (xs : List (Arc V ℕ)). record { final = s.final; arcs = xs } ∷ map (with_each (wrapped by)) states) (wrapped_here by s.arcs (recursion_from_All (λ a. by + a.next < 4294967296) s.arcs room.0))
    ∙ ap (λ ss. shifted_state by s ∷ ss) (wrapped_all by states room.1)

-- so the states lead further on
pub states_shifted : {V : Type 0} (by : ℕ) (store : List (Arc V ℕ)) (slots : List (Slot V)) → All (HasRoom by) (kept_states store [] slots) → kept_states (map (wrapped by) store) [] slots ≡ map (shifted_state by) (kept_states store [] slots)
states_shifted by store slots room = kept_each (wrapped by) store 0 slots ∙ wrapped_all by (kept_states store [] slots) (recursion_from_All (HasRoom by) (kept_states store [] slots) room)

-- and have as many arcs
arc_total-shifted : {V : Type 0} (by : ℕ) (states : List (State V)) → arc_total (map (shifted_state by) states) ≡ arc_total states
arc_total-shifted by [] = refl
arc_total-shifted by (s ∷ states) =
    let all = sum_by-cons (λ t. length t.arcs) (shifted_state by s) (map (shifted_state by) states) in
    let own = sum_by-cons (λ t. length t.arcs) s states in
    omega (arith, all, own, arc_total-shifted by states, length-map s.arcs (shifted by))

-- what holds of the fields where arcs were shifted
pub shifted_fields : {V : Type 0} (by : ℕ) (store new : List (Arc V ℕ)) (slots : List (Slot V)) → new ≡ map (wrapped by) store → All (HasRoom by) (kept_states store [] slots) → (length store ≡ arc_total (kept_states store [] slots)) × All (LiesIn (length store)) slots → (length new ≡ arc_total (kept_states new [] slots)) × All (LiesIn (length new)) slots
shifted_fields {V} by store new slots is room h =
    let size : length new ≡ length store = ap length is ∙ length-map store (wrapped by) in
    let states : kept_states new [] slots ≡ map (shifted_state by) (kept_states store [] slots) = ap (λ st. kept_states st [] slots) is ∙ states_shifted by store slots room in
    (size ∙ (h.0 ∙ (sym (arc_total-shifted by (kept_states store [] slots)) ∙ ap arc_total (sym states))), subst (λ (n : ℕ). All (LiesIn n) slots) (sym size) h.1)

-- where no list stands apart, what number the first state has does not matter
kept_anywhere : {V : Type 0} (store : List (Arc V ℕ)) (from other : ℕ) (slots : List (Slot V)) → kept_from store [] from slots ≡ kept_from store [] other slots
kept_anywhere store from other [] = refl
kept_anywhere {V} store from other (s ∷ slots) =
    ap (λ (xs : List (Arc V ℕ)). record { final = s.final; arcs = xs } ∷ kept_from store [] (suc from) slots) (arcs_here store from s ∙ sym (arcs_here store other s))
    ∙ ap (λ ss. kept_state store [] other s ∷ ss) (kept_anywhere store (suc from) (suc other) slots)

-- a state stands in front, with its arcs behind those of the others
pub states_front : {V : Type 0} (store arcs : List (Arc V ℕ)) (slots : List (Slot V)) (w : V) → All (LiesIn (length store)) slots → kept_states (store ++ arcs) [] (slot_behind store w arcs ∷ slots) ≡ record { final = w; arcs = arcs } ∷ kept_states store [] slots
states_front {V} store arcs slots w inside =
    ap (λ (xs : List (Arc V ℕ)). record { final = w; arcs = xs } ∷ kept_from (store ++ arcs) [] 1 slots) (arcs_behind store arcs w 0)
    ∙ ap (λ ss. record { final = w; arcs = arcs } ∷ ss) (kept_from-append store arcs [] [] 1 slots (λ first other behind. refl) (recursion_from_All (LiesIn (length store)) slots inside) ∙ kept_anywhere store 1 0 slots)

-- what then holds of the fields
pub record IsFronted {V : Type 0} (store arcs new_store : List (Arc V ℕ)) (slots new_slots : List (Slot V)) (w : V) : Type 0 where
  pub states : kept_states new_store [] new_slots ≡ record { final = w; arcs = arcs } ∷ kept_states store [] slots
  pub counted : length new_store ≡ arc_total (kept_states new_store [] new_slots)
  pub parts : All (LiesIn (length new_store)) new_slots

pub fronted : {V : Type 0} (store arcs new_store : List (Arc V ℕ)) (slots new_slots : List (Slot V)) (w : V) (first : ℕ) → first ≡ length store → (length store ≡ arc_total (kept_states store [] slots)) × All (LiesIn (length store)) slots → new_store ≡ store ++ arcs → new_slots ≡ record { final = w; first = first; count = length arcs } ∷ slots → IsFronted store arcs new_store slots new_slots w
fronted {V} store arcs new_store slots new_slots w first behind h grown put =
    let states = states_front store arcs slots w h.1 in
    let sums = sum_by-cons (λ (s : State V). length s.arcs) (record { final = w; arcs = arcs }) (kept_states store [] slots) in
    let n : length (store ++ arcs) ≡ length store + length arcs = length-append store arcs in
    let Inside : Slot V → Type 0 = LiesIn (length (store ++ arcs)) in
    let there : IsFronted store arcs (store ++ arcs) slots (slot_behind store w arcs ∷ slots) w = record {
      states = states;
      counted = (let all = ap arc_total states in omega (arith, n, h.0, sums, all));
      parts = All-cons Inside (slot_behind store w arcs) slots (λ some. omega (arith, n)) (All-weaker (LiesIn (length store)) Inside (λ s lies some. omega (arith, n, lies some)) slots h.1);
    } in
    let placed : new_slots ≡ slot_behind store w arcs ∷ slots = put ∙ ap (λ (k : ℕ). record { final = w; first = k; count = length arcs } ∷ slots) behind in
    subst (λ (ss : List (Slot V)). IsFronted store arcs new_store slots ss w) (sym placed) (subst (λ (st : List (Arc V ℕ)). IsFronted store arcs st slots (slot_behind store w arcs ∷ slots) w) (sym grown) there)

-- a store that was lent and changed
pub written_each : {V : Type 0} (by len : ℕ) (old lent new : List (Arc V ℕ)) → lent ≡ old → length lent ≡ len → new ≡ map (wrapped by) lent → take len (new ++ drop (length new) old) ≡ map (wrapped by) old
written_each by len old lent new same count is =
    let all : new ≡ map (wrapped by) old = is ∙ ap (map (wrapped by)) same in
    written_back old new len (sym count ∙ ap length same) (ap length all ∙ length-map old (wrapped by)) ∙ all

-- arcs at the end of a store were changed
pub written_behind : {V : Type 0} (by len first : ℕ) (store arcs grown lent new : List (Arc V ℕ)) → first ≡ length store → AllByRecursion (λ a. by + a.next < 4294967296) arcs → grown ≡ store ++ arcs → lent ≡ grown → length lent ≡ len → new ≡ take first lent ++ map (wrapped by) (drop first lent) → take len (new ++ drop (length new) grown) ≡ store ++ map (shifted by) arcs
written_behind {V} by len first store arcs grown lent new behind room grows same count is =
    let whole : lent ≡ store ++ arcs = same ∙ grows in
    let front : take first lent ≡ store = ap (take first) whole ∙ (ap (λ (k : ℕ). take k (store ++ arcs)) behind ∙ take_left store arcs) in
    let back : drop first lent ≡ arcs = ap (drop first) whole ∙ drop_at store arcs first (sym behind) in
    let all : new ≡ store ++ map (shifted by) arcs = is ∙ (ap₂ (λ (xs ys : List (Arc V ℕ)). xs ++ map (wrapped by) ys) front back ∙ ap (λ ys. store ++ ys) (wrapped_here by arcs room)) in
    let size : length new ≡ length grown = ap length all ∙ (length-append store (map (shifted by) arcs) ∙ (ap (λ (k : ℕ). length store + k) (length-map arcs (shifted by)) ∙ (sym (length-append store arcs) ∙ ap length (sym grows)))) in
    written_back grown new len (sym count ∙ ap length same) size ∙ all
  where
    take_left : (xs ys : List (Arc V ℕ)) → take (length xs) (xs ++ ys) ≡ xs
    take_left xs ys = take-append-le (length xs) xs ys (omega arith) ∙ take_all (length xs) xs (omega arith)

-- a slot of arcs that were changed, as many
pub shifted_slot : {V : Type 0} (by first : ℕ) (store arcs : List (Arc V ℕ)) (slots reserved new : List (Slot V)) (w : V) → first ≡ length store → reserved ≡ slots → new ≡ reserved ++ record { final = w; first = first; count = length arcs } ∷ [] → new ≡ slots ++ slot_behind store w (map (shifted by) arcs) ∷ []
shifted_slot by first store arcs slots reserved new w behind same put =
    put ∙ (ap (λ ss. ss ++ record { final = w; first = first; count = length arcs } ∷ []) same
    ∙ (ap (λ n. slots ++ record { final = w; first = n; count = length arcs } ∷ []) behind ∙ ap (λ n. slots ++ record { final = w; first = length store; count = n } ∷ []) (sym (length-map arcs (shifted by)))))
