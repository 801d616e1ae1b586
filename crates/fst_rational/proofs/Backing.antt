-- Arcs that are put back one after the other make the reversal.
use Rattle.std.proofs.Common.{◌≡◌, ◌⊎◌, inl, inr, if◌then◌else◌, Bool, ℕ, ◌+◌, ◌<◌, ◌≤◌, ◌==◌, zero, suc, true, false, cond, List, [], ◌∷◌, ◌++◌, Option, Some, length, drop, map, get_or, slice_get, refl, sym, ap, ap₂, subst, ◌∙◌, append_assoc, append-nil, arith}
use Rattle.std.specs.List.{All, range_with_len}
use Rattle.std.specs.Option.{option_map}
use Rattle.std.proofs.lemmas.Bool.{cases_eq}
use Rattle.std.proofs.lemmas.Bool.Decides.{nat_tests}
use Rattle.std.proofs.lemmas.List.{ext_get_or, get_or-append-add, length-append, length-map, map-append}
use Rattle.std.proofs.lemmas.List.Elements.{All-append, All-cons, All-head, All-map, All-nil, All-tail}
use Rattle.std.proofs.lemmas.List.FromFn.{get_or-map-range_with_len, length-map-range_with_len}
use Rattle.std.proofs.lemmas.List.Sums.{sum_by-cons}
use Rattle.std.proofs.lemmas.Option.{slice_get-get_or}
use Rattle.fst_machine.proofs.Arcs.{mapped_some}
use Rattle.fst_semiring.specs.Cost.{Cost, best, finite, infinite}
use Rattle.fst_semiring.specs.declared.arc_type.ArcType.{ArcType}
use Rattle.fst_machine.specs.Machine.{Arc, State, Machine, IsArc, IsMachine, arc_total, changed, valued_arc, valued_state, with_arc}
use Rattle.fst_machine.specs.Graph.{no_state}
use Rattle.fst_machine.specs.Continuing.{leaving}
use Rattle.fst_rational.specs.Changing.{goings, onward}
use Rattle.fst_rational.specs.Backing.{back, put_all, put_back, turned_bare}
use Rattle.fst_rational.specs.Limits.{IsSmall}
use Rattle.fst_rational.proofs.Blocks.{onward-good}
use Rattle.fst_rational.proofs.Reversing.{turned_at}
use Rattle.fst_rational.specs.Constructions.{arcs_back, final_arcs, reverse_of, start_weight, turned_arcs, turned_state}

-- ---- one element changed

pub length-changed : {X : Type 0} (f : X → X) (xs : List X) (i : ℕ) → length (changed f xs i) ≡ length xs
length-changed f [] i = refl
length-changed f (x ∷ xs) zero = refl
length-changed f (x ∷ xs) (suc i) = ap suc (length-changed f xs i)

changed_here : {X : Type 0} (f : X → X) (xs : List X) (i : ℕ) (d : X) → i < length xs → get_or (changed f xs i) i d ≡ f (get_or xs i d)
changed_here f [] i d low = absurd (omega (arith, low))
changed_here f (x ∷ xs) zero d low = refl
changed_here f (x ∷ xs) (suc i) d low = changed_here f xs i d (omega (arith, low))

changed_other : {X : Type 0} (f : X → X) (xs : List X) (i j : ℕ) (d : X) → (i ≡ j → ⊥) → get_or (changed f xs i) j d ≡ get_or xs j d
changed_other f [] i j d apart = refl
changed_other f (x ∷ xs) zero zero d apart = absurd (apart refl)
changed_other f (x ∷ xs) zero (suc j) d apart = refl
changed_other f (x ∷ xs) (suc i) zero d apart = refl
changed_other f (x ∷ xs) (suc i) (suc j) d apart = changed_other f xs i j d (λ e. apart (ap suc e))

pub map-with_arc : {V : Type 0} (value : V → Cost) (a : Arc V ℕ) (states : List (State V)) (i : ℕ) → map (valued_state value) (changed (with_arc a) states i) ≡ changed (with_arc (valued_arc value a)) (map (valued_state value) states) i
map-with_arc value a [] i = refl
map-with_arc value a (s ∷ states) zero = ap (λ arcs. record { final = value s.final; arcs = arcs } ∷ map (valued_state value) states) (map-append (valued_arc value) s.arcs (a ∷ []))
map-with_arc value a (s ∷ states) (suc i) = ap (λ ss. valued_state value s ∷ ss) (map-with_arc value a states i)

arc_total-with_arc : (a : Arc Cost ℕ) (states : List (State Cost)) (i : ℕ) → i < length states → arc_total (changed (with_arc a) states i) ≡ arc_total states + 1
arc_total-with_arc a [] i low = absurd (omega (arith, low))
arc_total-with_arc a (s ∷ states) zero low =
    let new = sum_by-cons (λ (t : State Cost). length t.arcs) (with_arc a s) states in
    let old = sum_by-cons (λ (t : State Cost). length t.arcs) s states in
    let longer = length-append s.arcs (a ∷ []) in
    omega (arith, new, old, longer)
arc_total-with_arc a (s ∷ states) (suc i) low =
    let new = sum_by-cons (λ (t : State Cost). length t.arcs) s (changed (with_arc a) states i) in
    let old = sum_by-cons (λ (t : State Cost). length t.arcs) s states in
    omega (arith, new, old, arc_total-with_arc a states i (omega (arith, low)))

-- ---- arcs put back

pub length-put_back : (q : ℕ) (arcs : List (Arc Cost ℕ)) (states : List (State Cost)) → length (put_back q arcs states) ≡ length states
length-put_back q [] states = refl
length-put_back q (a ∷ arcs) states = length-put_back q arcs (changed (with_arc (back q a)) states (1 + a.next)) ∙ length-changed (with_arc (back q a)) states (1 + a.next)

-- what a state then has
put_back_at : (q : ℕ) (arcs : List (Arc Cost ℕ)) (states : List (State Cost)) (n r : ℕ) → length states ≡ n + 1 → All (IsArc (λ v. v) n) arcs → get_or (put_back q arcs states) (1 + r) no_state ≡ record { final = (get_or states (1 + r) no_state).final; arcs = (get_or states (1 + r) no_state).arcs ++ arcs_back r q arcs }
put_back_at q [] states n r size good = λ i. record { final = (get_or states (1 + r) no_state).final; arcs = sym (append-nil (get_or states (1 + r) no_state).arcs) i }
put_back_at q (a ∷ arcs) states n r size good = put_back_at q arcs new n r (length-changed (with_arc (back q a)) states (1 + a.next) ∙ size) (All-tail (IsArc (λ v. v) n) a arcs good) ∙ by_place (cases_eq a.next r)
  where
    new : List (State Cost)
    new = changed (with_arc (back q a)) states (1 + a.next)

    low : a.next < n
    low = (All-head (IsArc (λ v. v) n) a arcs good).next

    by_place : (a.next ≡ r) ⊎ (a.next ≡ r → ⊥) → ◌≡◌ {A = State Cost} (record { final = (get_or (changed (with_arc (back q a)) states (1 + a.next)) (1 + r) no_state).final; arcs = (get_or (changed (with_arc (back q a)) states (1 + a.next)) (1 + r) no_state).arcs ++ arcs_back r q arcs }) (record { final = (get_or states (1 + r) no_state).final; arcs = (get_or states (1 + r) no_state).arcs ++ arcs_back r q (a ∷ arcs) })
    by_place (inl e) =
        let here : get_or (changed (with_arc (back q a)) states (1 + a.next)) (1 + r) no_state ≡ with_arc (back q a) (get_or states (1 + r) no_state) = ap (λ (k : ℕ). get_or (changed (with_arc (back q a)) states (1 + k)) (1 + r) no_state) e ∙ changed_here (with_arc (back q a)) states (1 + r) no_state (omega (arith, low, size, e)) in
        let test : (a.next == r) ≡ true = grind (arith, nat_tests) in
        ap (λ (s : State Cost). record { final = s.final; arcs = s.arcs ++ arcs_back r q arcs }) here
        ∙ ap (λ arcs'. record { final = (get_or states (1 + r) no_state).final; arcs = arcs' }) (append_assoc (get_or states (1 + r) no_state).arcs (back q a ∷ []) (arcs_back r q arcs) ∙ ap (λ b. (get_or states (1 + r) no_state).arcs ++ cond b (back q a ∷ arcs_back r q arcs) (arcs_back r q arcs)) (sym test))
    by_place (inr apart) =
        let other = changed_other (with_arc (back q a)) states (1 + a.next) (1 + r) no_state (λ e. apart (omega (arith, e))) in
        let test : (a.next == r) ≡ false = grind (arith, nat_tests) in
        ap (λ (s : State Cost). record { final = s.final; arcs = s.arcs ++ arcs_back r q arcs }) other
        ∙ ap (λ b. record { final = (get_or states (1 + r) no_state).final; arcs = (get_or states (1 + r) no_state).arcs ++ cond b (back q a ∷ arcs_back r q arcs) (arcs_back r q arcs) }) (sym test)

-- the first state keeps its own
put_back_first : (q : ℕ) (arcs : List (Arc Cost ℕ)) (states : List (State Cost)) → get_or (put_back q arcs states) 0 no_state ≡ get_or states 0 no_state
put_back_first q [] states = refl
put_back_first q (a ∷ arcs) states = put_back_first q arcs (changed (with_arc (back q a)) states (1 + a.next)) ∙ changed_other (with_arc (back q a)) states (1 + a.next) 0 no_state (λ e. omega (arith, e))

arc_total-put_back : (q : ℕ) (arcs : List (Arc Cost ℕ)) (states : List (State Cost)) (n : ℕ) → length states ≡ n + 1 → All (IsArc (λ v. v) n) arcs → arc_total (put_back q arcs states) ≡ arc_total states + length arcs
arc_total-put_back q [] states n size good = omega arith
arc_total-put_back q (a ∷ arcs) states n size good =
    let low = (All-head (IsArc (λ v. v) n) a arcs good).next in
    let rest = arc_total-put_back q arcs (changed (with_arc (back q a)) states (1 + a.next)) n (length-changed (with_arc (back q a)) states (1 + a.next) ∙ size) (All-tail (IsArc (λ v. v) n) a arcs good) in
    let one = arc_total-with_arc (back q a) states (1 + a.next) (omega (arith, low, size)) in
    omega (arith, rest, one)

-- ---- the arcs of all states

pub length-put_all : (q : ℕ) (rest states : List (State Cost)) → length (put_all q rest states) ≡ length states
length-put_all q [] states = refl
length-put_all q (s ∷ rest) states = length-put_all (suc q) rest (put_back q s.arcs states) ∙ length-put_back q s.arcs states

put_all_first : (q : ℕ) (rest states : List (State Cost)) → get_or (put_all q rest states) 0 no_state ≡ get_or states 0 no_state
put_all_first q [] states = refl
put_all_first q (s ∷ rest) states = put_all_first (suc q) rest (put_back q s.arcs states) ∙ put_back_first q s.arcs states

put_all_at : (q : ℕ) (rest states : List (State Cost)) (n r : ℕ) → length states ≡ n + 1 → All (λ s. All (IsArc (λ v. v) n) s.arcs) rest → get_or (put_all q rest states) (1 + r) no_state ≡ record { final = (get_or states (1 + r) no_state).final; arcs = (get_or states (1 + r) no_state).arcs ++ turned_arcs r q rest }
put_all_at q [] states n r size good = λ i. record { final = (get_or states (1 + r) no_state).final; arcs = sym (append-nil (get_or states (1 + r) no_state).arcs) i }
put_all_at q (s ∷ rest) states n r size good =
    let Good : State Cost → Type 0 = λ t. All (IsArc (λ v. v) n) t.arcs in
    put_all_at (suc q) rest (put_back q s.arcs states) n r (length-put_back q s.arcs states ∙ size) (All-tail Good s rest good)
    ∙ (ap (λ (t : State Cost). record { final = t.final; arcs = t.arcs ++ turned_arcs r (suc q) rest }) (put_back_at q s.arcs states n r size (All-head Good s rest good))
    ∙ ap (λ arcs. record { final = (get_or states (1 + r) no_state).final; arcs = arcs }) (append_assoc (get_or states (1 + r) no_state).arcs (arcs_back r q s.arcs) (turned_arcs r (suc q) rest)))

arc_total-put_all : (q : ℕ) (rest states : List (State Cost)) (n : ℕ) → length states ≡ n + 1 → All (λ s. All (IsArc (λ v. v) n) s.arcs) rest → arc_total (put_all q rest states) ≡ arc_total states + arc_total rest
arc_total-put_all q [] states n size good = omega arith
arc_total-put_all q (s ∷ rest) states n size good =
    let Good : State Cost → Type 0 = λ t. All (IsArc (λ v. v) n) t.arcs in
    let more = arc_total-put_all (suc q) rest (put_back q s.arcs states) n (length-put_back q s.arcs states ∙ size) (All-tail Good s rest good) in
    let here = arc_total-put_back q s.arcs states n size (All-head Good s rest good) in
    let all = sum_by-cons (λ (t : State Cost). length t.arcs) s rest in
    omega (arith, more, here, all)

-- ---- the arcs of the new start

-- they are as many as the final states
leaving_count : (w : Cost) (q : ℕ) → length (leaving {N = ℕ} w q) ≡ length (leaving {N = ℕ} w 0)
leaving_count best q = refl
leaving_count (finite x y) q = refl
leaving_count infinite q = refl

pub final_count : (q : ℕ) (states : List (State Cost)) → length (final_arcs q states) ≡ goings (Some 0) states
final_count q [] = refl
final_count q (s ∷ states) =
    let all = sum_by-cons (λ (t : State Cost). length (onward t.final (Some 0))) s states in
    let both = length-append (leaving s.final q) (final_arcs (suc q) states) in
    omega (arith, all, both, leaving_count s.final q, final_count (suc q) states)

finals-good : (n q : ℕ) (states : List (State Cost)) → q + length states ≤ n → All (IsArc (λ v. v) n) (final_arcs q states)
finals-good n q [] room = All-nil (IsArc (λ v. v) n)
finals-good n q (s ∷ states) room = All-append (IsArc (λ v. v) n) (leaving s.final q) (final_arcs (suc q) states) (onward-good n s.final (Some q) (omega (arith, room))) (finals-good n (suc q) states (omega (arith, room)))

-- ---- the arcs that are turned

All-if : {X : Type 0} (P : X → Type 0) (b : Bool) (x : X) (xs : List X) → P x → All P xs → All P (if b then x ∷ xs else xs)
All-if P true x xs here rest = All-cons P x xs here rest
All-if P false x xs here rest = rest

arcs_back-good : (n r q m : ℕ) (arcs : List (Arc Cost ℕ)) → q < n → All (IsArc (λ v. v) m) arcs → All (IsArc (λ v. v) n) (arcs_back r q arcs)
arcs_back-good n r q m [] low good = All-nil (IsArc (λ v. v) n)
arcs_back-good n r q m (a ∷ arcs) low good =
    let here = All-head (IsArc (λ v. v) m) a arcs good in
    All-if (IsArc (λ v. v) n) (a.next == r) (back q a) (arcs_back r q arcs)
    (record { ilabel = here.ilabel; olabel = here.olabel; weight = here.weight; next = low })
    (arcs_back-good n r q m arcs low (All-tail (IsArc (λ v. v) m) a arcs good))

turned_arcs-good : (n r q m : ℕ) (states : List (State Cost)) → q + length states ≤ n → All (λ s. All (IsArc (λ v. v) m) s.arcs) states → All (IsArc (λ v. v) n) (turned_arcs r q states)
turned_arcs-good n r q m [] room good = All-nil (IsArc (λ v. v) n)
turned_arcs-good n r q m (s ∷ states) room good =
    let Good : State Cost → Type 0 = λ t. All (IsArc (λ v. v) m) t.arcs in
    All-append (IsArc (λ v. v) n) (arcs_back r q s.arcs) (turned_arcs r (suc q) states)
    (arcs_back-good n r q m s.arcs (omega (arith, room)) (All-head Good s states good))
    (turned_arcs-good n r (suc q) m states (omega (arith, room)) (All-tail Good s states good))

-- ---- the reversal

module _ (kind : ArcType) (a : Machine Cost) (good : IsMachine (λ v. v) a) where
  abbrev pub base : List (State Cost)
  base = record { final = infinite; arcs = final_arcs 1 a.states } ∷ map (turned_bare kind a) (range_with_len 0 (length a.states))

  pub length-base : length base ≡ length a.states + 1
  length-base = omega (arith, length-map-range_with_len (turned_bare kind a) 0 (length a.states))

  base_at : (r : ℕ) → r < length a.states → get_or base (1 + r) no_state ≡ turned_bare kind a r
  base_at r low = get_or-append-add (record { final = infinite; arcs = final_arcs 1 a.states } ∷ []) (map (turned_bare kind a) (range_with_len 0 (length a.states))) r no_state ∙ get_or-map-range_with_len (turned_bare kind a) 0 (length a.states) r r no_state low (omega arith)

  pub length-reverse : length (reverse_of kind a).states ≡ length a.states + 1
  length-reverse = omega (arith, length-map-range_with_len (turned_state kind a) 0 (length a.states))

  -- the states before arcs are put back
  pub base_count : {V : Type 0} (value : V → Cost) (made : List (State V)) → map (valued_state value) made ≡ base → length made ≡ length a.states + 1
  base_count value made are = omega (arith, length-map made (valued_state value), ap length are, length-base)

  -- all arcs put back make the reversal
  pub put_all-reverse : put_all 1 a.states base ≡ (reverse_of kind a).states
  put_all-reverse = ext_get_or no_state (put_all 1 a.states base) (reverse_of kind a).states (length-put_all 1 a.states base ∙ (length-base ∙ sym length-reverse)) by_index
    where
      by_index : (i : ℕ) → i < length (put_all 1 a.states base) → get_or (put_all 1 a.states base) i no_state ≡ get_or (reverse_of kind a).states i no_state
      by_index zero low = put_all_first 1 a.states base
      by_index (suc r) low =
          let next : suc r ≡ 1 + r = omega arith in
          let count = length-put_all 1 a.states base ∙ length-base in
          let inside : r < length a.states = omega (arith, low, count) in
          let here : get_or (put_all 1 a.states base) (1 + r) no_state ≡ turned_state kind a r =
          put_all_at 1 a.states base (length a.states) r length-base good.arcs ∙ ap (λ (s : State Cost). record { final = s.final; arcs = s.arcs ++ turned_arcs r 1 a.states }) (base_at r inside) in
          subst (λ (j : ℕ). get_or (put_all 1 a.states base) j no_state ≡ get_or (reverse_of kind a).states j no_state) (sym next) (here ∙ sym (turned_at kind a good r inside))

  -- ---- its size

  bare_arcs : (ks : List ℕ) → arc_total (map (turned_bare kind a) ks) ≡ 0
  bare_arcs [] = refl
  bare_arcs (k ∷ ks) =
      let all = sum_by-cons (λ (t : State Cost). length t.arcs) (turned_bare kind a k) (map (turned_bare kind a) ks) in
      omega (arith, all, bare_arcs ks)

  pub arc_total-base : arc_total base ≡ length (final_arcs 1 a.states)
  arc_total-base =
      let all = sum_by-cons (λ (t : State Cost). length t.arcs) (record { final = infinite; arcs = final_arcs 1 a.states }) (map (turned_bare kind a) (range_with_len 0 (length a.states))) in
      omega (arith, all, bare_arcs (range_with_len 0 (length a.states)))

  pub arc_total-reverse : arc_total (reverse_of kind a).states ≡ length (final_arcs 1 a.states) + arc_total a.states
  arc_total-reverse =
      let all = arc_total-put_all 1 a.states base (length a.states) length-base good.arcs in
      let same = ap arc_total put_all-reverse in
      omega (arith, all, same, arc_total-base)

  -- it is a machine
  pub IsMachine-reverse : IsSmall (reverse_of kind a) → IsMachine (λ v. v) (reverse_of kind a)
  IsMachine-reverse small =
      let n = length (reverse_of kind a).states in
      let Good : State Cost → Type 0 = λ s. All (IsArc (λ v. v) n) s.arcs in
      record {
        start = omega (arith, length-reverse);
        arcs = All-cons Good (record { final = infinite; arcs = final_arcs 1 a.states }) (map (turned_state kind a) (range_with_len 0 (length a.states)))
            (finals-good n 1 a.states (omega (arith, length-reverse)))
            (All-map Good (turned_state kind a) (range_with_len 0 (length a.states)) (λ i d low. turned_arcs-good n (get_or (range_with_len 0 (length a.states)) i d) 1 (length a.states) a.states (omega (arith, length-reverse)) good.arcs));
        few_states = small.states;
        few_arcs = small.arcs;
      }

  -- the size, as it is computed
  pub reverse_size : (length (reverse_of kind a).states ≡ length a.states + 1) × (arc_total (reverse_of kind a).states ≡ arc_total a.states + goings (Some 0) a.states)
  reverse_size = (length-reverse, omega (arith, arc_total-reverse, final_count 1 a.states))

-- ---- lists that are gone over

-- what is left of a mapped list
pub left : {X Y : Type 0} (f : X → Y) (xs : List X) (i : ℕ) (x : X) → slice_get xs i ≡ Some x → drop i (map f xs) ≡ f x ∷ drop (i + 1) (map f xs)
left f xs i x e = subst (λ (j : ℕ). drop i (map f xs) ≡ f x ∷ drop j (map f xs)) next (go xs i e)
  where
    next : suc i ≡ i + 1
    next = omega arith

    go : (xs : List _) (i : ℕ) → slice_get xs i ≡ Some x → drop i (map f xs) ≡ f x ∷ drop (suc i) (map f xs)
    go [] i e = absurd (cc)
    go (y ∷ xs) zero e = let same : y ≡ x = cc in ap (λ z. f z ∷ map f xs) same
    go (y ∷ xs) (suc i) e = go xs i e

-- one number more
pub range_more : (a n : ℕ) → range_with_len a (suc n) ≡ range_with_len a n ++ (a + n) ∷ []
range_more a zero = let here : a ≡ a + 0 = omega arith in ap (λ (k : ℕ). k ∷ []) here
range_more a (suc n) =
    let here : (a + 1) + n ≡ a + suc n = omega arith in
    ap (λ ks. a ∷ ks) (range_more (a + 1) n ∙ ap (λ (k : ℕ). range_with_len (a + 1) n ++ k ∷ []) here)

module _ {V : Type 0} (value : V → Cost) where
  -- one more arc is put back
  pub back_step : (q : ℕ) (arcs : List (Arc V ℕ)) (i : ℕ) (x y : Arc V ℕ) (old new : List (State V)) (whole : List (State Cost)) → i < length arcs → x ≡ get_or arcs i x → y ≡ x → new ≡ changed (with_arc (back q y)) old (1 + y.next) → put_back q (drop i (map (valued_arc value) arcs)) (map (valued_state value) old) ≡ whole → put_back q (drop (i + 1) (map (valued_arc value) arcs)) (map (valued_state value) new) ≡ whole
  back_step q arcs i x y old new whole low at same put so_far =
      let there : slice_get arcs i ≡ Some x = slice_get-get_or arcs i x low ∙ ap (λ (z : Arc V ℕ). Some z) (sym at) in
      let rest = drop (i + 1) (map (valued_arc value) arcs) in
      let grown : map (valued_state value) new ≡ changed (with_arc (back q (valued_arc value x))) (map (valued_state value) old) (1 + x.next) =
      ap (map (valued_state value)) put ∙ (map-with_arc value (back q y) old (1 + y.next) ∙ ap (λ (z : Arc V ℕ). changed (with_arc (back q (valued_arc value z))) (map (valued_state value) old) (1 + z.next)) same) in
      ap (put_back q rest) grown ∙ (ap (λ zs. put_back q zs (map (valued_state value) old)) (sym (left (valued_arc value) arcs i x there)) ∙ so_far)

  -- the arcs of one more state are put back
  pub all_step : (states : List (State V)) (i : ℕ) (arcs : List (Arc V ℕ)) → option_map (λ s. s.arcs) (slice_get states i) ≡ Some arcs → (old new whole : List (State Cost)) → put_all (i + 1) (drop i (map (valued_state value) states)) old ≡ whole → new ≡ put_back (i + 1) (map (valued_arc value) arcs) old → put_all (i + 1 + 1) (drop (i + 1) (map (valued_state value) states)) new ≡ whole
  all_step states i arcs e old new whole so_far put =
      let s = mapped_some (λ (t : State V). t.arcs) (slice_get states i) arcs e in
      let rest = drop (i + 1) (map (valued_state value) states) in
      let next : suc (i + 1) ≡ i + 1 + 1 = omega arith in
      let same : new ≡ put_back (i + 1) (map (valued_arc value) s.0.arcs) old = put ∙ ap (λ (zs : List (Arc V ℕ)). put_back (i + 1) (map (valued_arc value) zs) old) (sym s.2) in
      ap₂ (λ (k : ℕ) (ss : List (State Cost)). put_all k rest ss) (sym next) same ∙ (ap (λ ss. put_all (i + 1) ss old) (sym (left (valued_state value) states i s.0 s.1)) ∙ so_far)

  -- one more state is put without arcs
  pub bare_step : (kind : ArcType) (a : Machine Cost) (i : ℕ) (start : Option ℕ) (w : V) (arcs : List (Arc V ℕ)) (front : List (State Cost)) (old new : List (State V)) → map (valued_state value) old ≡ front ++ map (turned_bare kind a) (range_with_len 0 i) → new ≡ old ++ record { final = w; arcs = arcs } ∷ [] → arcs ≡ [] → value w ≡ start_weight kind start i → start ≡ a.start → map (valued_state value) new ≡ front ++ map (turned_bare kind a) (range_with_len 0 (i + 1))
  bare_step kind a i start w arcs front old new so_far put none weighs begins =
      let s : State V = record { final = w; arcs = arcs } in
      let is : valued_state value s ≡ turned_bare kind a i = ap₂ (λ (v : Cost) (zs : List (Arc V ℕ)). record { final = v; arcs = map (valued_arc value) zs }) (weighs ∙ ap (λ (o : Option ℕ). start_weight kind o i) begins) none in
      let next : suc i ≡ i + 1 = omega arith in
      let place : 0 + i ≡ i = omega arith in
      let range : range_with_len 0 (i + 1) ≡ range_with_len 0 i ++ i ∷ [] = ap (range_with_len 0) (sym next) ∙ (range_more 0 i ∙ ap (λ (k : ℕ). range_with_len 0 i ++ k ∷ []) place) in
      let bare : map (turned_bare kind a) (range_with_len 0 (i + 1)) ≡ map (turned_bare kind a) (range_with_len 0 i) ++ turned_bare kind a i ∷ [] = ap (map (turned_bare kind a)) range ∙ map-append (turned_bare kind a) (range_with_len 0 i) (i ∷ []) in
      ap (map (valued_state value)) put ∙ (map-append (valued_state value) old (s ∷ []) ∙ (ap₂ (λ (ss : List (State Cost)) (t : State Cost). ss ++ t ∷ []) so_far is ∙ (append_assoc front (map (turned_bare kind a) (range_with_len 0 i)) (turned_bare kind a i ∷ []) ∙ ap (λ ss. front ++ ss) (sym bare))))
