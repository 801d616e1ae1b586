-- How many arcs each state of a reversal gets.
use Rattle.std.proofs.Common.{◌≡◌, ℕ, ◌+◌, ◌<◌, ◌≤◌, zero, suc, true, false, List, [], ◌∷◌, ◌++◌, Some, drop, drop-cons, get_or, length, map, refl, replicate, set, slice_get, sym, ap, ap₂, ◌∙◌, append_assoc, append-nil, arith}
use Rattle.std.specs.List.{All, range_with_len}
use Rattle.std.specs.Option.{option_map}
use Rattle.std.proofs.lemmas.List.{length-append, length-map}
use Rattle.std.proofs.lemmas.List.FromFn.{length-range_with_len}
use Rattle.std.proofs.lemmas.List.Sums.{sum_by-cons}
use Rattle.std.proofs.lemmas.Option.{slice_get-get_or}
use Rattle.fst_semiring.specs.Cost.{Cost, best, finite, infinite, is_infinite}
use Rattle.fst_semiring.specs.declared.arc_type.ArcType.{ArcType}
use Rattle.fst_machine.specs.Machine.{Arc, State, Machine, IsMachine, arc_total, changed, valued_arc, valued_state, with_arc}
use Rattle.fst_machine.specs.Continuing.{epsilon_arc, leaving}
use Rattle.fst_machine.specs.Placing.{arc_counts}
use Rattle.fst_machine.proofs.Arcs.{mapped_some}
use Rattle.fst_machine.proofs.Changes.{set-changed}
use Rattle.fst_rational.specs.Backing.{back, counted_back, put_all, put_back, turned_bare, with_more}
use Rattle.fst_rational.specs.Changing.{goings}
use Rattle.fst_rational.specs.Constructions.{final_arcs}
use Rattle.fst_rational.proofs.Backing.{all_step, base, final_count, left, length-put_all}

-- ---- one arc more

counts-with_arc : {V : Type 0} (a : Arc V ℕ) (states : List (State V)) (i : ℕ) → arc_counts (changed (with_arc a) states i) ≡ changed (λ n. n + 1) (arc_counts states) i
counts-with_arc a [] i = refl
counts-with_arc a (s ∷ states) zero = ap (λ n. n ∷ arc_counts states) (length-append s.arcs (a ∷ []))
counts-with_arc a (s ∷ states) (suc i) = ap (λ ns. length s.arcs ∷ ns) (counts-with_arc a states i)

one_up : (counts : List ℕ) (i j : ℕ) → get_or counts j 0 ≤ get_or (changed (λ n. n + 1) counts i) j 0
one_up [] i j = omega arith
one_up (n ∷ counts) zero zero = omega arith
one_up (n ∷ counts) zero (suc j) = omega arith
one_up (n ∷ counts) (suc i) zero = omega arith
one_up (n ∷ counts) (suc i) (suc j) = one_up counts i j

one_here : (counts : List ℕ) (i : ℕ) → i < length counts → get_or (changed (λ n. n + 1) counts i) i 0 ≡ get_or counts i 0 + 1
one_here [] i low = absurd (omega (arith, low))
one_here (n ∷ counts) zero low = refl
one_here (n ∷ counts) (suc i) low = one_here counts i (omega (arith, low))

-- ---- all of them

counted_up : {V : Type 0} (arcs : List (Arc V ℕ)) (counts : List ℕ) (j : ℕ) → get_or counts j 0 ≤ get_or (counted_back arcs counts) j 0
counted_up [] counts j = omega arith
counted_up (a ∷ arcs) counts j = omega (arith, one_up counts (1 + a.next) j, counted_up arcs (changed (λ n. n + 1) counts (1 + a.next)) j)

-- the first of them is counted
pub counted_here : {V : Type 0} (a : Arc V ℕ) (arcs : List (Arc V ℕ)) (counts : List ℕ) → 1 + a.next < length counts → get_or counts (1 + a.next) 0 < get_or (counted_back (a ∷ arcs) counts) (1 + a.next) 0
counted_here a arcs counts low = omega (arith, one_here counts (1 + a.next) low, counted_up arcs (changed (λ n. n + 1) counts (1 + a.next)) (1 + a.next))

-- as many are counted as are put
pub counted_is : {V : Type 0} (value : V → Cost) (q : ℕ) (arcs : List (Arc V ℕ)) (states : List (State Cost)) → counted_back arcs (arc_counts states) ≡ arc_counts (put_back q (map (valued_arc value) arcs) states)
counted_is value q [] states = refl
counted_is value q (a ∷ arcs) states = ap (counted_back arcs) (sym (counts-with_arc (back q (valued_arc value a)) states (1 + a.next))) ∙ counted_is value q arcs (changed (with_arc (back q (valued_arc value a))) states (1 + a.next))

counts_put : (q : ℕ) (arcs : List (Arc Cost ℕ)) (states : List (State Cost)) → arc_counts (put_back q arcs states) ≡ counted_back arcs (arc_counts states)
counts_put q [] states = refl
counts_put q (a ∷ arcs) states = counts_put q arcs (changed (with_arc (back q a)) states (1 + a.next)) ∙ ap (counted_back arcs) (counts-with_arc (back q a) states (1 + a.next))

put_back_up : (q : ℕ) (arcs : List (Arc Cost ℕ)) (states : List (State Cost)) (j : ℕ) → get_or (arc_counts states) j 0 ≤ get_or (arc_counts (put_back q arcs states)) j 0
put_back_up q arcs states j = omega (arith, counted_up arcs (arc_counts states) j, ap (λ ns. get_or ns j 0) (counts_put q arcs states))

pub put_all_up : (q : ℕ) (rest states : List (State Cost)) (j : ℕ) → get_or (arc_counts states) j 0 ≤ get_or (arc_counts (put_all q rest states)) j 0
put_all_up q [] states j = omega arith
put_all_up q (s ∷ rest) states j = omega (arith, put_back_up q s.arcs states j, put_all_up (suc q) rest (put_back q s.arcs states) j)

-- no state has more arcs than all have together
pub counts_few : (states : List (State Cost)) (j : ℕ) → get_or (arc_counts states) j 0 ≤ arc_total states
counts_few [] j = omega arith
counts_few (s ∷ states) zero = let all = sum_by-cons (λ (t : State Cost). length t.arcs) s states in omega (arith, all)
counts_few (s ∷ states) (suc j) = let all = sum_by-cons (λ (t : State Cost). length t.arcs) s states in omega (arith, all, counts_few states j)

-- states have as many arcs whatever the weights are
pub counts-valued : {V : Type 0} (value : V → Cost) (states : List (State V)) → arc_counts (map (valued_state value) states) ≡ arc_counts states
counts-valued value [] = refl
counts-valued value (s ∷ states) = ap₂ (λ n ns. n ∷ ns) (length-map s.arcs (valued_arc value)) (counts-valued value states)

-- ---- arcs that are counted one by one

-- the first element that is left
pub drop_here : {X : Type 0} (xs : List X) (i : ℕ) (x : X) → i < length xs → x ≡ get_or xs i x → drop i xs ≡ x ∷ drop (i + 1) xs
drop_here xs i x low read = let next : suc i ≡ i + 1 = omega arith in drop-cons xs i x low ∙ ap₂ (λ y k. y ∷ drop k xs) (sym read) next

-- one more of these arcs is counted
pub record IsCounted {V : Type 0} (arcs : List (Arc V ℕ)) (i next now : ℕ) (counts initial : List ℕ) : Type 0 where
  pub more : now < get_or (counted_back arcs initial) (1 + next) 0
  pub rest : counted_back (drop (i + 1) arcs) (set counts (1 + next) (now + 1)) ≡ counted_back arcs initial

pub counted_one : {V : Type 0} (arcs : List (Arc V ℕ)) (i : ℕ) (x : Arc V ℕ) (next now : ℕ) (counts initial : List ℕ) → i < length arcs → x ≡ get_or arcs i x → next ≡ x.next → All (λ (a : Arc V ℕ). 1 + a.next < length initial) arcs → counted_back (drop i arcs) counts ≡ counted_back arcs initial → length counts ≡ length initial → now ≡ get_or counts (1 + next) now → IsCounted arcs i next now counts initial
counted_one {V} arcs i x next now counts initial low at same within rest size read = record { more = more; rest = after }
  where
    place : 1 + x.next < length counts
    place =
        let there : 1 + (get_or arcs i x).next < length initial = within i x low in
        let is : (get_or arcs i x).next ≡ x.next = ap (λ (a : Arc V ℕ). a.next) (sym at) in
        omega (arith, there, is, size)

    place_is : 1 + next < length counts
    place_is = omega (arith, place, same)

    whole : counted_back (x ∷ drop (i + 1) arcs) counts ≡ counted_back arcs initial
    whole = ap (λ (xs : List (Arc V ℕ)). counted_back xs counts) (sym (drop_here arcs i x low at)) ∙ rest

    now_is : now ≡ get_or counts (1 + x.next) 0
    now_is = read ∙ (get_or_same counts (1 + next) now place_is ∙ ap (λ n. get_or counts (1 + n) 0) same)
      where
        get_or_same : (ns : List ℕ) (k d : ℕ) → k < length ns → get_or ns k d ≡ get_or ns k 0
        get_or_same [] k d low = absurd (omega (arith, low))
        get_or_same (n ∷ ns) zero d low = refl
        get_or_same (n ∷ ns) (suc k) d low = get_or_same ns k d (omega (arith, low))

    more : now < get_or (counted_back arcs initial) (1 + next) 0
    more = omega (arith, now_is, counted_here x (drop (i + 1) arcs) counts place, ap (λ ns. get_or ns (1 + x.next) 0) whole, ap (λ n. get_or (counted_back arcs initial) (1 + n) 0) same)

    after : counted_back (drop (i + 1) arcs) (set counts (1 + next) (now + 1)) ≡ counted_back arcs initial
    after =
        ap (counted_back (drop (i + 1) arcs)) (set-changed (λ n. n + 1) counts (1 + next) (now + 1) now place_is (ap (λ n. n + 1) read) ∙ ap (λ n. changed (λ m. m + 1) counts (1 + n)) same)
        ∙ whole

-- what is counted are the arcs of states that become these
pub record IsCounting (q : ℕ) (rest whole : List (State Cost)) (counts : List ℕ) : Type 0 where
  pub states : List (State Cost)
  pub counted : counts ≡ arc_counts states
  pub becomes : put_all q rest states ≡ whole

pub counting_size : (q : ℕ) (rest whole : List (State Cost)) (counts : List ℕ) → IsCounting q rest whole counts → length counts ≡ length whole
counting_size q rest whole counts is = ap length is.counted ∙ (length-map is.states (λ (s : State Cost). length s.arcs) ∙ (sym (length-put_all q rest is.states) ∙ ap length is.becomes))

pub counting_few : (q : ℕ) (rest whole : List (State Cost)) (counts : List ℕ) (j : ℕ) → IsCounting q rest whole counts → get_or counts j 0 ≤ get_or (arc_counts whole) j 0
counting_few q rest whole counts j is = omega (arith, ap (λ ns. get_or ns j 0) is.counted, put_all_up q rest is.states j, ap (λ (ss : List (State Cost)). get_or (arc_counts ss) j 0) is.becomes)

-- those of one more state are
pub counting_next : {V : Type 0} (value : V → Cost) (states : List (State V)) (i : ℕ) (arcs : List (Arc V ℕ)) (whole : List (State Cost)) (counts new : List ℕ) → option_map (λ (s : State V). s.arcs) (slice_get states i) ≡ Some arcs → IsCounting (i + 1) (drop i (map (valued_state value) states)) whole counts → new ≡ counted_back arcs counts → IsCounting (i + 1 + 1) (drop (i + 1) (map (valued_state value) states)) whole new
counting_next {V} value states i arcs whole counts new has is more = record {
  states = put_back (i + 1) (map (valued_arc value) arcs) is.states;
  counted = more ∙ (ap (counted_back arcs) is.counted ∙ counted_is value (i + 1) arcs is.states);
  becomes = all_step value states i arcs has is.states (put_back (i + 1) (map (valued_arc value) arcs) is.states) whole is.becomes refl;
}

-- before any arc is put back, the first state has the arcs to the final states
bare_counts : (kind : ArcType) (a : Machine Cost) (ks : List ℕ) → replicate (length ks) 0 ≡ arc_counts (map (turned_bare kind a) ks)
bare_counts kind a [] = refl
bare_counts kind a (k ∷ ks) = ap (λ ns. 0 ∷ ns) (bare_counts kind a ks)

pub base_counts : (kind : ArcType) (a : Machine Cost) (good : IsMachine (λ v. v) a) (n g : ℕ) (zeros : List ℕ) → zeros ≡ replicate (n + 1) 0 → n ≡ length a.states → g ≡ goings (Some 0) a.states → set zeros 0 g ≡ arc_counts (base kind a good)
base_counts kind a good n g zeros are size first =
    let next : n + 1 ≡ suc n = omega arith in
    let ks = range_with_len 0 (length a.states) in
    let count : n ≡ length ks = size ∙ sym (length-range_with_len 0 (length a.states)) in
    ap (λ ns. set ns 0 g) (are ∙ ap (λ k. replicate k 0) next)
    ∙ ap₂ (λ k ns. k ∷ ns) (first ∙ sym (final_count 1 a.states)) (ap (λ k. replicate k 0) count ∙ bare_counts kind a ks)

-- ---- rooms

-- what is left after one more state has its room
pub drop_total : (whole : List (State Cost)) (i : ℕ) → i < length whole → arc_total (drop i whole) ≡ get_or (arc_counts whole) i 0 + arc_total (drop (i + 1) whole)
drop_total whole i low = let next : suc i ≡ i + 1 = omega arith in go whole i low ∙ ap (λ k. get_or (arc_counts whole) i 0 + arc_total (drop k whole)) next
  where
    go : (whole : List (State Cost)) (i : ℕ) → i < length whole → arc_total (drop i whole) ≡ get_or (arc_counts whole) i 0 + arc_total (drop (suc i) whole)
    go [] i low = absurd (omega (arith, low))
    go (s ∷ whole) zero low = sum_by-cons (λ (t : State Cost). length t.arcs) s whole
    go (s ∷ whole) (suc i) low = go whole i (omega (arith, low))

-- there is room for the first of the arcs that are put back
pub room_here : {V : Type 0} (value : V → Cost) (q : ℕ) (arcs : List (Arc V ℕ)) (i : ℕ) (x : Arc V ℕ) (states : List (State V)) (whole : List (State Cost)) → i < length arcs → x ≡ get_or arcs i x → put_back q (drop i (map (valued_arc value) arcs)) (map (valued_state value) states) ≡ whole → 1 + x.next < length states → get_or (arc_counts states) (1 + x.next) 0 < get_or (arc_counts whole) (1 + x.next) 0
room_here {V} value q arcs i x states whole low at becomes place =
    let there : slice_get arcs i ≡ Some x = slice_get-get_or arcs i x low ∙ ap (λ (z : Arc V ℕ). Some z) (sym at) in
    let rest = drop (i + 1) (map (valued_arc value) arcs) in
    let counts : counted_back (valued_arc value x ∷ rest) (arc_counts states) ≡ arc_counts whole =
    ap₂ (λ (zs : List (Arc Cost ℕ)) (ns : List ℕ). counted_back zs ns) (sym (left (valued_arc value) arcs i x there)) (sym (counts-valued value states))
    ∙ (sym (counts_put q (drop i (map (valued_arc value) arcs)) (map (valued_state value) states)) ∙ ap (λ (ss : List (State Cost)). arc_counts ss) becomes) in
    let size : length (arc_counts states) ≡ length states = length-map states (λ (s : State V). length s.arcs) in
    omega (arith, counted_here (valued_arc value x) rest (arc_counts states) (omega (arith, place, size)), ap (λ ns. get_or ns (1 + x.next) 0) counts)

-- ---- the arcs of the first state

pub with_none : (states : List (State Cost)) → states ≡ changed (with_more []) states 0
with_none [] = refl
with_none (s ∷ states) = λ i. record { final = s.final; arcs = sym (append-nil s.arcs) i } ∷ states

pub with_both : (xs ys : List (Arc Cost ℕ)) (states : List (State Cost)) → changed (with_more ys) (changed (with_more xs) states 0) 0 ≡ changed (with_more (xs ++ ys)) states 0
with_both xs ys [] = refl
with_both xs ys (s ∷ states) = λ i. record { final = s.final; arcs = append_assoc s.arcs xs ys i } ∷ states

pub first_more : (xs : List (Arc Cost ℕ)) (states : List (State Cost)) → get_or (arc_counts (changed (with_more xs) states 0)) 0 0 ≤ get_or (arc_counts states) 0 0 + length xs
first_more xs [] = omega arith
first_more xs (s ∷ states) = omega (arith, length-append s.arcs xs)

pub final_none : (w : Cost) (q : ℕ) (states : List (State Cost)) → is_infinite w ≡ true → states ≡ changed (with_more (leaving w q)) states 0
final_none best q states zero_is = absurd (cc)
final_none (finite x y) q states zero_is = absurd (cc)
final_none infinite q states zero_is = with_none states

pub final_some : (w : Cost) (q : ℕ) (states : List (State Cost)) → is_infinite w ≡ false → changed (with_arc (epsilon_arc w q)) states 0 ≡ changed (with_more (leaving w q)) states 0
final_some best q states some = refl
final_some (finite x y) q states some = refl
final_some infinite q states some = absurd (cc)

-- the final arcs that are left begin with that of the state
pub finals_here : {V : Type 0} (value : V → Cost) (states : List (State V)) (i : ℕ) (last : V) → option_map (λ (s : State V). s.final) (slice_get states i) ≡ Some last → final_arcs (i + 1) (drop i (map (valued_state value) states)) ≡ leaving (value last) (i + 1) ++ final_arcs (i + 1 + 1) (drop (i + 1) (map (valued_state value) states))
finals_here {V} value states i last has =
    let s = mapped_some (λ (t : State V). t.final) (slice_get states i) last has in
    let rest = drop (i + 1) (map (valued_state value) states) in
    let next : suc (i + 1) ≡ i + 1 + 1 = omega arith in
    ap (final_arcs (i + 1)) (left (valued_state value) states i s.0 s.1)
    ∙ ap₂ (λ (v : V) (k : ℕ). leaving (value v) (i + 1) ++ final_arcs k rest) s.2 next
