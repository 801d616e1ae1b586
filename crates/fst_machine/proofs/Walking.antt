-- A walk on its way: its marks, its steps and its end, and the arcs of a machine as a graph has them.
use Rattle.std.proofs.Common.{◌≡◌, ◌⊎◌, inl, inr, ℕ, ◌+◌, ◌<◌, ◌≤◌, Bool, true, false, List, [], ◌∷◌, ◌++◌, Some, length, take, map, set, get_or, slice_get, sym, refl, ap, ◌∙◌, subst, append_assoc, append-nil, arith}
use Rattle.std.specs.List.{All}
use Rattle.std.specs.Bool.{Decides}
use Rattle.std.specs.Option.{option_map}
use Rattle.std.proofs.lemmas.Bool.{cases_lt, cases_eq}
use Rattle.std.proofs.lemmas.Grind.{flat_map-append}
use Rattle.std.proofs.lemmas.List.{get_or-set_same, get_or-set_other, get_or_past, take-append-le, take_more, map_more, length-append}
use Rattle.std.proofs.lemmas.Option.{slice_get-map, slice_get_read, get_or_from_slice_get, slice_get_within}
use Rattle.fst_semiring.specs.Cost.{Cost}
use Rattle.fst_machine.specs.Machine.{Arc, State, Machine, IsArc, IsMachine, valued, valued_arc, valued_state}
use Rattle.fst_machine.specs.Graph.{Graph, graph_of, nexts, no_state}
use Rattle.fst_machine.specs.BreadthFirst.{Has, Apart, Grows, After, IsWalked}
use Rattle.fst_machine.specs.Marks.{Marks}
use Rattle.fst_machine.specs.Walking.{IsMarkedWalk, IsWalking}
use Rattle.fst_machine.proofs.Arcs.{mapped_some}
use Rattle.fst_machine.proofs.Elements.{at_Has, Has-append_left, Has-append_right, Has-append_cases, Apart_below}
use Rattle.fst_machine.proofs.Walks.{Grows-then, Grows-front, Grows-Apart}
use Rattle.fst_machine.proofs.Pairs.{arrivals}

-- one more number found and marked
pub Marks-push : (seen : List Bool) (names : List ℕ) (next : ℕ) → next < length seen → Marks seen names → Marks (set seen next true) (names ++ next ∷ [])
Marks-push seen names next within marks i = by_place (cases_eq i next)
  where
    by_place : (i ≡ next) ⊎ (i ≡ next → ⊥) → Decides (get_or (set seen next true) i false) (Has (names ++ next ∷ []) i)
    by_place (inl same) = ((λ marked. Has-append_right names (next ∷ []) i (inl (sym same))), (λ h. ap (λ (j : ℕ). get_or (set seen next true) j false) same ∙ get_or-set_same seen next true false within))
    by_place (inr other) =
        let kept : get_or (set seen next true) i false ≡ get_or seen i false = get_or-set_other seen next i true false other in
        ((λ marked. Has-append_left names (next ∷ []) i ((marks i).0 (sym kept ∙ marked))), (λ h. kept ∙ (marks i).1 (old (Has-append_cases names (next ∷ []) i h))))
      where
        old : Has names i ⊎ Has (next ∷ []) i → Has names i
        old (inl h) = h
        old (inr (inl e)) = absurd (other (sym e))
        old (inr (inr none)) = absurd none

-- a number that was found has a mark
pub found_within : (seen : List Bool) (names : List ℕ) (i : ℕ) → Marks seen names → Has names i → i < length seen
found_within seen names i marks h = by_place (cases_lt i (length seen))
  where
    by_place : (i < length seen) ⊎ (length seen ≤ i) → i < length seen
    by_place (inl low) = low
    by_place (inr past) = absurd (let wrong : false ≡ true = sym (get_or_past seen i false past) ∙ (marks i).1 h in cc)

-- a number that is taken from those that were found stands there, and is one of those that there are
pub taken_within : (seen : List Bool) (names : List ℕ) (count taken n : ℕ) → Marks seen names → length seen ≡ count → taken < length names → n ≡ get_or names taken n → (slice_get names taken ≡ Some n) × (n < count)
taken_within seen names count taken n marks size low is =
    let there : slice_get names taken ≡ Some n = slice_get_read names (length names) taken n refl low is in
    let marked = found_within seen names n marks (at_Has names taken n there) in
    (there, omega (arith, marked, size))

-- no marks, no numbers
pub Marks-none : (seen : List Bool) → ((i : ℕ) → get_or seen i false ≡ false) → Marks seen []
Marks-none seen none i = ((λ marked. let wrong : false ≡ true = sym (none i) ∙ marked in cc), (λ h. absurd h))

module _ {N : Type 0} (g : Graph N) (start : N) where
  -- at the start the walk has found the start, and followed nothing
  pub walking_begins : (names : List N) → Grows [] (start ∷ []) names → IsWalking g start names 0
  walking_begins names (inl old) = absurd old.0
  walking_begins names (inr new) = record { within = omega arith; grown = new.1; earlier = λ i low. absurd (omega arith) }

  -- it follows the arcs of one more
  pub walking_goes_on : (names new : List N) (taken : ℕ) (n : N) → IsWalking g start names taken → slice_get names taken ≡ Some n → Grows names (nexts (g.arcs n)) new → IsWalking g start new (taken + 1)
  walking_goes_on names new taken n w at grows = record {
    within = omega (arith, below, ap length front.1, length-append names front.0);
    grown = subst (λ zs. Grows (start ∷ []) zs new) (sym followed) (Grows-then (arrivals g (take taken names)) (nexts (g.arcs n)) (start ∷ []) names new w.grown grows);
    earlier = λ i low. by_order i (cases_lt i taken) low;
  }
    where
      front : (more : List N) × (new ≡ names ++ more)
      front = Grows-front (nexts (g.arcs n)) names new grows

      below : taken < length names
      below = slice_get_within names taken n at

      kept : (i : ℕ) → i ≤ length names → take i new ≡ take i names
      kept i low = ap (take i) front.1 ∙ take-append-le i names front.0 low

      followed : arrivals g (take (taken + 1) new) ≡ arrivals g (take taken names) ++ nexts (g.arcs n)
      followed =
          let low : taken + 1 ≤ length names = omega (arith, below) in
          let last : get_or names taken n ≡ n = get_or_from_slice_get names taken n n at in
          ap (arrivals g) (kept (taken + 1) low ∙ (take_more names taken n below ∙ ap (λ z. take taken names ++ z ∷ []) last)) ∙ (flat_map-append (λ z. nexts (g.arcs z)) (take taken names) (n ∷ []) ∙ ap (λ zs. arrivals g (take taken names) ++ zs) (append-nil (nexts (g.arcs n))))

      by_order : (i : ℕ) → (i < taken) ⊎ (taken ≤ i) → i < taken + 1 → (found : List N) × (rest : List N) × After g start new i found × (new ≡ found ++ rest) × (i < length found)
      by_order i (inl sooner) low =
          let old = w.earlier i sooner in
          (old.0, old.1 ++ front.0, subst (λ ns. Grows (start ∷ []) (arrivals g ns) old.0) (sym (kept i (omega (arith, below)))) old.2, front.1 ∙ (ap (λ ns. ns ++ front.0) old.3 ∙ append_assoc old.0 old.1 front.0), old.4)
      by_order i (inr now) low =
          let here : taken ≡ i = omega arith in
          (names, front.0, subst (λ ns. Grows (start ∷ []) (arrivals g ns) names) (ap (λ (j : ℕ). take j names) here ∙ sym (kept i (omega (arith, below)))) w.grown, front.1, omega (arith, below))

  -- at the end all are followed
  pub walking_ends : (names : List N) (taken : ℕ) → IsWalking g start names taken → length names ≤ taken → IsWalked g start names
  walking_ends names taken w done =
      let all : taken ≡ length names = omega (arith, w.within) in
      record {
        all = subst (λ (i : ℕ). After g start names i names) all w.grown;
        before = λ i low. w.earlier i (omega arith);
      }

  -- what it found stands once
  pub walking_apart : (names : List N) (taken : ℕ) → IsWalking g start names taken → Apart names
  walking_apart names taken w = Grows-Apart (arrivals g (take taken names)) (start ∷ []) names ((λ none. none), tt) w.grown

-- growing by one element more of a list
pub grows_more : {X N : Type 0} (next : X → N) (old names new : List N) (xs : List X) (i : ℕ) (x : X) → i < length xs → x ≡ get_or xs i x → Grows old (map next (take i xs)) names → Grows names (next x ∷ []) new → Grows old (map next (take (i + 1) xs)) new
grows_more next old names new xs i x low at grown grows =
    let longer = map_more next xs i x low in
    subst (λ zs. Grows old zs new) (sym (longer ∙ ap (λ z. map next (take i xs) ++ next z ∷ []) (sym at))) (Grows-then (map next (take i xs)) (next x ∷ []) old names new grown grows)

-- different states are no more than there are
pub walking_few : (g : Graph ℕ) (start : ℕ) (seen : List Bool) (names : List ℕ) (taken : ℕ) → IsWalking g start names taken → Marks seen names → length names ≤ length seen
walking_few g start seen names taken w marks = Apart_below (length seen) names (walking_apart g start names taken w) (λ k h. found_within seen names k marks h)

-- a walk that marks what it finds follows the arcs of one more
pub marked_goes_on : (g : Graph ℕ) (start : ℕ) (seen marked : List Bool) (names new : List ℕ) (taken n count : ℕ) → IsMarkedWalk g start seen names taken count → slice_get names taken ≡ Some n → Grows names (nexts (g.arcs n)) new → Marks marked new → length marked ≡ length seen → IsMarkedWalk g start marked new (taken + 1) count
marked_goes_on g start seen marked names new taken n count w at grows marks size = record {
  walking = walking_goes_on g start names new taken n w.walking at grows;
  marks = marks;
  size = size ∙ w.size;
}

-- it finds no more than there are
pub marked_few : (g : Graph ℕ) (start : ℕ) (seen : List Bool) (names : List ℕ) (taken count : ℕ) → IsMarkedWalk g start seen names taken count → length names ≤ count
marked_few g start seen names taken count w = let few = walking_few g start seen names taken w.walking w.marks in omega (arith, few, w.size)

module _ {V : Type 0} (value : V → Cost) (m : Machine V) where
  -- the arcs of a state, as the graph of the machine's values has them
  pub graph_arcs : (p : ℕ) (arcs : List (Arc V ℕ)) → option_map (λ s. s.arcs) (slice_get m.states p) ≡ Some arcs → (graph_of (valued value m)).arcs p ≡ map (valued_arc value) arcs
  graph_arcs p arcs e =
      let s = mapped_some (λ (s : State V). s.arcs) (slice_get m.states p) arcs e in
      let there : slice_get (valued value m).states p ≡ Some (valued_state value s.0) = slice_get-map (valued_state value) m.states p ∙ ap (option_map (valued_state value)) s.1 in
      ap (λ (t : State Cost). t.arcs) (get_or_from_slice_get (valued value m).states p (valued_state value s.0) no_state there) ∙ ap (map (valued_arc value)) s.2

  -- and the states to which they lead
  pub graph_nexts : (p : ℕ) (arcs : List (Arc V ℕ)) → option_map (λ s. s.arcs) (slice_get m.states p) ≡ Some arcs → nexts ((graph_of (valued value m)).arcs p) ≡ map (λ (a : Arc V ℕ). a.next) arcs
  graph_nexts p arcs e = ap nexts (graph_arcs p arcs e) ∙ valued_nexts arcs
    where
      valued_nexts : (arcs : List (Arc V ℕ)) → nexts (map (valued_arc value) arcs) ≡ map (λ (a : Arc V ℕ). a.next) arcs
      valued_nexts [] = refl
      valued_nexts (a ∷ arcs) = ap (λ ns. a.next ∷ ns) (valued_nexts arcs)

  -- which are states of the machine
  pub nexts_within : (p : ℕ) (arcs : List (Arc V ℕ)) → IsMachine value m → option_map (λ s. s.arcs) (slice_get m.states p) ≡ Some arcs → All (λ (a : Arc V ℕ). a.next < length m.states) arcs
  nexts_within p arcs h e =
      let s = mapped_some (λ (s : State V). s.arcs) (slice_get m.states p) arcs e in
      let low : p < length m.states = slice_get_within m.states p s.0 s.1 in
      let good : All (IsArc value (length m.states)) s.0.arcs = subst (λ (t : State V). All (IsArc value (length m.states)) t.arcs) (get_or_from_slice_get m.states p s.0 s.0 s.1) (h.arcs p s.0 low) in
      subst (λ (zs : List (Arc V ℕ)). All (λ (a : Arc V ℕ). a.next < length m.states) zs) s.2 (λ k d within. (good k d within).next)
