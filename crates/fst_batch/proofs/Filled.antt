-- A machine that is filled state by state becomes the graph, numbered.
use Rattle.std.proofs.Common.{◌≡◌, ◌⊎◌, inl, inr, ℕ, zero, suc, Bool, false, true≢false, Ok, Err, ◌+◌, ◌<◌, ◌≤◌, List, [], ◌∷◌, ◌++◌, Some, length, map, take, get_or, slice_get, refl, sym, ap, ◌∙◌, subst, append-nil, append_assoc, arith}
use Rattle.std.specs.Prelude.{IfOk, OnOk, Result, is_err}
use Rattle.std.specs.List.{All, AllZip}
use Rattle.std.proofs.lemmas.Bool.{cases_lt}
use Rattle.std.proofs.lemmas.List.{get_or_past, length-append, map-append}
use Rattle.std.proofs.lemmas.List.Sums.{sum_by-cons, sum_by_more, sum_by_more_le}
use Rattle.std.proofs.lemmas.Option.{get_or_from_slice_get, same_Some, slice_get-get_or, slice_get_within}
use Rattle.std.proofs.lemmas.Slice.Zip.{AllZip-long}
use Rattle.fst_semiring.specs.Cost.{Cost, infinite}
use Rattle.fst_semiring.specs.Semiring.{Within}
use Rattle.fst_semiring.proofs.Ranges.{Within-more}
use Rattle.fst_machine.specs.BreadthFirst.{Has, IsBreadthFirst}
use Rattle.fst_machine.specs.Graph.{Graph, graph_of, no_state}
use Rattle.fst_machine.specs.Machine.{Arc, Machine, State, arc_total, bare_state, changed, most_arcs, valued, valued_arc, valued_state, with_arc, with_final}
use Rattle.fst_machine.specs.Numbering.{IsNumbered}
use Rattle.fst_machine.proofs.Arcs.{append_at, at_mapped}
use Rattle.fst_machine.proofs.Elements.{Has-append_cases, at_Has}
use Rattle.fst_nbest.specs.Chains.{arc_at, no_arc}
use Rattle.fst_nbest.specs.Listing.{IsStep}
use Rattle.fst_walk.specs.Making.{IsNumberedArc, IsNumberedState, arcs_of}
use Rattle.fst_walk.proofs.Ending.{done_numbered}
use Rattle.fst_batch.specs.Filling.{AreSmall, IsFilling, IsSmallState, filled}

-- ---- lists with one element changed

module _ {X : Type 0} where
  pub changed_length : (f : X → X) (xs : List X) (i : ℕ) → length (changed f xs i) ≡ length xs
  changed_length f [] i = refl
  changed_length f (x ∷ xs) zero = refl
  changed_length f (x ∷ xs) (suc i) = ap suc (changed_length f xs i)

  -- what stands in a place is the changed element, or stood there before
  pub changed_at : (f : X → X) (xs : List X) (i j : ℕ) (y : X) → slice_get (changed f xs i) j ≡ Some y
      → ((j ≡ i) × ((x : X) × (slice_get xs i ≡ Some x) × (f x ≡ y))) ⊎ ((j ≡ i → ⊥) × (slice_get xs j ≡ Some y))
  changed_at f [] i j y e = absurd (cc)
  changed_at f (x ∷ xs) zero zero y e = inl (refl, (x, refl, same_Some (f x) y e))
  changed_at f (x ∷ xs) zero (suc j) y e = inr ((λ z. absurd (omega (arith, z))), e)
  changed_at f (x ∷ xs) (suc i) zero y e = inr ((λ z. absurd (omega (arith, z))), e)
  changed_at f (x ∷ xs) (suc i) (suc j) y e = by (changed_at f xs i j y e)
    where
      by : ((j ≡ i) × ((z : X) × (slice_get xs i ≡ Some z) × (f z ≡ y))) ⊎ ((j ≡ i → ⊥) × (slice_get xs j ≡ Some y))
          → ((suc j ≡ suc i) × ((z : X) × (slice_get (x ∷ xs) (suc i) ≡ Some z) × (f z ≡ y))) ⊎ ((suc j ≡ suc i → ⊥) × (slice_get (x ∷ xs) (suc j) ≡ Some y))
      by (inl h) = inl (ap suc h.0, h.1)
      by (inr h) = inr ((λ z. h.0 (omega (arith, z))), h.1)

  pub changed_twice : (f h : X → X) (xs : List X) (i : ℕ) → changed f (changed h xs i) i ≡ changed (λ x. f (h x)) xs i
  changed_twice f h [] i = refl
  changed_twice f h (x ∷ xs) zero = refl
  changed_twice f h (x ∷ xs) (suc i) = ap (λ ys. x ∷ ys) (changed_twice f h xs i)

module _ {A B : Type 0} (R : A → B → Type 0) where
  -- lists that go together in each place go together
  pub zip_from : (xs : List A) (ys : List B) → length xs ≡ length ys → ((j : ℕ) (x : A) (y : B) → slice_get xs j ≡ Some x → slice_get ys j ≡ Some y → R x y) → AllZip R xs ys
  zip_from [] [] same each = tt
  zip_from [] (y ∷ ys) same each = absurd (omega (arith, same))
  zip_from (x ∷ xs) [] same each = absurd (omega (arith, same))
  zip_from (x ∷ xs) (y ∷ ys) same each = (each 0 x y refl refl, zip_from xs ys (omega (arith, same)) (λ j a b at bt. each (suc j) a b at bt))

-- ---- a state is filled

module _ {V : Type 0} where
  pub valued_filled : (value : V → Cost) (last : V) (arcs : List (Arc V ℕ)) (xs : List (State V)) (i : ℕ) → map (valued_state value) (changed (filled last arcs) xs i) ≡ changed (filled (value last) (map (valued_arc value) arcs)) (map (valued_state value) xs) i
  valued_filled value last arcs [] i = refl
  valued_filled value last arcs (x ∷ xs) zero = ap (λ (own : List (Arc Cost ℕ)). record { final = value last; arcs = own } ∷ map (valued_state value) xs) (map-append (valued_arc value) x.arcs arcs)
  valued_filled value last arcs (x ∷ xs) (suc i) = ap (λ ys. valued_state value x ∷ ys) (valued_filled value last arcs xs i)

  pub total_filled : (last : V) (arcs : List (Arc V ℕ)) (xs : List (State V)) (i : ℕ) → i < length xs → arc_total (changed (filled last arcs) xs i) ≡ arc_total xs + length arcs
  total_filled last arcs [] i low = absurd (omega (arith, low))
  total_filled last arcs (x ∷ xs) zero low =
      let one = sum_by-cons (λ (s : State V). length s.arcs) (filled last arcs x) xs in
      let old = sum_by-cons (λ (s : State V). length s.arcs) x xs in
      let long = length-append x.arcs arcs in
      omega (arith, one, old, long)
  total_filled last arcs (x ∷ xs) (suc i) low =
      let one = sum_by-cons (λ (s : State V). length s.arcs) x (changed (filled last arcs) xs i) in
      let old = sum_by-cons (λ (s : State V). length s.arcs) x xs in
      let rest = total_filled last arcs xs i (omega (arith, low)) in
      omega (arith, one, old, rest)

-- bare states have no arcs
bare_total : (states : List (State Cost)) → ((j : ℕ) (s : State Cost) → slice_get states j ≡ Some s → s ≡ bare_state infinite) → arc_total states ≡ 0
bare_total [] bare = refl
bare_total (s ∷ states) bare =
    let one = sum_by-cons (λ (t : State Cost). length t.arcs) s states in
    let none : length s.arcs ≡ 0 = ap (λ (t : State Cost). length t.arcs) (bare 0 s refl) in
    let rest = bare_total states (λ j t at. bare (suc j) t at) in
    omega (arith, one, none, rest)

-- ---- the states of names are filled

module _ {N : Type 0} (g : Graph N) (names : List N) where
  pub filling_begins : (m : Machine Cost) → m.start ≡ Some 0 → length m.states ≡ length names → ((j : ℕ) (s : State Cost) → slice_get m.states j ≡ Some s → s ≡ bare_state infinite) → IsFilling g names 0 m
  filling_begins m start size bare = record {
    start = start;
    size = size;
    done = λ j n s low at there. absurd (omega (arith, low));
    left = λ j s low there. bare j s there;
    counted = bare_total m.states bare;
  }

  module _ (i : ℕ) (n : N) (at : slice_get names i ≡ Some n) (m : Machine Cost) (h : IsFilling g names i m) (arcs : List (Arc Cost ℕ)) (numbered : AllZip (IsNumberedArc names) (g.arcs n) arcs) where
    low : i < length names
    low = slice_get_within names i n at

    sum_is : arcs_of g (take (i + 1) names) ≡ arcs_of g (take i names) + length arcs
    sum_is =
        let more = sum_by_more (λ (z : N). length (g.arcs z)) names i n low in
        let here : length (g.arcs (get_or names i n)) ≡ length (g.arcs n) = ap (λ (z : N). length (g.arcs z)) (get_or_from_slice_get names i n n at) in
        let long = AllZip-long (IsNumberedArc names) (g.arcs n) arcs numbered in
        omega (arith, more, here, long)

    -- one more is filled
    pub filling_more : (last : Cost) → last ≡ g.final n → IsFilling g names (i + 1) (record { start = m.start; states = changed (filled last arcs) m.states i })
    filling_more last final = record {
      start = h.start;
      size = changed_length (filled last arcs) m.states i ∙ h.size;
      done = λ j z s below there state. done j z s below there (changed_at (filled last arcs) m.states i j s state);
      left = λ j s above state. left j s above (changed_at (filled last arcs) m.states i j s state);
      counted = total_filled last arcs m.states i (let size = h.size in omega (arith, low, size)) ∙ (ap (λ (k : ℕ). k + length arcs) h.counted ∙ sym sum_is);
    }
      where
        done : (j : ℕ) (z : N) (s : State Cost) → j < i + 1 → slice_get names j ≡ Some z
            → ((j ≡ i) × ((x : State Cost) × (slice_get m.states i ≡ Some x) × (filled last arcs x ≡ s))) ⊎ ((j ≡ i → ⊥) × (slice_get m.states j ≡ Some s)) → IsNumberedState g names z s
        done j z s below there (inl c) =
            let same : n ≡ z = same_Some n z (sym at ∙ (ap (slice_get names) (sym c.0) ∙ there)) in
            let blank : c.1.0 ≡ bare_state infinite = h.left i c.1.0 (omega arith) c.1.1 in
            let own : ◌≡◌ {A = State Cost} (record { final = last; arcs = arcs }) s = ap (filled last arcs) (sym blank) ∙ c.1.2 in
            let made : IsNumberedState g names n (record { final = last; arcs = arcs }) = record { arcs = numbered; final = final } in
            subst (λ (y : N). IsNumberedState g names y s) same (subst (IsNumberedState g names n) own made)
        done j z s below there (inr c) = h.done j z s (before (cases_lt j i)) there c.1
          where
            before : (j < i) ⊎ (i ≤ j) → j < i
            before (inl less) = less
            before (inr more) = absurd (c.0 (omega (arith, below, more)))

        left : (j : ℕ) (s : State Cost) → i + 1 ≤ j → ((j ≡ i) × ((x : State Cost) × (slice_get m.states i ≡ Some x) × (filled last arcs x ≡ s))) ⊎ ((j ≡ i → ⊥) × (slice_get m.states j ≡ Some s)) → s ≡ bare_state infinite
        left j s above (inl c) = absurd (let e = c.0 in omega (arith, above, e))
        left j s above (inr c) = h.left j s (omega (arith, above)) c.1

    -- there is no room for one more
    pub filling_many : most_arcs < arc_total m.states + length arcs → most_arcs < arcs_of g names
    filling_many over =
        let more = sum_by_more_le (λ (z : N). length (g.arcs z)) names i n low in
        let here : length (g.arcs (get_or names i n)) ≡ length (g.arcs n) = ap (λ (z : N). length (g.arcs z)) (get_or_from_slice_get names i n n at) in
        let long = AllZip-long (IsNumberedArc names) (g.arcs n) arcs numbered in
        let so_far = h.counted in
        omega (arith, over, more, here, long, so_far)

  -- all are filled
  pub filling_ends : (taken : ℕ) (m : Machine Cost) → IsFilling g names taken m → length names ≤ taken → (start : N) → g.start ≡ Some start → IsBreadthFirst g start names → IsNumbered g names m
  filling_ends taken m h all start starts listed =
      let size = h.size in
      let zipped = zip_from (IsNumberedState g names) names m.states (sym size)
      (λ j n s at there. h.done j n s (let low = slice_get_within names j n at in omega (arith, low, all)) at there) in
      let same : ◌≡◌ {A = Machine Cost} (record { start = Some 0; states = m.states }) m = λ i. record { start = sym h.start i; states = m.states } in
      subst (IsNumbered g names) same (done_numbered g names m.states zipped start starts listed)

-- ---- numbers stay small

-- states without arcs that are not final have small numbers
pub bare_small : (m : Machine Cost) → ((j : ℕ) (s : State Cost) → slice_get m.states j ≡ Some s → s ≡ bare_state infinite) → AreSmall m
bare_small m bare j s at = subst IsSmallState (sym (bare j s at)) (record { final = tt; arcs = λ a h. absurd h })

-- so have they with a state that is filled
pub filled_small : (m : Machine Cost) (i : ℕ) (last : Cost) (arcs : List (Arc Cost ℕ)) → AreSmall m → Within 2000000000000000000 last → ((a : Arc Cost ℕ) → Has arcs a → Within 2000000000000000000 a.weight)
    → AreSmall (record { start = m.start; states = changed (filled last arcs) m.states i })
filled_small m i last arcs small final range j s at = by (changed_at (filled last arcs) m.states i j s at)
  where
    own : (x : State Cost) → IsSmallState x → (a : Arc Cost ℕ) → Has x.arcs a ⊎ Has arcs a → Within 2000000000000000000 a.weight
    own x old a (inl h) = old.arcs a h
    own x old a (inr h) = range a h

    by : ((j ≡ i) × ((x : State Cost) × (slice_get m.states i ≡ Some x) × (filled last arcs x ≡ s))) ⊎ ((j ≡ i → ⊥) × (slice_get m.states j ≡ Some s)) → IsSmallState s
    by (inl c) = subst IsSmallState c.1.2 (record { final = final; arcs = λ a h. own c.1.0 (small i c.1.0 c.1.1) a (Has-append_cases c.1.0.arcs arcs a h) })
    by (inr c) = small j s c.1

module _ (m : Machine Cost) (small : AreSmall m) where
  -- the arc of a step
  pub small_step : (s : ℕ × ℕ) → IsStep (graph_of m) s → Within 2000000000000000000 (arc_at (graph_of m) s).weight
  small_step s step = by (cases_lt s.0 (length m.states))
    where
      by : (s.0 < length m.states) ⊎ (length m.states ≤ s.0) → Within 2000000000000000000 (arc_at (graph_of m) s).weight
      by (inl low) =
          let state = get_or m.states s.0 no_state in
          let there = small s.0 state (slice_get-get_or m.states s.0 no_state low) in
          there.arcs (arc_at (graph_of m) s) (at_Has state.arcs s.1 (arc_at (graph_of m) s) (slice_get-get_or state.arcs s.1 (no_arc s.0) step))
      by (inr high) =
          let none : length ((graph_of m).arcs s.0) ≡ 0 = ap (λ (t : State Cost). length t.arcs) (get_or_past m.states s.0 no_state high) in
          absurd (omega (arith, none, step))

  -- the final weight of a state
  pub small_last : (p : ℕ) → Within 2000000000000000000 ((graph_of m).final p)
  small_last p = by (cases_lt p (length m.states))
    where
      by : (p < length m.states) ⊎ (length m.states ≤ p) → Within 2000000000000000000 ((graph_of m).final p)
      by (inl low) = (small p (get_or m.states p no_state) (slice_get-get_or m.states p no_state low)).final
      by (inr high) = subst (λ (t : State Cost). Within 2000000000000000000 t.final) (sym (get_or_past m.states p no_state high)) tt

module _ {V : Type 0} (value : V → Cost) (m : Machine V) (small : AreSmall (valued value m)) (b : ℕ) (more : 2000000000000000000 ≤ b) where
  state_there : (k : ℕ) (d : State V) → k < length m.states → IsSmallState (valued_state value (get_or m.states k d))
  state_there k d low = small k (valued_state value (get_or m.states k d)) (at_mapped (valued_state value) m.states k (get_or m.states k d) (slice_get-get_or m.states k d low))

  -- in the weights themselves
  pub small_arcs_all : All (λ s. All (λ a. Within b (value a.weight)) s.arcs) m.states
  small_arcs_all k d low j e below =
      let state = get_or m.states k d in
      let arc = get_or state.arcs j e in
      let there = at_Has (map (valued_arc value) state.arcs) j (valued_arc value arc) (at_mapped (valued_arc value) state.arcs j arc (slice_get-get_or state.arcs j e below)) in
      Within-more 2000000000000000000 b (value arc.weight) more ((state_there k d low).arcs (valued_arc value arc) there)

  pub small_finals_all : All (λ s. Within b (value s.final)) m.states
  small_finals_all k d low = Within-more 2000000000000000000 b (value (get_or m.states k d).final) more (state_there k d low).final

-- one more bare state is put behind bare states
pub bare_more : {V : Type 0} (value : V → Cost) (states new : List (State V)) (zero' : V) → value zero' ≡ infinite → new ≡ states ++ bare_state zero' ∷ []
    → ((j : ℕ) (s : State Cost) → slice_get (map (valued_state value) states) j ≡ Some s → s ≡ bare_state infinite) → (j : ℕ) (s : State Cost) → slice_get (map (valued_state value) new) j ≡ Some s → s ≡ bare_state infinite
bare_more value states new zero' is put bare j s at = by (append_at (map (valued_state value) states) (valued_state value (bare_state zero') ∷ []) j s (ap (λ xs. slice_get xs j) (sym (ap (map (valued_state value)) put ∙ map-append (valued_state value) states (bare_state zero' ∷ []))) ∙ at))
  where
    last : (k : ℕ) → slice_get (valued_state value (bare_state zero') ∷ []) k ≡ Some s → s ≡ bare_state infinite
    last zero e = sym (same_Some (valued_state value (bare_state zero')) s e) ∙ ap (λ (w : Cost). record { final = w; arcs = [] }) is
    last (suc k) e = absurd (cc)

    by : (slice_get (map (valued_state value) states) j ≡ Some s) ⊎ ((k : ℕ) × (slice_get (valued_state value (bare_state zero') ∷ []) k ≡ Some s) × (j ≡ length (map (valued_state value) states) + k)) → s ≡ bare_state infinite
    by (inl early) = bare j s early
    by (inr late) = last late.0 late.1

-- ---- arcs put one after the other

module _ {V : Type 0} where
  -- a final weight alone
  pub filled_none : (last : V) (xs : List (State V)) (i : ℕ) → changed (with_final last) xs i ≡ changed (filled last []) xs i
  filled_none last xs i = ap (λ (f : State V → State V). changed f xs i) (λ j s. record { final = last; arcs = sym (append-nil s.arcs) j })

  -- one arc more
  pub filled_one : (last : V) (arcs : List (Arc V ℕ)) (a : Arc V ℕ) (xs : List (State V)) (i : ℕ) → changed (with_arc a) (changed (filled last arcs) xs i) i ≡ changed (filled last (arcs ++ a ∷ [])) xs i
  filled_one last arcs a xs i =
      changed_twice (with_arc a) (filled last arcs) xs i ∙ ap (λ (f : State V → State V). changed f xs i) (λ j s. record { final = last; arcs = append_assoc s.arcs arcs (a ∷ []) j })

-- what holds of a result that is no fault
pub fine_if : {X E Q : Type 0} (r : Result X E) (b : Bool) → b ≡ is_err r → b ≡ false → IfOk r (λ x. Q) → Q
fine_if (Ok x) b is fine q = q
fine_if (Err e) b is fine q = absurd (true≢false (sym is ∙ fine))

pub fine_on : {X E Q : Type 0} (r : Result X E) (b : Bool) → b ≡ is_err r → b ≡ false → OnOk r Q → Q
fine_on (Ok x) b is fine q = q
fine_on (Err e) b is fine q = absurd (true≢false (sym is ∙ fine))
