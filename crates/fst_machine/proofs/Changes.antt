-- A list with one element changed, and what then still holds of a machine.
use Rattle.std.proofs.Common.{◌≡◌, ◌⊎◌, inl, inr, ℕ, ◌+◌, ◌<◌, ◌≤◌, zero, suc, List, [], ◌∷◌, ◌++◌, length, set, get_or, sym, ap, subst, arith}
use Rattle.std.specs.List.{All}
use Rattle.std.specs.Prelude.{◌↔◌, Ok, Result, IsErrOf}
use Rattle.std.proofs.lemmas.Bool.{cases_lt}
use Rattle.std.proofs.lemmas.List.{length-set, length-append, get_or_default}
use Rattle.std.proofs.lemmas.List.Elements.{All-set, All-push, All-nil, All-weaker}
use Rattle.std.proofs.lemmas.Option.{IfSome_then}
use Rattle.std.proofs.lemmas.List.Sums.{sum_by-set, sum_by_push}
use Rattle.fst_semiring.specs.Cost.{Cost}
use Rattle.fst_machine.specs.Machine.{Arc, State, Machine, IsArc, IsMachine, arc_total, bare_state, changed, most_arcs, most_states, with_arc, with_final}

-- writing f of the element in its place is the change
pub set-changed : {X : Type 0} (f : X → X) (xs : List X) (i : ℕ) (y d : X) → i < length xs → y ≡ f (get_or xs i d) → set xs i y ≡ changed f xs i
set-changed f [] i y d within e = absurd (omega arith)
set-changed f (x ∷ xs) zero y d within e = ap (λ z. z ∷ xs) e
set-changed f (x ∷ xs) (suc i) y d within e = ap (λ zs. x ∷ zs) (set-changed f xs i y d (omega arith) e)

-- a machine with one state replaced by one whose arcs are as good, and few enough
pub IsMachine-set : {V : Type 0} (value : V → Cost) (m : Machine V) (i : ℕ) (s : State V) → IsMachine value m → All (IsArc value (length m.states)) s.arcs → arc_total (set m.states i s) ≤ most_arcs → IsMachine value (record { start = m.start; states = set m.states i s })
IsMachine-set value m i s h good few =
    let same : length (set m.states i s) ≡ length m.states = length-set m.states i s in
    record {
      start = rw same h.start;
      arcs = subst (λ (n : ℕ). All (λ t. All (IsArc value n) t.arcs) (set m.states i s)) (sym same) (All-set (λ t. All (IsArc value (length m.states)) t.arcs) m.states i s good h.arcs);
      few_states = rw same h.few_states;
      few_arcs = few;
    }

-- an arc stays good where there are more states
IsArc-more : {V : Type 0} (value : V → Cost) (n : ℕ) (a : Arc V ℕ) → IsArc value n a → IsArc value (n + 1) a
IsArc-more value n a h = record { ilabel = h.ilabel; olabel = h.olabel; weight = h.weight; next = omega (arith, h.next) }

-- a state stays good where there are more states
arcs-more : {V : Type 0} (value : V → Cost) (n : ℕ) (s : State V) → All (IsArc value n) s.arcs → All (IsArc value (n + 1)) s.arcs
arcs-more value n s h = All-weaker (IsArc value n) (IsArc value (n + 1)) (IsArc-more value n) s.arcs h

-- a machine with one more state, which has no arcs
pub IsMachine-push : {V : Type 0} (value : V → Cost) (m : Machine V) (w : V) → IsMachine value m → length m.states < most_states → IsMachine value (record { start = m.start; states = m.states ++ bare_state w ∷ [] })
IsMachine-push {V} value m w h room =
    let n = length m.states in
    let longer : length (m.states ++ bare_state w ∷ []) ≡ n + 1 = length-append m.states (bare_state w ∷ []) in
    let Good : State V → Type 0 = λ s. All (IsArc value (n + 1)) s.arcs in
    record {
      start = IfSome_then m.start {P = λ s. s < n} {Q = λ s. s < length (m.states ++ bare_state w ∷ [])} h.start (λ s low. omega arith);
      arcs = subst (λ (k : ℕ). All (λ s. All (IsArc value k) s.arcs) (m.states ++ bare_state w ∷ [])) (sym longer) (All-push Good m.states (bare_state w) (All-weaker (λ s. All (IsArc value n) s.arcs) Good (arcs-more value n) m.states h.arcs) (All-nil (IsArc value (n + 1))));
      few_states = omega arith;
      few_arcs = rw (sum_by_push (λ (s : State V). length s.arcs) m.states (bare_state w)) (omega (arith, h.few_arcs));
    }

-- what is read in a place of the states of a machine has good arcs
arcs_at : {V : Type 0} (value : V → Cost) (m : Machine V) (i : ℕ) (s : State V) → IsMachine value m → i < length m.states → s ≡ get_or m.states i s → All (IsArc value (length m.states)) s.arcs
arcs_at {V} value m i s h within e = subst (λ (t : State V). All (IsArc value (length m.states)) t.arcs) (sym e) (h.arcs i s within)

-- an arc more in one state is an arc more in all
pub arc_total-with_arc : {V : Type 0} (states : List (State V)) (i : ℕ) (a : Arc V ℕ) (s : State V) → i < length states → s ≡ get_or states i s → arc_total states + 1 ≡ arc_total (set states i (with_arc a s))
arc_total-with_arc {V} states i a s within e =
    let sums = sum_by-set (λ (t : State V). length t.arcs) states i (with_arc a s) s within in
    let was : length (get_or states i s).arcs ≡ length s.arcs = ap (λ (t : State V). length t.arcs) (sym e) in
    let longer : length (s.arcs ++ a ∷ []) ≡ length s.arcs + 1 = length-append s.arcs (a ∷ []) in
    omega arith

-- another final weight changes no number of arcs
pub arc_total-with_final : {V : Type 0} (states : List (State V)) (i : ℕ) (w : V) (s : State V) → i < length states → s ≡ get_or states i s → arc_total states ≡ arc_total (set states i (with_final w s))
arc_total-with_final {V} states i w s within e =
    let sums = sum_by-set (λ (t : State V). length t.arcs) states i (with_final w s) s within in
    let was : length (get_or states i s).arcs ≡ length s.arcs = ap (λ (t : State V). length t.arcs) (sym e) in
    omega arith

-- a machine stays one with an arc more in one state
pub IsMachine-with_arc : {V : Type 0} (value : V → Cost) (m : Machine V) (i : ℕ) (a : Arc V ℕ) → IsMachine value m → i < length m.states → IsArc value (length m.states) a → arc_total m.states < most_arcs → IsMachine value (record { start = m.start; states = changed (with_arc a) m.states i })
IsMachine-with_arc {V} value m i a h within good room =
    let s : State V = get_or m.states i (bare_state a.weight) in
    let e : s ≡ get_or m.states i s = get_or_default m.states i (bare_state a.weight) s within in
    let total = arc_total-with_arc m.states i a s within e in
    let there = IsMachine-set value m i (with_arc a s) h (All-push (IsArc value (length m.states)) s.arcs a (arcs_at value m i s h within e) good) (omega arith) in
    subst (λ (ss : List (State V)). IsMachine value (record { start = m.start; states = ss })) (set-changed (with_arc a) m.states i (with_arc a s) s within (ap (with_arc a) e)) there

-- and with another final weight
pub IsMachine-with_final : {V : Type 0} (value : V → Cost) (m : Machine V) (i : ℕ) (w : V) → IsMachine value m → i < length m.states → IsMachine value (record { start = m.start; states = changed (with_final w) m.states i })
IsMachine-with_final {V} value m i w h within =
    let s : State V = get_or m.states i (bare_state w) in
    let e : s ≡ get_or m.states i s = get_or_default m.states i (bare_state w) s within in
    let total = arc_total-with_final m.states i w s within e in
    let there = IsMachine-set value m i (with_final w s) h (arcs_at value m i s h within e) (omega (arith, h.few_arcs)) in
    subst (λ (ss : List (State V)). IsMachine value (record { start = m.start; states = ss })) (set-changed (with_final w) m.states i (with_final w s) s within (ap (with_final w) e)) there

-- two names of what is read in a place
pub read_as : {X : Type 0} (xs : List X) (i : ℕ) (x y : X) → x ≡ y → y ≡ get_or xs i y → x ≡ get_or xs i x
read_as {X} xs i x y e r = subst (λ (z : X). z ≡ get_or xs i z) (sym e) r

-- what is not refused as full has room
pub has_room : {X E : Type 0} (r : Result X E) (x : X) (e : E) (n limit : ℕ) → r ≡ Ok x → (IsErrOf r e ↔ (limit ≤ n)) → n < limit
has_room r x e n limit is full = by_order (cases_lt n limit)
  where
    by_order : (n < limit) ⊎ (limit ≤ n) → n < limit
    by_order (inl low) = low
    by_order (inr high) = let h = full.1 high in absurd (cc)
