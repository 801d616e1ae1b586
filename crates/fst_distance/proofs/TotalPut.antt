-- The machine with its total put on its start or on a copy of it.
use Rattle.std.proofs.Common.{◌≡◌, ◌≢◌, ◌⊎◌, inl, inr, ℕ, ◌+◌, ◌<◌, ◌≤◌, zero, suc, List, [], ◌∷◌, ◌++◌, None, Some, length, map, get_or, sym, refl, subst, arith}
use Rattle.std.specs.Prelude.{IfSome}
use Rattle.std.specs.List.{All}
use Rattle.std.proofs.lemmas.Bool.{cases_eq}
use Rattle.std.proofs.lemmas.List.{length-append, length-map, get_or_default}
use Rattle.std.proofs.lemmas.List.Elements.{All-map, All-push, All-weaker}
use Rattle.std.proofs.lemmas.List.Sums.{sum_by-cons, sum_by_push}
use Rattle.std.proofs.lemmas.Option.{slice_get-get_or, get_or_from_slice_get}
use Rattle.fst_semiring.specs.Cost.{Cost, infinite}
use Rattle.fst_semiring.specs.declared.arc_type.ArcType.{ArcType}
use Rattle.fst_machine.specs.Machine.{Arc, State, Machine, IsArc, IsMachine, arc_total, changed, most_arcs, most_states}
use Rattle.fst_machine.specs.Graph.{graph_of, no_state}
use Rattle.fst_machine.proofs.Arcs.{at_append_left}
use Rattle.fst_distance.specs.Totals.{IsAmong, IsPlaced, IsSource, put_on, scaled, scaled_arc}
use Rattle.fst_distance.specs.declared.placing.Place.{Place}
use Rattle.fst_distance.specs.declared.placing.Place.TheVariants.{Nowhere, OnStart, OnCopy}
use Rattle.fst_distance.proofs.Lists.{changed_here, changed_other, length_changed, push_last}
use Rattle.fst_distance.proofs.Potential.{times_not_zero}

-- ---- one state changed

total_changed : (kind : ArcType) (total : Cost) (states : List (State Cost)) (i : ℕ) → arc_total (changed (scaled kind total) states i) ≡ arc_total states
total_changed kind total [] i = refl
total_changed kind total (s ∷ states) zero =
    let new = sum_by-cons (λ (t : State Cost). length t.arcs) (scaled kind total s) states in
    let old = sum_by-cons (λ (t : State Cost). length t.arcs) s states in
    let same = length-map s.arcs (scaled_arc kind total) in
    omega (arith, new, old, same)
total_changed kind total (s ∷ states) (suc i) =
    let new = sum_by-cons (λ (t : State Cost). length t.arcs) s (changed (scaled kind total) states i) in
    let old = sum_by-cons (λ (t : State Cost). length t.arcs) s states in
    let rest = total_changed kind total states i in
    omega (arith, new, old, rest)

-- ---- the last state

pub append_here : {X : Type 0} (xs : List X) (x d : X) → get_or (xs ++ x ∷ []) (length xs) d ≡ x
append_here xs x d = get_or_from_slice_get (xs ++ x ∷ []) (length xs) x d (push_last xs x)

pub append_before : {X : Type 0} (xs : List X) (x d : X) (i : ℕ) → i < length xs → get_or (xs ++ x ∷ []) i d ≡ get_or xs i d
append_before xs x d i low = get_or_from_slice_get (xs ++ x ∷ []) i (get_or xs i d) d (at_append_left xs (x ∷ []) i (get_or xs i d) (slice_get-get_or xs i d low))

module _ (kind : ArcType) (total : Cost) (m : Machine Cost) where
  -- ---- its size

  pub on_count : (s : ℕ) → length (put_on kind total m (OnStart s)).states ≡ length m.states
  on_count s = length_changed (scaled kind total) m.states s

  pub copy_count : (s : ℕ) → length (put_on kind total m (OnCopy s)).states ≡ length m.states + 1
  copy_count s = length-append m.states (scaled kind total (get_or m.states s no_state) ∷ [])

  pub on_total : (s : ℕ) → arc_total (put_on kind total m (OnStart s)).states ≡ arc_total m.states
  on_total s = total_changed kind total m.states s

  pub copy_total : (s : ℕ) → arc_total (put_on kind total m (OnCopy s)).states ≡ arc_total m.states + length ((graph_of m).arcs s)
  copy_total s =
      let all = sum_by_push (λ (t : State Cost). length t.arcs) m.states (scaled kind total (get_or m.states s no_state)) in
      let same = length-map (get_or m.states s no_state).arcs (scaled_arc kind total) in
      omega (arith, all, same)

  -- ---- the state in a place

  pub at_start : (s : ℕ) → s < length m.states → get_or (put_on kind total m (OnStart s)).states s no_state ≡ scaled kind total (get_or m.states s no_state)
  at_start s low = changed_here (scaled kind total) m.states s no_state low

  pub off_start : (s i : ℕ) → (s ≡ i → ⊥) → get_or (put_on kind total m (OnStart s)).states i no_state ≡ get_or m.states i no_state
  off_start s i apart = changed_other (scaled kind total) m.states s i no_state apart

  pub at_copy : (s : ℕ) → get_or (put_on kind total m (OnCopy s)).states (length m.states) no_state ≡ scaled kind total (get_or m.states s no_state)
  at_copy s = append_here m.states (scaled kind total (get_or m.states s no_state)) no_state

  pub off_copy : (s i : ℕ) → i < length m.states → get_or (put_on kind total m (OnCopy s)).states i no_state ≡ get_or m.states i no_state
  off_copy s i low = append_before m.states (scaled kind total (get_or m.states s no_state)) no_state i low

  -- ---- it is a machine

  module _ (is : IsMachine (λ v. v) m) (some : total ≢ infinite) where
    scaled_good : (n : ℕ) (arcs : List (Arc Cost ℕ)) → All (IsArc (λ v. v) n) arcs → All (IsArc (λ v. v) n) (map (scaled_arc kind total) arcs)
    scaled_good n arcs good = All-map (IsArc (λ v. v) n) (scaled_arc kind total) arcs (λ k a low. let own = good k a low in
        record { ilabel = own.ilabel; olabel = own.olabel; weight = times_not_zero kind total (get_or arcs k a).weight some own.weight; next = own.next })

    good_at : (i : ℕ) → i < length m.states → All (IsArc (λ v. v) (length m.states)) (get_or m.states i no_state).arcs
    good_at i low = is.arcs i no_state low

    pub on_machine : (s : ℕ) → s < length m.states → IsMachine (λ v. v) (put_on kind total m (OnStart s))
    on_machine s below = record {
      start = subst (λ (n : ℕ). IfSome m.start (λ p. p < n)) (sym (on_count s)) is.start;
      arcs = λ i d low. subst (λ (t : State Cost). All (IsArc (λ v. v) (length (put_on kind total m (OnStart s)).states)) t.arcs) (get_or_default (put_on kind total m (OnStart s)).states i no_state d low) (by i (omega (arith, low, on_count s)) (cases_eq s i));
      few_states = omega (arith, is.few_states, on_count s);
      few_arcs = omega (arith, is.few_arcs, on_total s);
    }
      where
        by : (i : ℕ) → i < length m.states → (s ≡ i) ⊎ (s ≢ i) → All (IsArc (λ v. v) (length (put_on kind total m (OnStart s)).states)) (get_or (put_on kind total m (OnStart s)).states i no_state).arcs
        by i low (inl same) = subst (λ (n : ℕ). All (IsArc (λ v. v) n) (get_or (put_on kind total m (OnStart s)).states i no_state).arcs) (sym (on_count s))
            (subst (λ (t : State Cost). All (IsArc (λ v. v) (length m.states)) t.arcs) (sym (subst (λ (k : ℕ). get_or (put_on kind total m (OnStart s)).states k no_state ≡ scaled kind total (get_or m.states k no_state)) same (at_start s below)))
            (scaled_good (length m.states) (get_or m.states i no_state).arcs (good_at i low)))
        by i low (inr apart) = subst (λ (n : ℕ). All (IsArc (λ v. v) n) (get_or (put_on kind total m (OnStart s)).states i no_state).arcs) (sym (on_count s))
            (subst (λ (t : State Cost). All (IsArc (λ v. v) (length m.states)) t.arcs) (sym (off_start s i apart)) (good_at i low))

    more : (n : ℕ) (a : Arc Cost ℕ) → IsArc (λ v. v) n a → IsArc (λ v. v) (n + 1) a
    more n a h = record { ilabel = h.ilabel; olabel = h.olabel; weight = h.weight; next = omega (arith, h.next) }

    arcs_more : (n : ℕ) (s : State Cost) → All (IsArc (λ v. v) n) s.arcs → All (IsArc (λ v. v) (n + 1)) s.arcs
    arcs_more n s h = All-weaker (IsArc (λ v. v) n) (IsArc (λ v. v) (n + 1)) (more n) s.arcs h

    pub copy_machine : (s : ℕ) → s < length m.states → length m.states < most_states → arc_total (put_on kind total m (OnCopy s)).states ≤ most_arcs → IsMachine (λ v. v) (put_on kind total m (OnCopy s))
    copy_machine s below room few = record {
      start = omega (arith, copy_count s);
      arcs = subst (λ (n : ℕ). All (λ (t : State Cost). All (IsArc (λ v. v) n) t.arcs) (put_on kind total m (OnCopy s)).states) (sym (copy_count s))
          (All-push (λ (t : State Cost). All (IsArc (λ v. v) (length m.states + 1)) t.arcs) m.states (scaled kind total (get_or m.states s no_state))
          (All-weaker (λ (t : State Cost). All (IsArc (λ v. v) (length m.states)) t.arcs) (λ (t : State Cost). All (IsArc (λ v. v) (length m.states + 1)) t.arcs) (arcs_more (length m.states)) m.states is.arcs)
          (arcs_more (length m.states) (scaled kind total (get_or m.states s no_state)) (scaled_good (length m.states) (get_or m.states s no_state).arcs (good_at s below))));
      few_states = omega (arith, room, copy_count s);
      few_arcs = few;
    }

  pub placed_machine : IsMachine (λ v. v) m → (place : Place) → (IsPlaced place → total ≢ infinite) → IsAmong (length m.states) place → length (put_on kind total m place).states ≤ most_states → arc_total (put_on kind total m place).states ≤ most_arcs → IsMachine (λ v. v) (put_on kind total m place)
  placed_machine is Nowhere some among few little = is
  placed_machine is (OnStart s) some among few little = on_machine is (some tt) s among
  placed_machine is (OnCopy s) some among few little = copy_machine is (some tt) s among (omega (arith, few, copy_count s)) little

  -- ---- its states, by those of the machine

  pub nowhere_source : (i : ℕ) → i < length m.states → IsSource kind total m Nowhere i None
  nowhere_source i low = (low, refl)

  pub start_source : (s i : ℕ) → s ≡ i → IsAmong (length m.states) (OnStart s) → IsSource kind total m (OnStart s) i (Some s)
  start_source s i same among = (among, subst (λ (k : ℕ). get_or (put_on kind total m (OnStart s)).states k no_state ≡ scaled kind total (get_or m.states s no_state)) same (at_start s among))

  pub other_source : (s i : ℕ) → s ≢ i → i < length (put_on kind total m (OnStart s)).states → IsSource kind total m (OnStart s) i None
  other_source s i apart low = (omega (arith, low, on_count s), off_start s i apart)

  pub copy_source : (s i : ℕ) → length m.states ≡ i → IsAmong (length m.states) (OnCopy s) → IsSource kind total m (OnCopy s) i (Some s)
  copy_source s i same among = (among, subst (λ (k : ℕ). get_or (put_on kind total m (OnCopy s)).states k no_state ≡ scaled kind total (get_or m.states s no_state)) same (at_copy s))

  pub before_source : (s i : ℕ) → length m.states ≢ i → i < length (put_on kind total m (OnCopy s)).states → IsSource kind total m (OnCopy s) i None
  before_source s i apart low = let below : i < length m.states = omega (arith, low, apart, copy_count s) in (below, off_copy s i below)
