-- The distances to the final states of a machine, by its links turned round.
use Rattle.std.proofs.Common.{◌≡◌, ◌⊎◌, inl, inr, ℕ, ◌+◌, ◌<◌, ◌≤◌, zero, suc, Bool, List, [], ◌∷◌, None, Some, Ok, Err, Result, length, map, get_or, slice_get, sym, ap, ◌∙◌, subst, arith}
use Rattle.std.specs.List.{All}
use Rattle.std.specs.Option.{option_map}
use Rattle.std.specs.Prelude.{IfErr, IfOk, OnOk}
use Rattle.std.proofs.lemmas.Bool.{cases_eq, cases_lt}
use Rattle.std.proofs.lemmas.List.{get_or_past, length-map}
use Rattle.std.proofs.lemmas.List.FromFn.{get_or-map-range_with_len, length-map-range_with_len}
use Rattle.std.proofs.lemmas.Option.{same_Some}
use Rattle.fst_semiring.specs.Cost.{Cost, infinite}
use Rattle.fst_semiring.specs.declared.arc_type.ArcType.{ArcType}
use Rattle.fst_machine.specs.BreadthFirst.{Has}
use Rattle.fst_machine.specs.Machine.{Arc, IsMachine, Machine, State, valued, valued_state}
use Rattle.fst_machine.specs.Graph.{Graph, graph_of, no_state}
use Rattle.fst_machine.specs.Distance.{IsLeast}
use Rattle.fst_machine.specs.declared.path.Step.{Step}
use Rattle.fst_trim.specs.Links.{Link, backs_from, turned_links}
use Rattle.fst_trim.specs.Sources.{led}
use Rattle.fst_trim.proofs.Placing.{led_Has}
use Rattle.fst_search.specs.declared.direction.Direction.TheVariants.{ToFinals}
use Rattle.fst_search.specs.ArcHops.{Back}
use Rattle.fst_search.specs.Beginning.{AreLeast, BeginsFinal, BeginsFinals, Measures}
use Rattle.fst_search.specs.Cycles.{IsFound}
use Rattle.fst_search.specs.Distances.{IsListed, IsMarkedDistance, IsMeasured, MarkedCounts}
use Rattle.fst_search.specs.Hops.{Hop, Arrives, IsBack, IsHop, IsNet, IsOpen}
use Rattle.fst_search.proofs.Links.{from_only}
use Rattle.fst_search.proofs.MachineHops.{all_arcs, back_all, back_net, back_only}
use Rattle.fst_search.proofs.Measured.{arrives_finishes, fair_to_finals, final_distance, found_to_finals}
use Rattle.fst_search.proofs.Starting.{improving_low, value_at}

-- what holds where a result is fine
pub on_ok : {X E : Type 0} (r : Result X E) (P Q : Type 0) → (P → Q) → OnOk r P → OnOk r Q
on_ok (Ok x) P Q f h = f h
on_ok (Err e) P Q f h = tt

-- a final weight that was read is that of the graph
pub final_read : {V : Type 0} (value : V → Cost) (states : List (State V)) (q : ℕ) (w : V) → option_map (λ s. s.final) (slice_get states q) ≡ Some w → (get_or (map (valued_state value) states) q no_state).final ≡ value w
final_read value [] q w is = absurd (let wrong : None ≡ Some w = is in cc)
final_read value (s ∷ states) zero w is = ap value (same_Some s.final w is)
final_read value (s ∷ states) (suc q) w is = final_read value states q w is

-- the first value of a state that was looked at
pub begins_final : (marks : List Bool) (q : ℕ) (final d : Cost) → IsOpen marks q → d ≡ final → BeginsFinal marks q final d
begins_final marks q final d is_open is = ((λ o. is), λ some. (is_open, is))

pub begins_not : (marks : List Bool) (q : ℕ) (final d : Cost) → (IsOpen marks q → ⊥) → d ≡ infinite → BeginsFinal marks q final d
begins_not marks q final d shut none = ((λ o. absurd (shut o)), λ some. absurd (some none))

-- one state more
pub begins_more : (marks : List Bool) (g : Graph ℕ) (i : ℕ) (source now : ℕ → Cost) → BeginsFinals marks g i source → BeginsFinal marks i (g.final i) (now i) → ((q : ℕ) → (q ≡ i → ⊥) → now q ≡ source q) → BeginsFinals marks g (i + 1) now
begins_more marks g i source now before here others q = ((λ low. at low (cases_eq q i)), λ past. later past)
  where
    at : q < i + 1 → (q ≡ i) ⊎ (q ≡ i → ⊥) → BeginsFinal marks q (g.final q) (now q)
    at low (inl e) = subst (λ (z : ℕ). BeginsFinal marks z (g.final z) (now z)) (sym e) here
    at low (inr other) = subst (BeginsFinal marks q (g.final q)) (sym (others q other)) ((before q).0 (omega arith))

    later : i + 1 ≤ q → now q ≡ infinite
    later past = others q (λ e. omega arith) ∙ (before q).1 (omega arith)

pub turned_length : {V : Type 0} (states : List (State V)) → length (turned_links states) ≡ length states
turned_length states = length-map-range_with_len (λ q. led q (backs_from 0 states)) 0 (length states)

module _ {V : Type 0} (kind : ArcType) (value : V → Cost) (m : Machine V) (good : IsMachine value m) (marks : List Bool) (source : ℕ → Cost) (begins : BeginsFinals marks (graph_of (valued value m)) (length m.states) source)
    (closed : (p k : ℕ) (a : Arc Cost ℕ) → slice_get ((graph_of (valued value m)).arcs p) k ≡ Some a → IsOpen marks p → IsOpen marks a.next) where
  goes_back : (h : Hop) → IsHop value marks (turned_links m.states) h → Back (graph_of (valued value m)) h
  goes_back h hop = (back_only value m marks h hop).0

  back_goes : (h : Hop) → IsOpen marks h.to → Back (graph_of (valued value m)) h → IsHop value marks (turned_links m.states) h × IsOpen marks h.from
  back_goes h is_open back = (back_all value m marks good h back is_open, subst (IsOpen marks) back.next (closed h.to h.place back.arc back.there is_open))

  begins_at : (q : ℕ) → (q < length m.states) ⊎ (length m.states ≤ q) → BeginsFinal marks q ((graph_of (valued value m)).final q) (source q)
  begins_at q (inl low) = (begins q).0 low
  begins_at q (inr past) =
      let none : source q ≡ infinite = (begins q).1 past in
      let final : (graph_of (valued value m)).final q ≡ infinite = ap (λ s. s.final) (get_or_past (map (valued_state value) m.states) q no_state (let many = length-map m.states (valued_state value) in omega arith)) in
      ((λ o. none ∙ sym final), λ some. absurd (some none))

  ends : (q : ℕ) → (source q ≡ infinite → ⊥) → source q ≡ (graph_of (valued value m)).final q
  ends q some = ((begins_at q (cases_lt q (length m.states))).1 some).1

  starts : (q : ℕ) → IsOpen marks q → source q ≡ (graph_of (valued value m)).final q
  starts q is_open = (begins_at q (cases_lt q (length m.states))).0 is_open

  -- only states that count have a value
  arrives_open : (q : ℕ) (w : Cost) → Arrives kind (IsHop value marks (turned_links m.states)) source q w → IsOpen marks q
  arrives_open q w a = by_back a.back a.leads
    where
      by_back : (back : List Hop) → IsBack (IsHop value marks (turned_links m.states)) q back a.first → IsOpen marks q
      by_back [] here = subst (IsOpen marks) (sym here) ((begins_at a.first (cases_lt a.first (length m.states))).1 a.begins).0
      by_back (h ∷ back) leads = subst (IsOpen marks) leads.1 leads.0.leads

  marked_distance : (q : ℕ) (d : Cost) → IsLeast (Arrives kind (IsHop value marks (turned_links m.states)) source q) d → IsMarkedDistance marks kind (graph_of (valued value m)) q d
  marked_distance q d least = ((λ is_open. final_distance kind (graph_of (valued value m)) (IsHop value marks (turned_links m.states)) (IsOpen marks) goes_back back_goes source ends starts q d is_open least), λ shut. none shut least)
    where
      none : (IsOpen marks q → ⊥) → IsLeast (Arrives kind (IsHop value marks (turned_links m.states)) source q) d → d ≡ infinite
      none shut (inl h) = h.1
      none shut (inr h) = absurd (shut (arrives_open q d h.0))

  marked_counts : (q : ℕ) (w : Cost) → Arrives kind (IsHop value marks (turned_links m.states)) source q w → MarkedCounts marks (graph_of (valued value m)) q
  marked_counts q w a =
      let f = arrives_finishes kind (graph_of (valued value m)) (IsHop value marks (turned_links m.states)) (IsOpen marks) goes_back back_goes source ends starts q w a in
      (arrives_open q w a, record { last = f.last; path = f.path; leads = f.leads; final = f.final })

  pub finals_measured : (bound : ℕ) (values : List Cost) → AreLeast kind (IsHop value marks (turned_links m.states)) source (length m.states) bound values
      → IsMeasured kind (graph_of (valued value m)) (IsMarkedDistance marks kind (graph_of (valued value m))) (MarkedCounts marks (graph_of (valued value m))) (length m.states) bound values
  finals_measured bound values are = record {
    size = are.size;
    distances = λ q d there. marked_distance q d (are.least q d there);
    numbers = are.numbers;
    kinds = are.kinds;
    none = λ p cycle counts improves.
        let v = value_at values (length m.states) p are.size (improving_low kind value m good p cycle improves) in
        fair_to_finals kind (graph_of (valued value m)) (IsHop value marks (turned_links m.states)) (IsOpen marks) goes_back back_goes source ends starts (length m.states) (back_net value m marks good) p v.0 (are.least p v.0 v.1) (are.kinds p v.0 v.1) cycle counts.0 counts.1 improves;
  }

  pub finals_made : {D E X : Type 0} (wide : D → List Cost) (steps : E → List Step) (bound : ℕ) (members : List ℕ) (links : List (List (Link V))) (result : Result (Result D E) X) → links ≡ turned_links m.states
      → IfOk result (λ r. Measures wide steps kind (IsHop value marks links) source ToFinals (length links) bound members r)
      → IfOk result (λ r. IfOk r (λ v. IsMeasured kind (graph_of (valued value m)) (IsMarkedDistance marks kind (graph_of (valued value m))) (MarkedCounts marks (graph_of (valued value m))) (length m.states) bound (wide v)))
  finals_made wide steps bound members links (Ok (Ok v)) are h =
      finals_measured bound (wide v) (subst (λ (n : ℕ). AreLeast kind (IsHop value marks (turned_links m.states)) source n bound (wide v)) (turned_length m.states)
      (subst (λ (ls : List (List (Link V))). AreLeast kind (IsHop value marks ls) source (length ls) bound (wide v)) are h.1))
  finals_made wide steps bound members links (Ok (Err e)) are h = tt
  finals_made wide steps bound members links (Err x) are h = tt

  pub finals_cycle : {D E X : Type 0} (wide : D → List Cost) (steps : E → List Step) (bound : ℕ) (members : List ℕ) (links : List (List (Link V))) (result : Result (Result D E) X) → links ≡ turned_links m.states
      → IfOk result (λ r. Measures wide steps kind (IsHop value marks links) source ToFinals (length links) bound members r)
      → IfOk result (λ r. IfErr r (λ e. IsListed kind (graph_of (valued value m)) (MarkedCounts marks (graph_of (valued value m))) (steps e)))
  finals_cycle wide steps bound members links (Ok (Ok v)) are h = tt
  finals_cycle wide steps bound members links (Ok (Err e)) are h =
      found_to_finals kind (graph_of (valued value m)) (IsHop value marks (turned_links m.states)) goes_back source (MarkedCounts marks (graph_of (valued value m))) marked_counts (steps e)
      (subst (λ (ls : List (List (Link V))). IsFound kind (IsHop value marks ls) source ToFinals (steps e)) are h)
  finals_cycle wide steps bound members links (Err x) are h = tt

pub finals_net : {V : Type 0} (value : V → Cost) (m : Machine V) → IsMachine value m → (marks : List Bool) (links : List (List (Link V))) → links ≡ turned_links m.states → IsNet (IsHop value marks links) (length links)
finals_net {V} value m good marks links are =
    subst (λ (ls : List (List (Link V))). IsNet (IsHop value marks ls) (length ls)) (sym are) (subst (λ (n : ℕ). IsNet (IsHop value marks (turned_links m.states)) n) (sym (turned_length m.states)) (back_net value m marks good))

-- what is known of each arc is known of its link back
pub known_turned : {V : Type 0} (Known : V → Type 0) (states : List (State V)) → All (λ s. All (λ a. Known a.weight) s.arcs) states → (q : ℕ) (l : Link V) → Has (get_or (turned_links states) q []) l → Known l.weight
known_turned {V} Known states all q l has = by_place (cases_lt q (length states))
  where
    by_place : (q < length states) ⊎ (length states ≤ q) → Known l.weight
    by_place (inr past) = absurd (subst (λ (ls : List (Link V)). Has ls l) (get_or_past (turned_links states) q [] (let many = turned_length states in omega arith)) has)
    by_place (inl low) =
        let is : get_or (turned_links states) q [] ≡ led q (backs_from 0 states) = get_or-map-range_with_len (λ p. led p (backs_from 0 states)) 0 (length states) q q [] low (omega arith) in
        let r = from_only 0 states l q ((led_Has q (backs_from 0 states) l).0 (subst (λ (ls : List (Link V)). Has ls l) is has)) in
        subst Known (ap (λ (z : Link V). z.weight) (sym r.same)) (all_arcs (λ a. Known a.weight) states r.state r.index r.arc all r.there)
