-- The hops along the first arcs of best paths, and the words of best paths.
use Rattle.std.proofs.Common.{◌≡◌, ◌⊎◌, inl, inr, ℕ, ◌<◌, ◌≤◌, zero, suc, true, List, [], ◌∷◌, Some, length, map, get_or, slice_get, refl, sym, ap, subst, ◌∙◌, arith}
use Rattle.std.proofs.lemmas.Bool.{cases_lt}
use Rattle.std.proofs.lemmas.List.{get_or_default, get_or_past, length-map}
use Rattle.fst_semiring.specs.Cost.{Cost, infinite, plus}
use Rattle.fst_semiring.specs.declared.arc_type.ArcType.{ArcType}
use Rattle.fst_semiring.specs.Semiring.{cancels, times, IsCost}
use Rattle.fst_semiring.proofs.Laws.{times_keeps, times_only_zero}
use Rattle.fst_semiring.proofs.Order.{plus_antisym}
use Rattle.fst_semiring.proofs.Cancelling.{times_cancels}
use Rattle.fst_machine.specs.BreadthFirst.{Has}
use Rattle.fst_machine.specs.Machine.{Arc, IsMachine, Machine, State, valued, valued_state}
use Rattle.fst_machine.specs.Graph.{graph_of, no_state}
use Rattle.fst_trim.specs.Links.{Link, turned_links}
use Rattle.fst_search.specs.Hops.{Hop}
use Rattle.fst_search.proofs.MachineHops.{back_all, back_only}
use Rattle.fst_nbest.specs.Counts.{Ends, Hops, IsLeastCount, count_of, uncounted}
use Rattle.fst_nbest.specs.Words.{Says}
use Rattle.fst_nbest.specs.PathWords.{arc_step, path_words, toward, IsCount}
use Rattle.fst_nbest.specs.Ready.{HasDistances, IsReady, IsTightLink, IsTightStop, count_in, dist_in}
use Rattle.fst_nbest.proofs.PathWords.{best_says, no_better, says_finishes, solid_some, some_solid, some_toward, step_arc}

-- a link back to a state, with the arc that it is
pub link_arc : {V : Type 0} (value : V → Cost) (m : Machine V) (y : ℕ) (l : Link V) → Has (get_or (turned_links m.states) y []) l
    → (a : Arc Cost ℕ) × (slice_get ((graph_of (valued value m)).arcs l.next) l.place ≡ Some a) × (a.next ≡ y) × (a.weight ≡ value l.weight)
link_arc value m y l there =
    let hop : Hop = record { from = y; to = l.next; place = l.place; weight = value l.weight } in
    let back = (back_only value m [] hop (record { link = l; there = there; same = refl; leads = refl })).0 in
    (back.arc, back.there, back.next, back.weight)

-- and an arc with its link
pub arc_link : {V : Type 0} (value : V → Cost) (m : Machine V) → IsMachine value m → (x k : ℕ) (a : Arc Cost ℕ) → slice_get ((graph_of (valued value m)).arcs x) k ≡ Some a
    → (l : Link V) × Has (get_or (turned_links m.states) a.next []) l × (l.next ≡ x) × (value l.weight ≡ a.weight)
arc_link value m good x k a there =
    let hop : Hop = record { from = a.next; to = x; place = k; weight = a.weight } in
    let is = back_all value m [] good hop (record { arc = a; there = there; next = refl; weight = refl }) refl in
    (is.link, is.there, sym (ap (λ (h : Hop). h.to) is.same), sym (ap (λ (h : Hop). h.weight) is.same))

-- a state that is final is one of the machine
pub final_low : {V : Type 0} (value : V → Cost) (m : Machine V) (x : ℕ) → ((graph_of (valued value m)).final x ≡ infinite → ⊥) → x < length m.states
final_low value m x final = by (cases_lt x (length m.states))
  where
    by : (x < length m.states) ⊎ (length m.states ≤ x) → x < length m.states
    by (inl low) = low
    by (inr past) = absurd (final (ap (λ (s : State Cost). s.final) (get_or_past (valued value m).states x no_state (let many = length-map m.states (valued_state value) in omega (arith, many, past)))))

module _ {V D : Type 0} (kind : ArcType) (cancel : cancels kind ≡ true) (value : V → Cost) (wide : D → Cost) (known : V → Type 0) (m : Machine V) (good : IsMachine value m) (dist : List D) (h : HasDistances kind value wide known m dist) where
  -- where best paths stop
  abbrev Stops : ℕ → Type 0
  Stops = IsTightStop value wide m dist

  -- the hops of best paths
  abbrev Goes : ℕ → ℕ → Type 0
  Goes = Hops (λ y. get_or (turned_links m.states) y []) (IsTightLink kind value wide dist)

  ends_says : (k x : ℕ) → Ends Stops Goes x k → (dist_in wide dist x ≡ infinite → ⊥) × (word : List ℕ) × Says kind (path_words (graph_of (valued value m)) (dist_in wide dist)) x word (dist_in wide dist x) × (length word ≡ k)
  ends_says zero x stop = ((λ none. stop.final (stop.same ∙ none)), [], some_solid ((graph_of (valued value m)).final x) stop.final ∙ ap Some stop.same, refl)
  ends_says (suc k) x (y, (l, there, (same, tight)), ends) =
      let g = graph_of (valued value m) in
      let rest = ends_says k y ends in
      let arc = link_arc value m y l there in
      let a = arc.0 in
      let here : slice_get (g.arcs x) l.place ≡ Some a = ap (λ (q : ℕ). slice_get (g.arcs q) l.place) (sym same) ∙ arc.1 in
      let heavy : times kind a.weight (dist_in wide dist y) ≡ dist_in wide dist x = ap (λ (w : Cost). times kind w (dist_in wide dist y)) arc.3 ∙ tight in
      let step : arc_step (dist_in wide dist) (slice_get (g.arcs x) l.place) ≡ Some (a.weight, y) =
      ap (arc_step (dist_in wide dist)) here ∙ (ap (λ (q : ℕ). toward (dist_in wide dist q) (a.weight, q)) arc.2 ∙ some_toward (dist_in wide dist y) (a.weight, y) rest.0) in (
        (λ none. zero_or (times_only_zero kind a.weight (dist_in wide dist y) (heavy ∙ none)) (h.firm.solid x l.place a here) rest.0),
        l.place ∷ rest.1,
        (a.weight, y, dist_in wide dist y, step, rest.2, sym heavy),
        ap suc rest.3,
      )
    where
      zero_or : {P Q : Type 0} → P ⊎ Q → (P → ⊥) → (Q → ⊥) → ⊥
      zero_or (inl p) no_p no_q = no_p p
      zero_or (inr q) no_p no_q = no_q q

  says_ends : (word : List ℕ) (x : ℕ) → (dist_in wide dist x ≡ infinite → ⊥) → Says kind (path_words (graph_of (valued value m)) (dist_in wide dist)) x word (dist_in wide dist x) → Ends Stops Goes x (length word)
  says_ends [] x some says =
      let is = solid_some ((graph_of (valued value m)).final x) (dist_in wide dist x) says in
      record { low = final_low value m x is.1; final = is.1; same = is.0 }
  says_ends (k ∷ word) x some (w, y, u, step, says, weight) =
      let g = graph_of (valued value m) in
      let d = dist_in wide dist in
      let arc = step_arc kind g d x k w y step in
      let a = arc.0 in
      let link = arc_link value m good x k a arc.1 in
      -- the rest is a best word
      let best = best_says kind g d h.exact h.firm y arc.4 in
      let least : plus (d y) u ≡ d y = no_better kind g d h.exact h.firm y u arc.4 (says_finishes kind g d h.exact h.firm y word u says) in
      let up : plus (times kind w (d y)) (times kind w u) ≡ times kind w (d y) = times_keeps kind w (d y) u least in
      let through : Says kind (path_words g d) x (k ∷ best.0) (times kind w (d y)) = (w, y, d y, step, best.1, refl) in
      let down : plus (d x) (times kind w (d y)) ≡ d x = no_better kind g d h.exact h.firm x (times kind w (d y)) some (says_finishes kind g d h.exact h.firm x (k ∷ best.0) (times kind w (d y)) through) in
      let tight : times kind w (d y) ≡ d x = plus_antisym (times kind w (d y)) (d x) (subst (λ (v : Cost). plus (times kind w (d y)) v ≡ times kind w (d y)) (sym weight) up) down in
      let solid_w : w ≡ infinite → ⊥ = λ none. h.firm.solid x k a arc.1 (arc.2 ∙ none) in
      let rest : u ≡ d y = times_cancels kind w u (d y) cancel (subst (λ (v : Cost). IsCost kind v) arc.2 (h.firm.cost x k a arc.1)) solid_w (sym weight ∙ sym tight) in (
        y,
        (link.0, subst (λ (q : ℕ). Has (get_or (turned_links m.states) q []) link.0) arc.3 link.1, (link.2, ap (λ (v : Cost). times kind v (d y)) (link.3 ∙ arc.2) ∙ tight)),
        says_ends word y arc.4 (subst (λ (v : Cost). Says kind (path_words g d) y word v) rest says),
      )

  -- the least counts of hops are the counts of the arcs of best paths
  pub tight_count : (x c : ℕ) → (dist_in wide dist x ≡ infinite → ⊥) → IsLeastCount Stops Goes x c → IsCount kind (path_words (graph_of (valued value m)) (dist_in wide dist)) x (dist_in wide dist x) c
  tight_count x c some least =
      let g = graph_of (valued value m) in
      let d = dist_in wide dist in
      let best = best_says kind g d h.exact h.firm x some in
      let counted = (least.least (length best.0) (says_ends best.0 x some best.1)).0 in
      let r = ends_says c x (least.ends counted) in
      record {
        word = r.1;
        says = r.2;
        long = r.3;
        least = λ other says. (least.least (length other) (says_ends other x some says)).1;
      }

  -- a machine with its distances and its counts
  pub tight_ready : (counts : List ℕ) → length counts ≡ length m.states → ((x : ℕ) → IsLeastCount Stops Goes x (count_of counts x)) → IsReady kind value wide known m dist counts
  tight_ready counts size least = record {
    measured = h;
    count_size = size;
    counts = λ x some. tight_count x (count_in counts x) some (subst (λ (c : ℕ). IsLeastCount Stops Goes x c) (read x some (cases_lt x (length counts))) (least x));
  }
    where
      read : (x : ℕ) → (dist_in wide dist x ≡ infinite → ⊥) → (x < length counts) ⊎ (length counts ≤ x) → count_of counts x ≡ count_in counts x
      read x some (inl low) = get_or_default counts x uncounted 0 low
      read x some (inr past) = absurd (some (get_or_past (map wide dist) x infinite (let many = length-map dist wide in let s = h.dist_size in omega (arith, many, s, size, past))))
