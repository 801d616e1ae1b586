-- Where a search ends: no state is put off, or the hops that are kept lead round a cycle.
use Rattle.std.proofs.Common.{◌≡◌, ◌⊎◌, inl, inr, ℕ, ◌+◌, ◌*◌, ◌<◌, ◌≤◌, zero, suc, true, false, List, [], ◌∷◌, ◌++◌, Option, None, Some, length, map, get_or, sym, refl, ap, ap₂, ◌∙◌, subst, arith}
use Rattle.std.proofs.Math.Nat.{mul-le-mul_left}
use Rattle.std.proofs.lemmas.Bool.{cases_Bool, cases_lt}
use Rattle.std.proofs.lemmas.List.{get_or_past, length-append, length-map}
use Rattle.fst_semiring.specs.Cost.{Cost, infinite, plus}
use Rattle.fst_semiring.specs.declared.arc_type.ArcType.{ArcType}
use Rattle.fst_semiring.specs.Semiring.{cancels, one_of, times, IsCost, Within}
use Rattle.fst_semiring.proofs.Cancelling.{one_best, times_reflects}
use Rattle.fst_semiring.proofs.Laws.{times_assoc, times_comm, times_one}
use Rattle.fst_semiring.proofs.Order.{plus_antisym}
use Rattle.fst_semiring.proofs.Ranges.{Within-more, Within-one, Within-times}
use Rattle.fst_machine.specs.BreadthFirst.{Apart, Has}
use Rattle.fst_machine.specs.Distance.{IsLeast}
use Rattle.fst_machine.proofs.Elements.{Apart_below, find_number}
use Rattle.fst_machine.specs.declared.path.Step.{Step}
use Rattle.fst_search.specs.Hops.{Hop, Better, NoWorse, Arrives, IsBack, IsNet, hops_product, value_by}
use Rattle.fst_search.specs.Searching.{Ended, IsChain, IsTrail, Linked, Node, Searching, Tentative, Turned, blank_node, distance_at, link_at, step_of, turn_at}
use Rattle.fst_search.proofs.Order.{better_not}
use Rattle.fst_search.proofs.Chains.{IsChain-append, back_of_chain, chain_bound, hops_product-append, same_from, strict_linked}
use Rattle.fst_search.proofs.Rounds.{arrives_finite, finished, finished_no_worse, infinite_or_not}

-- the states on a chain
abbrev visited : ℕ → List Hop → List ℕ
visited q [] = q ∷ []
visited q (h ∷ hops) = q ∷ visited h.from hops

visited-length : (q : ℕ) (hops : List Hop) → length (visited q hops) ≡ suc (length hops)
visited-length q [] = refl
visited-length q (h ∷ hops) = ap suc (visited-length h.from hops)

module _ (kind : ArcType) (Goes : Hop → Type 0) where
  pub IsBack-append : (front back : List Hop) (q x p : ℕ) → IsBack Goes q front x → IsBack Goes x back p → IsBack Goes q (front ++ back) p
  IsBack-append [] back q x p here more = subst (λ z. IsBack Goes z back p) (sym here) more
  IsBack-append (h ∷ front) back q x p leads more = (leads.0, leads.1, IsBack-append front back h.from x p leads.2 more)

  -- Where a distance is least, no cycle of its state is better than One.
  pub least_fair : (source : ℕ → Cost) (z : ℕ) (d : Cost) (hops : List Hop) → IsLeast (Arrives kind Goes source z) d → IsCost kind d → (d ≡ infinite → ⊥) → IsBack Goes z hops z
      → Better (hops_product kind hops) (one_of kind) → ⊥
  least_fair source z d hops (inl none) cost finite_d leads better = finite_d none.1
  least_fair source z d hops (inr (a, least)) cost finite_d leads better = by_kind (cases_Bool (cancels kind))
    where
      round : Cost
      round = times kind (hops_product kind hops) d

      again : NoWorse d (times kind (hops_product kind hops) d)
      again = least (times kind (hops_product kind hops) d) (record {
        back = hops ++ a.back;
        first = a.first;
        leads = IsBack-append hops a.back z z a.first leads a.leads;
        begins = a.begins;
        weight = ap (times kind (hops_product kind hops)) a.weight ∙ (sym (times_assoc kind (hops_product kind hops) (hops_product kind a.back) (source a.first)) ∙ ap (λ w. times kind w (source a.first)) (sym (hops_product-append kind hops a.back)));
      })

      by_kind : (cancels kind ≡ true) ⊎ (cancels kind ≡ false) → ⊥
      by_kind (inl yes_kind) =
          let turned : NoWorse (times kind d (one_of kind)) (times kind d (hops_product kind hops)) = ap₂ plus (times_one kind d) (times_comm kind d (hops_product kind hops)) ∙ (again ∙ sym (times_one kind d)) in
          better_not (hops_product kind hops) (one_of kind) better (times_reflects kind d (one_of kind) (hops_product kind hops) yes_kind cost finite_d turned)
      by_kind (inr no_kind) = one_best kind (hops_product kind hops) no_kind better

  module _ (L : ℕ → Option Step) where
    visits : (hops : List Hop) (q x z : ℕ) → IsChain Goes L q hops x → Has (visited q hops) z → (front : List Hop) × (tail : List Hop) × (hops ≡ front ++ tail) × IsChain Goes L q front z × IsChain Goes L z tail x
    visits [] q x z here (inl e) = ([], [], refl, e, sym e ∙ here)
    visits [] q x z here (inr none) = absurd none
    visits (h ∷ hops) q x z chain (inl e) = ([], h ∷ hops, refl, e, subst (λ (y : ℕ). IsChain Goes L y (h ∷ hops) x) e chain)
    visits (h ∷ hops) q x z chain (inr r) =
        let rest = visits hops h.from x z chain.1 r in
        (h ∷ rest.0, rest.1, ap (λ ks. h ∷ ks) rest.2, (chain.0, rest.3), rest.4)

    -- A chain comes to a state that lies on a cycle of kept hops.
    record Comes (hops : List Hop) (x : ℕ) : Type 0 where
      pub state : ℕ
      pub first : Hop
      pub rest : List Hop
      pub tail : List Hop
      pub round : IsChain Goes L state (first ∷ rest) state
      pub goes_on : IsChain Goes L state tail x
      pub few : length rest < length hops

    apart_or_comes : (hops : List Hop) (q x : ℕ) → IsChain Goes L q hops x → Apart (visited q hops) ⊎ Comes hops x
    apart_or_comes [] q x here = inl ((λ none. none), tt)
    apart_or_comes (h ∷ hops) q x chain = by_rest (apart_or_comes hops h.from x chain.1) (find_number (visited h.from hops) q)
      where
        by_rest : Apart (visited h.from hops) ⊎ Comes hops x → Has (visited h.from hops) q ⊎ (Has (visited h.from hops) q → ⊥) → Apart (visited q (h ∷ hops)) ⊎ Comes (h ∷ hops) x
        by_rest (inr r) c = inr (record { state = r.state; first = r.first; rest = r.rest; tail = r.tail; round = r.round; goes_on = r.goes_on; few = let low = r.few in omega arith })
        by_rest (inl apart) (inr none) = inl (none, apart)
        by_rest (inl apart) (inl has) =
            let v = visits hops h.from x q chain.1 has in
            inr (record {
              state = q;
              first = h;
              rest = v.0;
              tail = v.1;
              round = (chain.0, v.3);
              goes_on = v.4;
              few = let long = ap length v.2 ∙ length-append v.0 v.1 in omega arith;
            })

    visited_low : (n : ℕ) → IsNet Goes n → (hops : List Hop) (q x : ℕ) → q < n → IsChain Goes L q hops x → (k : ℕ) → Has (visited q hops) k → k < n
    visited_low n net [] q x low here k (inl e) = subst (λ (j : ℕ). j < n) e low
    visited_low n net [] q x low here k (inr none) = absurd none
    visited_low n net (h ∷ hops) q x low chain k (inl e) = subst (λ (j : ℕ). j < n) e low
    visited_low n net (h ∷ hops) q x low chain k (inr r) = visited_low n net hops h.from x (net.begins h chain.0.1) chain.1 k r

    -- a chain whose states are apart is shorter than there are states
    apart_few : (n : ℕ) → IsNet Goes n → (hops : List Hop) (q x : ℕ) → q < n → IsChain Goes L q hops x → Apart (visited q hops) → length hops < n
    apart_few n net hops q x low chain apart =
        let few = Apart_below n (visited q hops) apart (visited_low n net hops q x low chain) in
        let many = visited-length q hops in
        omega arith

    -- hops and one more, as one and more
    one_first : (rest : List Hop) (h : Hop) → (first : Hop) × (more : List Hop) × (rest ++ h ∷ [] ≡ first ∷ more) × (length more ≡ length rest)
    one_first [] h = (h, [], refl, refl)
    one_first (r ∷ rest) h = (r, rest ++ h ∷ [], refl, length-append rest (h ∷ []) ∙ (let e : length rest + 1 ≡ suc (length rest) = omega arith in e))

    -- A state lies on a cycle of so many kept hops and one.
    abbrev OnCycle : ℕ → ℕ → Type 0
    OnCycle m x = (first : Hop) × (rest : List Hop) × IsChain Goes L x (first ∷ rest) x × (length rest ≡ m)

    -- and so does each state to which the hops lead on
    turns_on : (m : ℕ) (tail : List Hop) (z x : ℕ) → IsChain Goes L z tail x → OnCycle m z → OnCycle m x
    turns_on m [] z x here on = subst (OnCycle m) here on
    turns_on m (t ∷ tail) z x chain (h, rest, round, many) =
        let same = same_from (step_of h) (step_of t) (sym round.0.0 ∙ chain.0.0) in
        let whole : IsChain Goes L h.from (rest ++ h ∷ []) h.from = IsChain-append kind Goes L rest (h ∷ []) h.from z h.from round.1 (round.0, refl) in
        let shape = one_first rest h in
        let next : OnCycle m h.from = (shape.0, shape.1, subst (λ ks. IsChain Goes L h.from ks h.from) shape.2 whole, shape.3 ∙ many) in
        turns_on m tail t.from x chain.1 (subst (OnCycle m) same.0 next)

  module _ (source : ℕ → Cost) where
    -- the hops along a trail
    pub chain_of_trail : (D : ℕ → Cost) (L : ℕ → Option Step) → Tentative kind Goes source D L → (trail : List Step) (q x : ℕ) → IsTrail L q trail x
        → (hops : List Hop) × IsChain Goes L q hops x × (map step_of hops ≡ trail)
    chain_of_trail D L t [] q x here = ([], here, refl)
    chain_of_trail D L t (s ∷ trail) q x leads = by_origin (t.origin q) (λ z e. chain_of_trail D L t trail z x (subst (λ (y : ℕ). IsTrail L y trail x) e leads.1))
      where
        by_origin : ((L q ≡ None) × (D q ≡ source q)) ⊎ ((h : Hop) × Linked Goes L q h × NoWorse (times kind h.weight (D h.from)) (D q))
            → ((z : ℕ) → s.state ≡ z → (hops : List Hop) × IsChain Goes L z hops x × (map step_of hops ≡ trail)) → (hops : List Hop) × IsChain Goes L q hops x × (map step_of hops ≡ s ∷ trail)
        by_origin (inl none) rest = absurd (let wrong : None ≡ Some s = sym none.0 ∙ leads.0 in cc)
        by_origin (inr (h, linked, bound)) rest =
            let same : step_of h ≡ s = (let e : Some (step_of h) ≡ Some s = sym linked.0 ∙ leads.0 in cc) in
            let more = rest h.from (sym (ap (λ z. z.state) same)) in
            (h ∷ more.0, (linked, more.1), ap₂ (◌∷◌) same more.2)

    -- links lead between states
    pub links_low : (n : ℕ) → IsNet Goes n → (D : ℕ → Cost) (L : ℕ → Option Step) → Tentative kind Goes source D L → (q : ℕ) (s : Step) → L q ≡ Some s → (q < n) × (s.state < n)
    links_low n net D L t q s link = by_origin (t.origin q)
      where
        by_origin : ((L q ≡ None) × (D q ≡ source q)) ⊎ ((h : Hop) × Linked Goes L q h × NoWorse (times kind h.weight (D h.from)) (D q)) → (q < n) × (s.state < n)
        by_origin (inl none) = absurd (let wrong : None ≡ Some s = sym none.0 ∙ link in cc)
        by_origin (inr (h, linked, bound)) =
            let same = same_from (step_of h) s (sym linked.0 ∙ link) in
            (subst (λ (j : ℕ). j < n) linked.2 (net.ends h linked.1), subst (λ (j : ℕ). j < n) same.0 (net.begins h linked.1))

    -- a trail of as many steps as there are states ends on a cycle
    pub trail_turns : (n : ℕ) → IsNet Goes n → (nodes : List (Node Cost)) → length nodes ≡ n → Tentative kind Goes source (distance_at nodes) (link_at nodes) → (trail : List Step) (q x : ℕ) → q < n
        → IsTrail (link_at nodes) q trail x → length trail ≡ n → Turned kind Goes source n nodes x
    trail_turns n net nodes size t trail q x low leads many = by_chain (apart_or_comes (link_at nodes) c.0 q x c.1)
      where
        c : (hops : List Hop) × IsChain Goes (link_at nodes) q hops x × (map step_of hops ≡ trail)
        c = chain_of_trail (distance_at nodes) (link_at nodes) t trail q x leads

        same_length : length c.0 ≡ n
        same_length = sym (length-map c.0 step_of) ∙ (ap length c.2 ∙ many)

        by_chain : Apart (visited q c.0) ⊎ Comes (link_at nodes) c.0 x → Turned kind Goes source n nodes x
        by_chain (inl apart) = absurd (let few = apart_few (link_at nodes) n net c.0 q x low c.1 apart in let long = same_length in omega arith)
        by_chain (inr r) =
            let on = turns_on (link_at nodes) (length r.rest) r.tail r.state x r.goes_on (r.first, r.rest, r.round, refl) in
            record { size = size; tentative = t; first = on.0; rest = on.1; chain = on.2; few = let few = r.few in let long = same_length in let same = on.3 in omega arith }

    -- from a state that is put off in a round with k before it, a trail of at most k steps goes on
    pub trail_goes_on : (n bound k mark takes : ℕ) (Waits : ℕ → Type 0) → IsNet Goes n → (nodes : List (Node Cost)) (members later met : List ℕ) → Searching kind Goes source n bound k mark takes Waits nodes members later met
        → (trail : List Step) (q x : ℕ) → Has later q → IsTrail (link_at nodes) q trail x → length trail ≤ k → link_at nodes x ≡ None → ⊥
    trail_goes_on n bound k mark takes Waits net nodes members later met s trail q x has leads few none =
        let c = chain_of_trail (distance_at nodes) (link_at nodes) s.tentative trail q x leads in
        let many : length c.0 ≡ length trail = sym (length-map c.0 step_of) ∙ ap length c.2 in
        strict_linked kind Goes source (distance_at nodes) (link_at nodes) s.tentative n net c.0 q x c.1 (s.round.strict q x c.0 has (omega arith) (back_of_chain kind Goes (link_at nodes) c.0 q x c.1)) none

    -- hops back from a state until there is none, or so many
    walk : (D : ℕ → Cost) (L : ℕ → Option Step) → Tentative kind Goes source D L → (m q : ℕ) → (hops : List Hop) × (x : ℕ) × IsChain Goes L q hops x × (((L x ≡ None) × (D x ≡ source x)) ⊎ (length hops ≡ m))
    walk D L t zero q = ([], q, refl, inr refl)
    walk D L t (suc m) q = by_origin (t.origin q) (λ z. walk D L t m z)
      where
        by_origin : ((L q ≡ None) × (D q ≡ source q)) ⊎ ((h : Hop) × Linked Goes L q h × NoWorse (times kind h.weight (D h.from)) (D q))
            → ((z : ℕ) → (hops : List Hop) × (x : ℕ) × IsChain Goes L z hops x × (((L x ≡ None) × (D x ≡ source x)) ⊎ (length hops ≡ m)))
            → (hops : List Hop) × (x : ℕ) × IsChain Goes L q hops x × (((L x ≡ None) × (D x ≡ source x)) ⊎ (length hops ≡ suc m))
        by_origin (inl none) rest = ([], q, refl, inl none)
        by_origin (inr (h, linked, bound)) rest = let more = rest h.from in (h ∷ more.0, more.1, (linked, more.2), ended_at more.1 more.0 more.3)
          where
            ended_at : (x : ℕ) (hops : List Hop) → ((L x ≡ None) × (D x ≡ source x)) ⊎ (length hops ≡ m) → ((L x ≡ None) × (D x ≡ source x)) ⊎ (suc (length hops) ≡ suc m)
            ended_at x hops (inl none) = inl none
            ended_at x hops (inr many) = inr (ap suc many)

    -- the product of kept hops is within as many times their bound
    chain_within : (bound : ℕ) (L : ℕ → Option Step) → ((q : ℕ) (h : Hop) → Linked Goes L q h → Within bound h.weight) → (hops : List Hop) (q x : ℕ) → IsChain Goes L q hops x → Within (length hops * bound) (hops_product kind hops)
    chain_within bound L bounded [] q x chain = Within-one (0 * bound) kind
    chain_within bound L bounded (h ∷ hops) q x chain =
        let e : bound + length hops * bound ≡ suc (length hops) * bound = omega arith in
        subst (λ (j : ℕ). Within j (hops_product kind (h ∷ hops))) e (Within-times kind bound (length hops * bound) h.weight (hops_product kind hops) (bounded q h chain.0) (chain_within bound L bounded hops h.from x chain.1))

    module _ (n bound k mark takes : ℕ) (net : IsNet Goes n) (nodes : List (Node Cost)) (met : List ℕ) (s : Searching kind Goes source n bound k mark takes (Has []) nodes [] [] met) where
      least : (q : ℕ) → IsLeast (Arrives kind Goes source q) (distance_at nodes q)
      least = finished kind Goes source n k net (distance_at nodes) (link_at nodes) (Has []) s.tentative s.round (λ q none. none)

      linked_finite : (q : ℕ) (h : Hop) → Linked Goes (link_at nodes) q h → distance_at nodes q ≡ infinite → ⊥
      linked_finite q h linked zero_here = by_reached (s.tentative.reached q)
        where
          by_reached : ((distance_at nodes q ≡ infinite) × (link_at nodes q ≡ None)) ⊎ Arrives kind Goes source q (distance_at nodes q) → ⊥
          by_reached (inl none) = let wrong : None ≡ Some (step_of h) = sym none.1 ∙ linked.0 in cc
          by_reached (inr a) = arrives_finite kind Goes source n net q (distance_at nodes q) a zero_here

      no_cycle : (hops : List Hop) (x : ℕ) → Comes (link_at nodes) hops x → ⊥
      no_cycle hops x r = least_fair source r.state (distance_at nodes r.state) (r.first ∷ r.rest) (least r.state) (s.marked.kinds r.state) (linked_finite r.state r.first r.round.0)
          (back_of_chain kind Goes (link_at nodes) (r.first ∷ r.rest) r.state r.state r.round) (s.tentative.cycles r.state r.first r.rest r.round)

      is_product : (hops : List Hop) (q x : ℕ) → IsChain Goes (link_at nodes) q hops x → distance_at nodes x ≡ source x → distance_at nodes q ≡ value_by kind source hops x
      is_product hops q x chain begins =
          plus_antisym (distance_at nodes q) (value_by kind source hops x)
          (finished_no_worse kind Goes source k (distance_at nodes) (link_at nodes) (Has []) s.tentative s.round (λ p none. none) hops q x (back_of_chain kind Goes (link_at nodes) hops q x chain))
          (subst (λ z. NoWorse (times kind (hops_product kind hops) z) (distance_at nodes q)) begins (chain_bound kind Goes source (distance_at nodes) (link_at nodes) s.tentative n net hops q x chain))

      number : (q : ℕ) → q < n → (w : (hops : List Hop) × (x : ℕ) × IsChain Goes (link_at nodes) q hops x × (((link_at nodes x ≡ None) × (distance_at nodes x ≡ source x)) ⊎ (length hops ≡ n)))
          → Apart (visited q w.0) ⊎ Comes (link_at nodes) w.0 w.1 → Within (n * bound) (distance_at nodes q)
      number q low w (inr r) = absurd (no_cycle w.0 w.1 r)
      number q low w (inl apart) = by_end w.3
        where
          few : length w.0 < n
          few = apart_few (link_at nodes) n net w.0 q w.1 low w.2 apart

          by_end : ((link_at nodes w.1 ≡ None) × (distance_at nodes w.1 ≡ source w.1)) ⊎ (length w.0 ≡ n) → Within (n * bound) (distance_at nodes q)
          by_end (inr many) = absurd (let low_many = few in omega arith)
          by_end (inl ends) =
              let product = chain_within bound (link_at nodes) s.marked.bounded w.0 q w.1 w.2 in
              let whole : Within (length w.0 * bound + bound) (value_by kind source w.0 w.1) = Within-times kind (length w.0 * bound) bound (hops_product kind w.0) (source w.1) product (s.marked.begun w.1) in
              let more : bound * suc (length w.0) ≤ bound * n = mul-le-mul_left bound few in
              subst (Within (n * bound)) (sym (is_product w.0 q w.1 w.2 ends.1)) (Within-more (length w.0 * bound + bound) (n * bound) (value_by kind source w.0 w.1) (omega arith) whole)

      numbers : (q : ℕ) → (q < n) ⊎ (n ≤ q) → Within (n * bound) (distance_at nodes q)
      numbers q (inl low) =
          let w = walk (distance_at nodes) (link_at nodes) s.tentative n q in
          number q low w (apart_or_comes (link_at nodes) w.0 q w.1 w.2)
      numbers q (inr past) = subst (Within (n * bound)) (sym (ap (λ z. z.distance) (get_or_past nodes q blank_node (let size = s.marked.size in omega arith)))) tt

      blank : (q : ℕ) → (Has met q → ⊥) → (distance_at nodes q ≡ infinite) ⊎ (distance_at nodes q ≡ infinite → ⊥) → (0 < turn_at nodes q) ⊎ (turn_at nodes q ≤ 0) → get_or nodes q blank_node ≡ blank_node
      blank q none (inr some) c = absurd (none (s.marked.met_all q some))
      blank q none (inl zero_here) (inl late) = absurd (none (s.marked.turned_met q late))
      blank q none (inl zero_here) (inr early) =
          let no_turn : turn_at nodes q ≡ 0 = omega arith in
          let no_link : link_at nodes q ≡ None = no_link_at (s.tentative.reached q) in
          λ i. record { distance = zero_here i; link = no_link i; turn = no_turn i }
        where
          no_link_at : ((distance_at nodes q ≡ infinite) × (link_at nodes q ≡ None)) ⊎ Arrives kind Goes source q (distance_at nodes q) → link_at nodes q ≡ None
          no_link_at (inl n) = n.1
          no_link_at (inr a) = absurd (arrives_finite kind Goes source n net q (distance_at nodes q) a zero_here)

      pub ended : Ended kind Goes source n bound nodes met
      ended = record {
        size = s.marked.size;
        least = least;
        numbers = λ q. numbers q (cases_lt q n);
        kinds = s.marked.kinds;
        met_low = s.marked.met_low;
        met_only = s.marked.met_only;
        met_apart = s.marked.met_apart;
        blank = λ q none. blank q none (infinite_or_not (distance_at nodes q)) (cases_lt 0 (turn_at nodes q));
      }
