-- The links of a machine are the hops along its arcs, and back along them.
use Rattle.std.proofs.Common.{◌≡◌, ◌⊎◌, inl, inr, ℕ, ◌+◌, ◌<◌, ◌≤◌, zero, suc, Bool, true, List, [], ◌∷◌, None, Some, length, get_or, slice_get, sym, ap, ap₂, ◌∙◌, subst, arith}
use Rattle.std.specs.List.{All}
use Rattle.std.proofs.lemmas.Bool.{cases_lt}
use Rattle.std.proofs.lemmas.List.{get_or_past, length-map}
use Rattle.std.proofs.lemmas.List.Elements.{All-head, All-tail}
use Rattle.std.proofs.lemmas.List.FromFn.{get_or-map-range_with_len, length-map-range_with_len}
use Rattle.std.proofs.lemmas.Option.{same_Some}
use Rattle.fst_semiring.specs.Cost.{Cost, infinite}
use Rattle.fst_machine.specs.BreadthFirst.{Has}
use Rattle.fst_machine.specs.Machine.{Arc, IsArc, IsMachine, Machine, State, valued, valued_arc}
use Rattle.fst_machine.specs.Graph.{graph_of}
use Rattle.fst_machine.proofs.Arcs.{mapped_at, at_mapped}
use Rattle.fst_machine.proofs.Cycles.{state_below}
use Rattle.fst_trim.specs.Links.{Link, backs_from, links_from, turned_links}
use Rattle.fst_trim.specs.Sources.{led}
use Rattle.fst_trim.proofs.Placing.{led_Has}
use Rattle.fst_search.specs.ArcHops.{Along, Back}
use Rattle.fst_search.specs.Hops.{Hop, IsHop, IsNet, IsOpen}
use Rattle.fst_search.proofs.Links.{arcs_in_graph, arcs_of, from_all, from_only, link_all, link_only}

-- what holds of each element holds of the one in a place
pub all_at : {X : Type 0} (P : X → Type 0) (xs : List X) (i : ℕ) (x : X) → All P xs → slice_get xs i ≡ Some x → P x
all_at P [] i x all there = absurd (let wrong : None ≡ Some x = there in cc)
all_at P (y ∷ xs) zero x all there = subst P (same_Some y x there) (All-head P y xs all)
all_at P (y ∷ xs) (suc i) x all there = all_at P xs i x (All-tail P y xs all) there

pub all_arcs : {V : Type 0} (P : Arc V ℕ → Type 0) (states : List (State V)) (q i : ℕ) (a : Arc V ℕ) → All (λ s. All P s.arcs) states → slice_get (arcs_of states q) i ≡ Some a → P a
all_arcs P [] q i a all there = absurd (let wrong : None ≡ Some a = there in cc)
all_arcs P (s ∷ states) zero i a all there = all_at P s.arcs i a (All-head (λ s. All P s.arcs) s states all) there
all_arcs P (s ∷ states) (suc q) i a all there = all_arcs P states q i a (All-tail (λ s. All P s.arcs) s states all) there

module _ {V : Type 0} (value : V → Cost) (m : Machine V) where
  -- an arc of the graph is one of the machine
  pub arc_before : (q i : ℕ) (b : Arc Cost ℕ) → slice_get ((graph_of (valued value m)).arcs q) i ≡ Some b → (a : Arc V ℕ) × (slice_get (arcs_of m.states q) i ≡ Some a) × (valued_arc value a ≡ b)
  arc_before q i b there = mapped_at (valued_arc value) (arcs_of m.states q) i b (ap (λ (zs : List (Arc Cost ℕ)). slice_get zs i) (sym (arcs_in_graph value m.states q)) ∙ there)

  pub arc_after : (q i : ℕ) (a : Arc V ℕ) → slice_get (arcs_of m.states q) i ≡ Some a → slice_get ((graph_of (valued value m)).arcs q) i ≡ Some (valued_arc value a)
  arc_after q i a there = ap (λ (zs : List (Arc Cost ℕ)). slice_get zs i) (arcs_in_graph value m.states q) ∙ at_mapped (valued_arc value) (arcs_of m.states q) i a there

  pub arc_good : IsMachine value m → (q i : ℕ) (b : Arc Cost ℕ) → slice_get ((graph_of (valued value m)).arcs q) i ≡ Some b → (q < length m.states) × (b.next < length m.states) × (b.weight ≡ infinite → ⊥)
  arc_good good q i b there =
      let a = arc_before q i b there in
      let fine = all_arcs (IsArc value (length m.states)) m.states q i a.0 good.arcs a.1 in
      let below = state_below (valued value m) q i b there in
      ((let many = length-map m.states _ in subst (λ (n : ℕ). q < n) many below), subst (λ (z : Arc Cost ℕ). z.next < length m.states) a.2 fine.next, subst (λ (z : Arc Cost ℕ). z.weight ≡ infinite → ⊥) a.2 fine.weight)

  module _ (marks : List Bool) where
    pub along_only : (test : Arc V ℕ → Bool) (Class : Arc Cost ℕ → Type 0) → ((a : Arc V ℕ) → test a ≡ true → Class (valued_arc value a)) → (h : Hop) → IsHop value marks (links_from test m.states) h → Along (graph_of (valued value m)) Class h × IsOpen marks h.to
    along_only test Class of_class h hop =
        let r = link_only test m.states h.from hop.link hop.there in
        let place : h.place ≡ r.index = ap (λ z. z.place) hop.same ∙ (ap (λ (l : Link V). l.place) r.same ∙ (let e : 0 + r.index ≡ r.index = omega arith in e)) in (
          record {
            arc = valued_arc value r.arc;
            there = ap (λ (j : ℕ). slice_get ((graph_of (valued value m)).arcs h.from) j) place ∙ arc_after h.from r.index r.arc r.there;
            class = of_class r.arc r.passes;
            next = sym (ap (λ z. z.to) hop.same ∙ ap (λ (l : Link V). l.next) r.same);
            weight = sym (ap (λ z. z.weight) hop.same ∙ ap (λ (l : Link V). value l.weight) r.same);
          },
          hop.leads,
        )

    pub along_all : (test : Arc V ℕ → Bool) (Class : Arc Cost ℕ → Type 0) → ((a : Arc V ℕ) → Class (valued_arc value a) → test a ≡ true) → (h : Hop) → Along (graph_of (valued value m)) Class h → IsOpen marks h.to → IsHop value marks (links_from test m.states) h
    along_all test Class of_test h along is_open =
        let a = arc_before h.from h.place along.arc along.there in
        let e : 0 + h.place ≡ h.place = omega arith in
        let next : h.to ≡ a.0.next = sym (ap (λ (z : Arc Cost ℕ). z.next) a.2 ∙ along.next) in
        let weight : h.weight ≡ value a.0.weight = sym (ap (λ (z : Arc Cost ℕ). z.weight) a.2 ∙ along.weight) in
        let link : Link V = record { weight = a.0.weight; next = a.0.next; place = h.place } in
        record {
          link = link;
          there = subst (λ (j : ℕ). Has (get_or (links_from test m.states) h.from []) (record { weight = a.0.weight; next = a.0.next; place = j })) e (link_all test m.states h.from h.place a.0 a.1 (of_test a.0 (subst Class (sym a.2) along.class)));
          same = λ i. record { from = h.from; to = next i; place = h.place; weight = weight i };
          leads = is_open;
        }

    pub back_only : (h : Hop) → IsHop value marks (turned_links m.states) h → Back (graph_of (valued value m)) h × IsOpen marks h.to
    back_only h hop = by_place (cases_lt h.from (length m.states))
      where
        by_place : (h.from < length m.states) ⊎ (length m.states ≤ h.from) → Back (graph_of (valued value m)) h × IsOpen marks h.to
        by_place (inr past) = absurd (subst (λ (ls : List (Link V)). Has ls hop.link) (get_or_past (turned_links m.states) h.from [] (let many = length-map-range_with_len (λ q. led q (backs_from 0 m.states)) 0 (length m.states) in omega arith)) hop.there)
        by_place (inl low) =
            let is : get_or (turned_links m.states) h.from [] ≡ led h.from (backs_from 0 m.states) = get_or-map-range_with_len (λ q. led q (backs_from 0 m.states)) 0 (length m.states) h.from h.from [] low (omega arith) in
            let r = from_only 0 m.states hop.link h.from ((led_Has h.from (backs_from 0 m.states) hop.link).0 (subst (λ (ls : List (Link V)). Has ls hop.link) is hop.there)) in
            let to : h.to ≡ r.state = ap (λ z. z.to) hop.same ∙ (ap (λ (l : Link V). l.next) r.same ∙ (let e : 0 + r.state ≡ r.state = omega arith in e)) in
            let place : h.place ≡ r.index = ap (λ z. z.place) hop.same ∙ ap (λ (l : Link V). l.place) r.same in (
              record {
                arc = valued_arc value r.arc;
                there = ap (λ (q : ℕ). slice_get ((graph_of (valued value m)).arcs q) h.place) to ∙ (ap (λ (j : ℕ). slice_get ((graph_of (valued value m)).arcs r.state) j) place ∙ arc_after r.state r.index r.arc r.there);
                next = r.leads;
                weight = sym (ap (λ z. z.weight) hop.same ∙ ap (λ (l : Link V). value l.weight) r.same);
              },
              hop.leads,
            )

    pub back_all : IsMachine value m → (h : Hop) → Back (graph_of (valued value m)) h → IsOpen marks h.to → IsHop value marks (turned_links m.states) h
    back_all good h back is_open =
        let a = arc_before h.to h.place back.arc back.there in
        let fine = arc_good good h.to h.place back.arc back.there in
        let low : h.from < length m.states = subst (λ (q : ℕ). q < length m.states) back.next fine.1 in
        let is : get_or (turned_links m.states) h.from [] ≡ led h.from (backs_from 0 m.states) = get_or-map-range_with_len (λ q. led q (backs_from 0 m.states)) 0 (length m.states) h.from h.from [] low (omega arith) in
        let weight : h.weight ≡ value a.0.weight = sym (ap (λ (z : Arc Cost ℕ). z.weight) a.2 ∙ back.weight) in
        let next : a.0.next ≡ h.from = ap (λ (z : Arc Cost ℕ). z.next) a.2 ∙ back.next in
        let e : 0 + h.to ≡ h.to = omega arith in
        let link : Link V = record { weight = a.0.weight; next = h.to; place = h.place } in
        let listed = from_all 0 h.to h.place m.states a.0 a.1 in
        let moved : Has {X = Link V × ℕ} (backs_from 0 m.states) (link, h.from) = subst (λ (q : ℕ). Has {X = Link V × ℕ} (backs_from 0 m.states) (link, q)) next (subst (λ (j : ℕ). Has {X = Link V × ℕ} (backs_from 0 m.states) (record { weight = a.0.weight; next = j; place = h.place }, a.0.next)) e listed) in
        record {
          link = link;
          there = subst (λ (ls : List (Link V)). Has ls link) (sym is) ((led_Has h.from (backs_from 0 m.states) link).1 moved);
          same = λ i. record { from = h.from; to = h.to; place = h.place; weight = weight i };
          leads = is_open;
        }

    -- two arcs in one place of one state have one weight
    at_one_place : (p q j k : ℕ) (a b : Arc Cost ℕ) → slice_get ((graph_of (valued value m)).arcs p) j ≡ Some a → slice_get ((graph_of (valued value m)).arcs q) k ≡ Some b → p ≡ q → j ≡ k → a.weight ≡ b.weight
    at_one_place p q j k a b one two state place =
        ap (λ (z : Arc Cost ℕ). z.weight) (same_Some a b (sym one ∙ (ap₂ (λ (x y : ℕ). slice_get ((graph_of (valued value m)).arcs x) y) state place ∙ two)))

    pub along_net : IsMachine value m → (test : Arc V ℕ → Bool) → IsNet (IsHop value marks (links_from test m.states)) (length m.states)
    along_net good test = record {
      begins = λ h hop. let a = (only h hop).0 in (arc_good good h.from h.place a.arc a.there).0;
      ends = λ h hop. let a = (only h hop).0 in subst (λ (q : ℕ). q < length m.states) a.next (arc_good good h.from h.place a.arc a.there).1;
      solid = λ h hop e. let a = (only h hop).0 in (arc_good good h.from h.place a.arc a.there).2 (a.weight ∙ e);
      fixed = λ h k one two from place to.
          let a = (only h one).0 in
          let b = (only k two).0 in
          sym a.weight ∙ (at_one_place h.from k.from h.place k.place a.arc b.arc a.there b.there from place ∙ b.weight);
    }
      where
        only : (h : Hop) → IsHop value marks (links_from test m.states) h → Along (graph_of (valued value m)) (λ a. Unit {0}) h × IsOpen marks h.to
        only h hop = along_only test (λ a. Unit {0}) (λ a e. tt) h hop

    pub back_net : IsMachine value m → IsNet (IsHop value marks (turned_links m.states)) (length m.states)
    back_net good = record {
      begins = λ h hop. let a = (back_only h hop).0 in subst (λ (q : ℕ). q < length m.states) a.next (arc_good good h.to h.place a.arc a.there).1;
      ends = λ h hop. let a = (back_only h hop).0 in (arc_good good h.to h.place a.arc a.there).0;
      solid = λ h hop e. let a = (back_only h hop).0 in (arc_good good h.to h.place a.arc a.there).2 (a.weight ∙ e);
      fixed = λ h k one two from place to.
          let a = (back_only h one).0 in
          let b = (back_only k two).0 in
          sym a.weight ∙ (at_one_place h.to k.to h.place k.place a.arc b.arc a.there b.there to place ∙ b.weight);
    }
