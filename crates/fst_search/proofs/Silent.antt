-- A search along epsilon arcs from one state.
use Rattle.std.proofs.Common.{◌≡◌, ◌⊎◌, inl, inr, ℕ, ◌*◌, ◌<◌, Bool, true, List, [], ◌∷◌, Option, None, Some, length, map, eqb-true, eq-eqb, get_or, sym, refl, ap, ap₂, ◌∙◌, subst, subst₂}
use Rattle.std.proofs.lemmas.Bool.{and_from, and_parts}
use Rattle.std.proofs.lemmas.List.{length-map}
use Rattle.std.specs.declared.cmp.Ordering.TheVariants.{Less}
use Rattle.fst_semiring.specs.Cost.{Cost, cost_cmp, infinite, plus}
use Rattle.fst_semiring.specs.declared.arc_type.ArcType.{ArcType}
use Rattle.fst_semiring.specs.Semiring.{one_of, IsCost, Within}
use Rattle.fst_machine.specs.BreadthFirst.{Has}
use Rattle.fst_machine.specs.Machine.{Arc, IsMachine, Machine, valued, valued_arc}
use Rattle.fst_machine.specs.Graph.{graph_of}
use Rattle.fst_machine.specs.Distance.{AllArcs, EpsilonArc, IsDistance, IsLeast, Reaches}
use Rattle.fst_machine.specs.Letters.{product}
use Rattle.fst_machine.specs.Paths.{IsPath, Leaves, Transition, letters}
use Rattle.fst_semiring.proofs.OfKind.{IsCost-one}
use Rattle.fst_semiring.proofs.Order.{plus_same}
use Rattle.fst_semiring.proofs.Ranges.{Within-one}
use Rattle.fst_semiring.proofs.Laws.{one_not_zero}
use Rattle.fst_machine.proofs.Elements.{find_number}
use Rattle.fst_machine.specs.declared.path.Step.{Step}
use Rattle.fst_trim.specs.Counted.{has_both_epsilons}
use Rattle.fst_trim.specs.Links.{Link, epsilon_links}
use Rattle.fst_search.specs.declared.direction.Direction.TheVariants.{FromStart}
use Rattle.fst_search.specs.ArcHops.{Along}
use Rattle.fst_search.specs.Beginning.{IsBlank, IsOnly, Sets}
use Rattle.fst_search.specs.Closure.{IsClosure, IsSilentCycle, Reached, Searched, Unmeeting, states_of}
use Rattle.fst_search.specs.Cycles.{IsFound, Solves}
use Rattle.fst_search.specs.Hops.{Hop, Arrives, IsHop, IsNet}
use Rattle.fst_search.specs.Searching.{Ended, Node, blank_node, distance_at}
use Rattle.fst_search.proofs.HopPaths.{forward_back, forward_path}
use Rattle.fst_search.proofs.MachineHops.{along_all, along_net, along_only}
use Rattle.fst_search.proofs.Measured.{arrives_reaches, class_distance}
use Rattle.fst_search.proofs.Rounds.{arrives_finite}

module _ {V : Type 0} (kind : ArcType) (value : V → Cost) (m : Machine V) (good : IsMachine value m) where
  epsilon_class : (a : Arc V ℕ) → has_both_epsilons a ≡ true → EpsilonArc (valued_arc value a)
  epsilon_class a e = let both = and_parts _ _ e in (eqb-true a.ilabel 0 both.0, eqb-true a.olabel 0 both.1)

  class_epsilon : (a : Arc V ℕ) → EpsilonArc (valued_arc value a) → has_both_epsilons a ≡ true
  class_epsilon a e = and_from _ _ (eq-eqb a.ilabel 0 e.0) (eq-eqb a.olabel 0 e.1)

  pub goes_silent : (h : Hop) → IsHop value [] (epsilon_links m.states) h → Along (graph_of (valued value m)) EpsilonArc h
  goes_silent h hop = (along_only value m [] has_both_epsilons EpsilonArc epsilon_class h hop).0

  pub silent_goes : (h : Hop) → Along (graph_of (valued value m)) EpsilonArc h → IsHop value [] (epsilon_links m.states) h
  silent_goes h along = along_all value m [] has_both_epsilons EpsilonArc class_epsilon h along refl

  pub silent_net : (marks : List Bool) (links : List (List (Link V))) → marks ≡ [] → links ≡ epsilon_links m.states → IsNet (IsHop value marks links) (length links)
  silent_net marks links none are =
      let same : length (epsilon_links m.states) ≡ length m.states = length-map m.states _ in
      subst₂ (λ (ms : List Bool) (ls : List (List (Link V))). IsNet (IsHop value ms ls) (length ls)) (sym none) (sym are)
      (subst (λ (n : ℕ). IsNet (IsHop value [] (epsilon_links m.states)) n) (sym same) (along_net value m [] good has_both_epsilons))

  -- a state that no epsilon arc leaves reaches itself alone
  module _ (q : ℕ) (none : get_or (epsilon_links m.states) q [] ≡ []) where
    no_arc : (t : Transition ℕ) → Leaves (graph_of (valued value m)) q t → EpsilonArc t.arc → ⊥
    no_arc t leaves class =
        let hop = silent_goes (record { from = q; to = t.arc.next; place = t.place; weight = t.arc.weight }) (record { arc = t.arc; there = leaves.1; class = class; next = refl; weight = refl }) in
        subst (λ (ls : List (Link V)). Has ls hop.link) none hop.there

    stays : (p : ℕ) (c : Cost) → Reaches kind (graph_of (valued value m)) EpsilonArc q p c → (q ≡ p) × (c ≡ one_of kind)
    stays p c r = by r.path r.leads r.class r.weight
      where
        by : (path : List (Transition ℕ)) → IsPath (graph_of (valued value m)) q path p → AllArcs EpsilonArc path → c ≡ product kind (letters path) → (q ≡ p) × (c ≡ one_of kind)
        by [] leads class weight = (leads, weight)
        by (t ∷ path) leads class weight = absurd (no_arc t leads.0 class.0)

    here : (one : Cost) → one ≡ one_of kind → IsDistance kind (graph_of (valued value m)) EpsilonArc q q one
    here one is = inr (
      record { path = []; leads = refl; class = tt; weight = is },
      λ v r. ap₂ plus is (stays q v r).1 ∙ (plus_same (one_of kind) ∙ sym is),
    )

    pub silent_alone : (one : Cost) → one ≡ one_of kind → q < length m.states → IsClosure kind (graph_of (valued value m)) q (length m.states * 1000000000000000000) (record { state = q; distance = one } ∷ [])
    silent_alone one is low = record {
      apart = (λ has. has, tt);
      distances = λ r has. by r has (IsDistance kind (graph_of (valued value m)) EpsilonArc q r.state r.distance) (λ e. subst (λ (s : Reached Cost). IsDistance kind (graph_of (valued value m)) EpsilonArc q s.state s.distance) e (here one is));
      finite = λ r has zero_here. by r has ⊥ (λ e. one_not_zero kind (sym is ∙ (ap (λ (s : Reached Cost). s.distance) e ∙ zero_here)));
      numbers = λ r has. by r has (Within (length m.states * 1000000000000000000) r.distance) (λ e. subst (λ (s : Reached Cost). Within (length m.states * 1000000000000000000) s.distance) e (subst (Within (length m.states * 1000000000000000000)) (sym is) (Within-one (length m.states * 1000000000000000000) kind)));
      kinds = λ r has. by r has (IsCost kind r.distance) (λ e. subst (λ (s : Reached Cost). IsCost kind s.distance) e (subst (IsCost kind) (sym is) (IsCost-one kind)));
      all = λ p c reaches. inl (stays p c reaches).0;
    }
      where
        by : (r : Reached Cost) → Has (record { state = q; distance = one } ∷ []) r → (P : Type 0) → (record { state = q; distance = one } ≡ r → P) → P
        by r (inl e) P f = f e
        by r (inr none) P f = absurd none

  -- One at the state from which the search began
  pub only_there : (q : ℕ) (one : Cost) (nodes after : List (Node Cost)) → one ≡ one_of kind → IsBlank (length m.states) nodes → Sets q one nodes after → IsOnly kind (distance_at after) q
  only_there q one nodes after is blank sets = record { here = sets.here ∙ is; others = λ p other. sets.others p other ∙ ap (λ n. n.distance) (blank.1 p) }

  module _ (source : ℕ → Cost) (q : ℕ) (only : IsOnly kind source q) where
    pub silent_cycle : (steps : List Step) → IsFound kind (IsHop value [] (epsilon_links m.states)) source FromStart steps → IsSilentCycle kind (graph_of (valued value m)) q steps
    silent_cycle steps f =
        let p = forward_path kind (graph_of (valued value m)) (IsHop value [] (epsilon_links m.states)) EpsilonArc goes_silent (f.first ∷ f.rest) f.state f.state f.leads in
        record {
          state = f.state;
          cycle = p.path;
          cost = f.distance;
          counts = arrives_reaches kind (graph_of (valued value m)) (IsHop value [] (epsilon_links m.states)) EpsilonArc goes_silent source q only f.state f.distance f.arrives;
          class = p.class;
          improves = record { leads = p.leads; better = subst (λ z. cost_cmp z (one_of kind) ≡ Less) (sym p.product_same) f.better };
          same = ap (λ (ss : List Step). map (λ s. (s.state, s.place)) ss) f.same ∙ p.steps;
        }

    pub silent_closure : (bound : ℕ) (nodes after : List (Node Cost)) (met : List ℕ) (list : List (Reached Cost)) → Ended kind (IsHop value [] (epsilon_links m.states)) source (length m.states) bound nodes met → Unmeeting nodes after met [] list
        → IsClosure kind (graph_of (valued value m)) q (length m.states * bound) list
    silent_closure bound nodes after met list e u = record {
      apart = u.apart;
      distances = λ r has. subst (IsDistance kind (graph_of (valued value m)) EpsilonArc q r.state) (sym (u.each r has).1) (distance r.state);
      finite = λ r has zero_here. e.met_only r.state (u.each r has).0 (sym (u.each r has).1 ∙ zero_here);
      numbers = λ r has. subst (Within (length m.states * bound)) (sym (u.each r has).1) (e.numbers r.state);
      kinds = λ r has. subst (IsCost kind) (sym (u.each r has).1) (e.kinds r.state);
      all = λ p c reaches. listed p (u.every p (met_there p c reaches (distance p)));
    }
      where
        distance : (p : ℕ) → IsDistance kind (graph_of (valued value m)) EpsilonArc q p (distance_at nodes p)
        distance p = class_distance kind (graph_of (valued value m)) (IsHop value [] (epsilon_links m.states)) EpsilonArc goes_silent source q only silent_goes p (distance_at nodes p) (e.least p)

        met_there : (p : ℕ) (c : Cost) → Reaches kind (graph_of (valued value m)) EpsilonArc q p c → IsDistance kind (graph_of (valued value m)) EpsilonArc q p (distance_at nodes p) → Has met p
        met_there p c reaches (inl none) = absurd (none.0 c reaches)
        met_there p c reaches (inr some) = by_mark (find_number met p)
          where
            net : IsNet (IsHop value [] (epsilon_links m.states)) (length m.states)
            net = along_net value m [] good has_both_epsilons

            finite_least : IsLeast (Arrives kind (IsHop value [] (epsilon_links m.states)) source p) (distance_at nodes p) → distance_at nodes p ≡ infinite → ⊥
            finite_least (inl none) zero_here =
                let b = forward_back kind (graph_of (valued value m)) (IsHop value [] (epsilon_links m.states)) EpsilonArc silent_goes reaches.path q p reaches.leads reaches.class in
                none.0 _ (record { back = b.0; first = q; leads = b.1; begins = λ z. one_not_zero kind (sym only.here ∙ z); weight = refl })
            finite_least (inr h) zero_here = arrives_finite kind (IsHop value [] (epsilon_links m.states)) source (length m.states) net p (distance_at nodes p) h.0 zero_here

            by_mark : Has met p ⊎ (Has met p → ⊥) → Has met p
            by_mark (inl has) = has
            by_mark (inr none) = absurd (finite_least (e.least p) (ap (λ n. n.distance) (e.blank p none)))

        listed : (p : ℕ) → Has [] p ⊎ Has (states_of list) p → Has (states_of list) p
        listed p (inl none) = absurd none
        listed p (inr h) = h

    pub silent_blank : (bound : ℕ) (nodes after : List (Node Cost)) (met : List ℕ) (list : List (Reached Cost)) → Ended kind (IsHop value [] (epsilon_links m.states)) source (length m.states) bound nodes met → Unmeeting nodes after met [] list → IsBlank (length m.states) after
    silent_blank bound nodes after met list e u = (u.size ∙ e.size, λ p. at p (find_number (states_of list) p))
      where
        at : (p : ℕ) → Has (states_of list) p ⊎ (Has (states_of list) p → ⊥) → get_or after p blank_node ≡ blank_node
        at p (inl h) = u.blanked p h
        at p (inr none) = u.kept p none ∙ e.blank p (λ has. not_listed (u.every p has))
          where
            not_listed : Has [] p ⊎ Has (states_of list) p → ⊥
            not_listed (inl h) = h
            not_listed (inr h) = none h

  -- what a search that has ended gives
  module _ (q : ℕ) (nodes : List (Node Cost)) (members met : List ℕ) (answer : Option (List Step)) (s : Searched kind value m.states q nodes members met answer) where
    as_solved : (r : Option (List Step)) → answer ≡ r → Solves kind (IsHop value [] (epsilon_links m.states)) s.source FromStart (length m.states) 1000000000000000000 nodes members met r
    as_solved r is = subst (λ (r : Option (List Step)). Solves kind (IsHop value [] (epsilon_links m.states)) s.source FromStart (length m.states) 1000000000000000000 nodes members met r) is s.solves

    pub searched_cycle : (steps : List Step) → answer ≡ Some steps → IsSilentCycle kind (graph_of (valued value m)) q steps
    searched_cycle steps is = silent_cycle s.source q s.only steps (as_solved (Some steps) is)

    pub searched_ended : answer ≡ None → (members ≡ []) × Ended kind (IsHop value [] (epsilon_links m.states)) s.source (length m.states) 1000000000000000000 nodes met
    searched_ended is = as_solved None is

    pub searched_closure : answer ≡ None → (after : List (Node Cost)) (list : List (Reached Cost)) → Unmeeting nodes after met [] list → IsClosure kind (graph_of (valued value m)) q (length m.states * 1000000000000000000) list
    searched_closure is after list u = silent_closure s.source q s.only 1000000000000000000 nodes after met list (searched_ended is).1 u

    pub searched_blank : answer ≡ None → (after : List (Node Cost)) (list : List (Reached Cost)) → Unmeeting nodes after met [] list → IsBlank (length m.states) after
    searched_blank is after list u = silent_blank s.source q s.only 1000000000000000000 nodes after met list (searched_ended is).1 u
