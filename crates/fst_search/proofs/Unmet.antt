-- One state more that was met is listed, and blank again.
use Rattle.std.proofs.Common.{◌≡◌, ◌⊎◌, inl, inr, ℕ, ◌<◌, List, [], ◌∷◌, ◌++◌, length, set, get_or, sym, refl, ap, ◌∙◌, subst}
use Rattle.std.proofs.lemmas.Bool.{cases_eq}
use Rattle.std.proofs.lemmas.List.{length-set, map-append}
use Rattle.fst_semiring.specs.Cost.{Cost}
use Rattle.fst_machine.specs.BreadthFirst.{Apart, Has}
use Rattle.fst_machine.proofs.Elements.{Apart-push, Has-append_cases, Has-append_left, Has-append_right}
use Rattle.fst_queue.specs.Leaving.{Apart-pop}
use Rattle.fst_search.specs.Closure.{Reached, Unmeeting, states_of}
use Rattle.fst_search.specs.Searching.{Node, blank_node, distance_at}
use Rattle.fst_search.proofs.Nodes.{one_more, written_here, written_other}

pub unmeeting_begins : (nodes : List (Node Cost)) (met : List ℕ) → Apart met → Unmeeting nodes nodes met met []
unmeeting_begins nodes met apart = record {
  size = refl;
  apart_met = apart;
  apart = tt;
  parted = λ p has none. none;
  old = λ p has. has;
  each = λ r none. absurd none;
  every = λ p has. inl has;
  kept = λ q none. refl;
  blanked = λ q none. absurd none;
}

pub unmeeting_on : (before nodes after : List (Node Cost)) (all met rest : List ℕ) (list : List (Reached Cost)) (r : Reached Cost) → Unmeeting before nodes all met list → met ≡ rest ++ r.state ∷ [] → r.state < length nodes → r.distance ≡ distance_at nodes r.state
    → after ≡ set nodes r.state blank_node → Unmeeting before after all rest (list ++ r ∷ [])
unmeeting_on before nodes after all met rest list r u is low distance wrote = record {
  size = ap length wrote ∙ (length-set nodes r.state blank_node ∙ u.size);
  apart_met = popped.0;
  apart = subst (λ (xs : List ℕ). Apart xs) (sym states) (Apart-push (states_of list) r.state u.apart (λ has. u.parted r.state here has));
  parted = λ p has listed. parted p has (one_more (states_of list) r.state p (subst (λ (xs : List ℕ). Has xs p) states listed));
  old = λ p has. u.old p (subst (λ (xs : List ℕ). Has xs p) (sym is) (Has-append_left rest (r.state ∷ []) p has));
  each = λ s has. each s (Has-append_cases list (r ∷ []) s has);
  every = λ p has. every p (u.every p has);
  kept = λ q none. ap (λ (ns : List (Node Cost)). get_or ns q blank_node) wrote ∙ (written_other nodes r.state q blank_node (λ e. none (listed q (inr e))) ∙ u.kept q (λ has. none (listed q (inl has))));
  blanked = λ q has. blanked q (cases_eq q r.state) (one_more (states_of list) r.state q (subst (λ (xs : List ℕ). Has xs q) states has));
}
  where
    states : states_of (list ++ r ∷ []) ≡ states_of list ++ r.state ∷ []
    states = map-append (λ (s : Reached Cost). s.state) list (r ∷ [])

    popped : Apart rest × (Has rest r.state → ⊥)
    popped = Apart-pop rest r.state (subst (λ (xs : List ℕ). Apart xs) is u.apart_met)

    here : Has met r.state
    here = subst (λ (xs : List ℕ). Has xs r.state) (sym is) (Has-append_right rest (r.state ∷ []) r.state (inl refl))

    listed : (q : ℕ) → Has (states_of list) q ⊎ (q ≡ r.state) → Has (states_of (list ++ r ∷ [])) q
    listed q (inl h) = subst (λ (xs : List ℕ). Has xs q) (sym states) (Has-append_left (states_of list) (r.state ∷ []) q h)
    listed q (inr e) = subst (λ (xs : List ℕ). Has xs q) (sym states) (Has-append_right (states_of list) (r.state ∷ []) q (inl (sym e)))

    parted : (p : ℕ) → Has rest p → Has (states_of list) p ⊎ (p ≡ r.state) → ⊥
    parted p has (inl h) = u.parted p (subst (λ (xs : List ℕ). Has xs p) (sym is) (Has-append_left rest (r.state ∷ []) p has)) h
    parted p has (inr e) = popped.1 (subst (λ (z : ℕ). Has rest z) e has)

    each : (s : Reached Cost) → Has list s ⊎ Has (r ∷ []) s → Has all s.state × (s.distance ≡ distance_at before s.state)
    each s (inl h) = u.each s h
    each s (inr (inl e)) = subst (λ (z : Reached Cost). Has all z.state × (z.distance ≡ distance_at before z.state)) e (u.old r.state here, distance ∙ ap (λ n. n.distance) (u.kept r.state (λ has. u.parted r.state here has)))
    each s (inr (inr none)) = absurd none

    every : (p : ℕ) → Has met p ⊎ Has (states_of list) p → Has rest p ⊎ Has (states_of (list ++ r ∷ [])) p
    every p (inl has) = by_part (one_more rest r.state p (subst (λ (xs : List ℕ). Has xs p) is has))
      where
        by_part : Has rest p ⊎ (p ≡ r.state) → Has rest p ⊎ Has (states_of (list ++ r ∷ [])) p
        by_part (inl h) = inl h
        by_part (inr e) = inr (listed p (inr e))
    every p (inr h) = inr (listed p (inl h))

    blanked : (q : ℕ) → (q ≡ r.state) ⊎ (q ≡ r.state → ⊥) → Has (states_of list) q ⊎ (q ≡ r.state) → get_or after q blank_node ≡ blank_node
    blanked q (inl e) c = ap (λ (ns : List (Node Cost)). get_or ns q blank_node) wrote ∙ written_here nodes r.state q blank_node low e
    blanked q (inr other) (inl h) = ap (λ (ns : List (Node Cost)). get_or ns q blank_node) wrote ∙ (written_other nodes r.state q blank_node other ∙ u.blanked q h)
    blanked q (inr other) (inr e) = absurd (other e)
