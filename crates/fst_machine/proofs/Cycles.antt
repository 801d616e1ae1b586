-- Cycles in paths: a long path has one, and it can be left out or gone round again.
use Rattle.std.proofs.Common.{◌≡◌, ◌⊎◌, inl, inr, ℕ, ◌<◌, ◌≤◌, List, [], ◌∷◌, ◌++◌, None, Some, length, get_or, slice_get, sym, ap, ap₂, ◌∙◌, subst}
use Rattle.std.specs.declared.cmp.Ordering.TheVariants.{Less}
use Rattle.std.proofs.lemmas.List.{get_or_past}
use Rattle.std.proofs.lemmas.Option.{slice_get_cases}
use Rattle.fst_semiring.specs.Cost.{Cost, cost_cmp, plus}
use Rattle.fst_semiring.specs.declared.arc_type.ArcType.{ArcType}
use Rattle.fst_semiring.specs.Semiring.{one_of, times}
use Rattle.fst_semiring.proofs.Order.{plus_unless}
use Rattle.fst_semiring.proofs.Laws.{one_times, times_keeps, keeps_times}
use Rattle.fst_machine.specs.Machine.{Arc, Machine, State}
use Rattle.fst_machine.specs.Graph.{Graph, graph_of, no_state}
use Rattle.fst_machine.specs.Letters.{product}
use Rattle.fst_machine.specs.Paths.{Transition, IsPath, letters}
use Rattle.fst_machine.specs.Cycles.{HasCycle}
use Rattle.fst_machine.specs.BreadthFirst.{Has}
use Rattle.fst_machine.proofs.Letters.{letters-append, product-append}
use Rattle.fst_machine.proofs.PathParts.{IsPath-append, IsPath-split}
use Rattle.fst_machine.proofs.Repeats.{keys, long_repeats}

-- a number that has an arc is the number of a state
pub state_below : (m : Machine Cost) (p k : ℕ) (a : Arc Cost ℕ) → slice_get ((graph_of m).arcs p) k ≡ Some a → p < length m.states
state_below m p k a has = by_place (slice_get_cases m.states p).1
  where
    by_place : ((x : State Cost) × (p < length m.states) × (slice_get m.states p ≡ Some x) × (get_or m.states p x ≡ x)) ⊎ ((length m.states ≤ p) × (slice_get m.states p ≡ None)) → p < length m.states
    by_place (inl h) = h.1
    by_place (inr h) = absurd (let none : None ≡ Some a = sym (ap (λ (s : State Cost). slice_get s.arcs k) (get_or_past m.states p no_state h.0)) ∙ has in cc)

-- the state that a path begins with
abbrev first_state : List (Transition ℕ) → ℕ
first_state [] = 0
first_state (t ∷ path) = t.state

-- the states of a path are states of the machine
states_below : (m : Machine Cost) (path : List (Transition ℕ)) (p q : ℕ) → IsPath (graph_of m) p path q → (k : ℕ) → Has (keys first_state path) k → k < length m.states
states_below m [] p q leads k h = absurd h
states_below m (t ∷ path) p q leads k (inl e) = subst (λ (j : ℕ). j < length m.states) (sym leads.0.0 ∙ e) (state_below m p t.place t.arc leads.0.1)
states_below m (t ∷ path) p q leads k (inr h) = states_below m path t.arc.next q leads.1 k h

-- a path that begins with a transition begins at its state
pub begins_at : {N : Type 0} (g : Graph N) (p q : N) (t : Transition N) (path : List (Transition N)) → IsPath g p (t ∷ path) q → t.state ≡ p
begins_at g p q t path leads = leads.0.0

-- a path cut into three, where the second and the third part begin at one state, has a cycle
abbrev pub cut_cycle : {N : Type 0} (g : Graph N) (p q : N) (path front between back : List (Transition N)) (first second : Transition N) → path ≡ front ++ ((first ∷ between) ++ (second ∷ back)) → first.state ≡ second.state → IsPath g p path q → HasCycle g p path q
cut_cycle g p q path front between back first second same alike leads =
    let cut = IsPath-split g front ((first ∷ between) ++ (second ∷ back)) p q (subst (λ ts. IsPath g p ts q) same leads) in
    let rest = IsPath-split g (first ∷ between) (second ∷ back) cut.0 q cut.2 in
    let here : rest.0 ≡ cut.0 = sym rest.2.0.0 ∙ (sym alike ∙ rest.1.0.0) in
    record {
      front = front;
      first = first;
      round = between;
      back = second ∷ back;
      turn = cut.0;
      same = same;
      arrives = cut.1;
      turns = subst (λ z. IsPath g cut.0 (first ∷ between) z) here rest.1;
      goes = subst (λ z. IsPath g z (second ∷ back) q) here rest.2;
    }

-- a path with more arcs than there are states has a cycle
pub long_path : (m : Machine Cost) (p q : ℕ) (path : List (Transition ℕ)) → IsPath (graph_of m) p path q → length m.states < length path → HasCycle (graph_of m) p path q
long_path m p q path leads long =
    let r = long_repeats first_state (length m.states) path (states_below m path p q leads) long in
    cut_cycle (graph_of m) p q path r.front r.between r.back r.first r.second r.same r.alike leads

module _ {N : Type 0} (g : Graph N) (p q : N) (path : List (Transition N)) (c : HasCycle g p path q) where
  -- the path without the cycle
  pub cycle_left_out : IsPath g p (c.front ++ c.back) q
  cycle_left_out = IsPath-append g c.front c.back p c.turn q c.arrives c.goes

  -- the path once more round the cycle
  pub cycle_repeated : IsPath g p (c.front ++ ((c.first ∷ c.round) ++ ((c.first ∷ c.round) ++ c.back))) q
  cycle_repeated = IsPath-append g c.front _ p c.turn q c.arrives (IsPath-append g (c.first ∷ c.round) _ c.turn c.turn q c.turns (IsPath-append g (c.first ∷ c.round) c.back c.turn c.turn q c.turns c.goes))

  -- without a cycle that is not better than One the product is no worse
  pub left_out_no_worse : (kind : ArcType) → (cost_cmp (product kind (letters (c.first ∷ c.round))) (one_of kind) ≡ Less → ⊥) → plus (product kind (letters (c.front ++ c.back))) (product kind (letters path)) ≡ product kind (letters (c.front ++ c.back))
  left_out_no_worse kind fair =
      let front = product kind (letters c.front) in
      let cycle = product kind (letters (c.first ∷ c.round)) in
      let back = product kind (letters c.back) in
      let short : product kind (letters (c.front ++ c.back)) ≡ times kind front (times kind (one_of kind) back) = ap (product kind) (letters-append c.front c.back) ∙ (product-append kind (letters c.front) (letters c.back) ∙ ap (times kind front) (sym (one_times kind back))) in
      let inner : product kind (letters ((c.first ∷ c.round) ++ c.back)) ≡ times kind cycle back = ap (product kind) (letters-append (c.first ∷ c.round) c.back) ∙ product-append kind (letters (c.first ∷ c.round)) (letters c.back) in
      let long : product kind (letters path) ≡ times kind front (times kind cycle back) = ap (λ ts. product kind (letters ts)) c.same ∙ (ap (product kind) (letters-append c.front ((c.first ∷ c.round) ++ c.back)) ∙ (product-append kind (letters c.front) (letters ((c.first ∷ c.round) ++ c.back)) ∙ ap (times kind front) inner)) in
      let kept : plus (times kind front (times kind (one_of kind) back)) (times kind front (times kind cycle back)) ≡ times kind front (times kind (one_of kind) back) = times_keeps kind front _ _ (keeps_times kind back (one_of kind) cycle (plus_unless (one_of kind) cycle fair)) in
      ap₂ plus short long ∙ (kept ∙ sym short)
