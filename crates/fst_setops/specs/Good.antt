-- What a walk asks of a difference: that its names can be compared, that the start reaches states of both machines alone, and
-- that its arcs are arcs of a machine. (The laws of an impl cite specs alone, so the lemmas stand here.)
use Rattle.std.proofs.Common.{◌≡◌, ◌<◌, ℕ, zero, suc, Bool, true, false, cond, List, [], ◌∷◌, Option, None, Some, IfSome, ◌&&◌, eqb, nat_eq, length, slice_get, refl, ap, subst}
use Rattle.std.specs.Bool.{Decides}
use Rattle.std.specs.Option.{option_eq, option_map}
use Rattle.std.proofs.lemmas.List.{length-map}
use Rattle.std.proofs.lemmas.Bool.{and_parts, eq-eqb, eqb-true}
use Rattle.std.proofs.lemmas.Option.{same_Some}
use Rattle.fst_semiring.specs.Cost.{Cost}
use Rattle.fst_machine.specs.Graph.{graph_of}
use Rattle.fst_machine.specs.Machine.{Arc, IsArc, IsMachine, Machine, valued, valued_state}
use Rattle.fst_machine.specs.Paths.{IsPath, Transition}
use Rattle.fst_machine.proofs.Arcs.{mapped_at}
use Rattle.fst_machine.proofs.Valued.{IsMachine-valued}
use Rattle.fst_trim.proofs.Weighed.{machine_arc}
use Rattle.fst_walk.specs.Names.{IsGoodArc, IsNear}
use Rattle.fst_setops.specs.Difference.{Rest, followed, next_by, rest_arc, subtraction}
use Rattle.fst_setops.specs.SameStates.{own_state, tells_state}

-- the states of a name are states of these machines
abbrev pub IsInside : {V : Type 0} → Machine V → Machine V → Rest ℕ ℕ → Type 0
IsInside a b n = (n.first < length a.states) × IfSome n.second (λ q. q < length b.states)

-- where a label leads among arcs that lead inside
next_inside : (most label : ℕ) (arcs : List (Arc Cost ℕ)) → ((k : ℕ) (x : Arc Cost ℕ) → slice_get arcs k ≡ Some x → x.next < most) → IfSome (next_by label arcs) (λ q. q < most)
next_inside most label [] inside = tt
next_inside most label (x ∷ arcs) inside = by_test (nat_eq x.ilabel label) (next_inside most label arcs (λ k. inside (suc k)))
  where
    by_test : (t : Bool) → IfSome (next_by label arcs) (λ q. q < most) → IfSome (cond t (Some x.next) (next_by label arcs)) (λ q. q < most)
    by_test true more = inside 0 x refl
    by_test false more = more

module _ {V : Type 0} (value : V → Cost) (a b : Machine V) (left : IsMachine value a) (right : IsMachine value b) where
  -- an arc of the first machine
  first_arc : (p k : ℕ) (x : Arc Cost ℕ) → slice_get ((graph_of (valued value a)).arcs p) k ≡ Some x → IsArc (λ (v : Cost). v) (length (valued value a).states) x
  first_arc = machine_arc (valued value a) (IsMachine-valued value a left)

  second_arc : (p k : ℕ) (x : Arc Cost ℕ) → slice_get ((graph_of (valued value b)).arcs p) k ≡ Some x → IsArc (λ (v : Cost). v) (length (valued value b).states) x
  second_arc = machine_arc (valued value b) (IsMachine-valued value b right)

  -- the second part stays inside
  followed_inside : (label : ℕ) (s : Option ℕ) → IfSome s (λ q. q < length b.states) → IfSome (followed (graph_of (valued value b)) label s) (λ q. q < length b.states)
  followed_inside zero s inside = inside
  followed_inside (suc l) None inside = tt
  followed_inside (suc l) (Some q) inside =
      next_inside (length b.states) (suc l) ((graph_of (valued value b)).arcs q)
      (λ k x at. subst (λ (n : ℕ). x.next < n) (length-map b.states (valued_state value)) (second_arc q k x at).next)

  -- an arc of a name comes from one of its first state
  from_first : (n : Rest ℕ ℕ) (k : ℕ) (arc : Arc Cost (Rest ℕ ℕ)) → slice_get ((subtraction value a b).arcs n) k ≡ Some arc
      → (x : Arc Cost ℕ) × (slice_get ((graph_of (valued value a)).arcs n.first) k ≡ Some x) × (rest_arc (graph_of (valued value b)) n.second x ≡ arc)
  from_first n k arc e = mapped_at (rest_arc (graph_of (valued value b)) n.second) ((graph_of (valued value a)).arcs n.first) k arc e

  -- so it leads inside
  arc_inside : (n : Rest ℕ ℕ) → IsInside a b n → (k : ℕ) (arc : Arc Cost (Rest ℕ ℕ)) → slice_get ((subtraction value a b).arcs n) k ≡ Some arc → IsInside a b arc.next
  arc_inside n inside k arc e =
      let x = from_first n k arc e in
      let low = subst (λ (m : ℕ). x.0.next < m) (length-map a.states (valued_state value)) (first_arc n.first k x.0 x.1).next in
      subst (λ (c : Arc Cost (Rest ℕ ℕ)). IsInside a b c.next) x.2 (low, followed_inside x.0.ilabel n.second inside.1)

  -- and so do paths
  path_inside : (path : List (Transition (Rest ℕ ℕ))) (p q : Rest ℕ ℕ) → IsInside a b p → IsPath (subtraction value a b) p path q → IsInside a b q
  path_inside [] p q inside here = subst (IsInside a b) here inside
  path_inside (t ∷ path) p q inside leads = path_inside path t.arc.next q (arc_inside p inside t.place t.arc leads.0.1) leads.1

  start_inside : (s : Option ℕ) (n : Rest ℕ ℕ) → IfSome s (λ p. p < length a.states) → option_map (λ (p : ℕ). record { first = p; second = b.start }) s ≡ Some n → IsInside a b n
  start_inside None n low e = absurd (cc)
  start_inside (Some p) n low e = subst (IsInside a b) (same_Some (record { first = p; second = b.start }) n e) (low, right.start)

  -- names that the start reaches stand inside
  pub near_inside : (n : Rest ℕ ℕ) → IsNear (subtraction value a b) n → IsInside a b n
  near_inside n near = path_inside near.path near.start n (start_inside a.start near.start left.start near.starts) near.leads

  -- and their arcs are good
  pub good_rest : (n : Rest ℕ ℕ) → IsNear (subtraction value a b) n → (k : ℕ) (arc : Arc Cost (Rest ℕ ℕ)) → slice_get ((subtraction value a b).arcs n) k ≡ Some arc → IsGoodArc arc
  good_rest n near k arc e =
      let x = from_first n k arc e in
      let h = first_arc n.first k x.0 x.1 in
      subst (λ (c : Arc Cost (Rest ℕ ℕ)). IsGoodArc c) x.2 (record { ilabel = h.ilabel; olabel = h.olabel; weight = h.weight })

-- what `==` answers of names
abbrev pub same_name : Rest ℕ ℕ → Rest ℕ ℕ → Bool
same_name a b = eqb a.first b.first && option_eq eqb a.second b.second

-- names that compare as equal are one
pub same_decides : (a b : Rest ℕ ℕ) → Decides (same_name a b) (a ≡ b)
same_decides a b = (tells, λ e. subst (λ (n : Rest ℕ ℕ). same_name a n ≡ true) e own)
  where
    tells : same_name a b ≡ true → a ≡ b
    tells e =
        let both = and_parts _ _ e in
        λ i. record { first = eqb-true a.first b.first both.0 i; second = tells_state a.second b.second both.1 i }

    own : same_name a a ≡ true
    own = rw (eq-eqb a.first a.first refl, own_state a.second) refl
