-- A machine all of whose states are useful is the connected machine.
use Rattle.std.proofs.Common.{◌≡◌, ◌⊎◌, inl, inr, ℕ, zero, suc, ◌+◌, ◌<◌, ◌≤◌, Bool, true, false, List, [], ◌∷◌, Option, None, Some, length, map, get_or, slice_get, refl, sym, ap, ◌∙◌, subst, arith}
use Rattle.std.specs.Bool.{Decides}
use Rattle.std.specs.List.{All, AllByRecursion}
use Rattle.std.specs.Option.{IfSome}
use Rattle.std.proofs.lemmas.List.{length-map}
use Rattle.std.proofs.lemmas.List.Elements.{recursion_from_All}
use Rattle.std.proofs.lemmas.Option.{slice_get_within, slice_get_cases}
use Rattle.fst_semiring.specs.Cost.{Cost}
use Rattle.fst_machine.specs.Machine.{Arc, State, Machine, IsArc, IsMachine, valued, valued_arc, valued_state}
use Rattle.fst_machine.specs.Graph.{graph_of}
use Rattle.fst_machine.specs.Cycles.{IsUseful}
use Rattle.fst_machine.specs.Connected.{Kept}
use Rattle.fst_trim.specs.KeptPaths.{IsConnectedOn}
use Rattle.fst_machine.specs.Renumbered.{marked}
use Rattle.fst_trim.proofs.Looking.{look}
use Rattle.fst_trim.proofs.Marking.{marked_is, marked-ascends}

-- the places of marks of which none is missing
all_places : (at : ℕ) (marks : List Bool) → AllByRecursion (λ mark. mark ≡ true) marks → length (marked at marks) ≡ length marks
all_places at [] all = refl
all_places at (true ∷ marks) all = ap suc (all_places (at + 1) marks all.1)
all_places at (false ∷ marks) all = absurd (let wrong : false ≡ true = all.0 in cc)

place_here : (at : ℕ) (marks : List Bool) (i : ℕ) → AllByRecursion (λ mark. mark ≡ true) marks → i < length marks → slice_get (marked at marks) i ≡ Some (at + i)
place_here at [] i all low = absurd (omega arith)
place_here at (false ∷ marks) i all low = absurd (let wrong : false ≡ true = all.0 in cc)
place_here at (true ∷ marks) zero all low = let here : at ≡ at + 0 = omega arith in ap Some here
place_here at (true ∷ marks) (suc i) all low = let place : at + 1 + i ≡ at + suc i = omega arith in place_here (at + 1) marks i all.1 (omega arith) ∙ ap Some place

module _ {V : Type 0} (value : V → Cost) (m : Machine V) (marks : List Bool) (h : IsMachine value m) (size : length marks ≡ length m.states) (useful : (p : ℕ) → Decides (get_or marks p false) (IsUseful (graph_of (valued value m)) p)) (every : All (λ mark. mark ≡ true) marks) where
  all : AllByRecursion (λ mark. mark ≡ true) marks
  all = recursion_from_All (λ mark. mark ≡ true) marks every

  here : (i : ℕ) → i < length m.states → slice_get (marked 0 marks) i ≡ Some i
  here i low = let same : 0 + i ≡ i = omega arith in place_here 0 marks i all (omega (arith, size)) ∙ ap Some same

  same_place : (i p : ℕ) → slice_get (marked 0 marks) i ≡ Some p → i ≡ p
  same_place i p there =
      let low : i < length m.states = omega (arith, slice_get_within (marked 0 marks) i p there, all_places 0 marks all, size) in
      let both : Some i ≡ Some p = sym (here i low) ∙ there in
      cc

  all_kept : (arcs : List (Arc V ℕ)) → AllByRecursion (IsArc value (length m.states)) arcs → Kept (marked 0 marks) (map (valued_arc value) arcs) (map (valued_arc value) arcs)
  all_kept [] good = tt
  all_kept (a ∷ arcs) good = inr (here a.next good.0.next, refl, all_kept arcs good.1)

  -- the arcs of each state are kept
  row : (p : ℕ) → p < length m.states → Kept (marked 0 marks) ((graph_of (valued value m)).arcs p) ((graph_of (valued value m)).arcs p)
  row p low = by_state (slice_get_cases m.states p).1
    where
      by_state : ((x : State V) × (p < length m.states) × (slice_get m.states p ≡ Some x) × (get_or m.states p x ≡ x)) ⊎ ((length m.states ≤ p) × (slice_get m.states p ≡ None)) → Kept (marked 0 marks) ((graph_of (valued value m)).arcs p) ((graph_of (valued value m)).arcs p)
      by_state (inl s) =
          let good : All (IsArc value (length m.states)) s.0.arcs = subst (λ (t : State V). All (IsArc value (length m.states)) t.arcs) s.3 (h.arcs p s.0 low) in
          subst (λ (zs : List (Arc Cost ℕ)). Kept (marked 0 marks) zs zs) (sym (look value m p s.0 s.2).0) (all_kept s.0.arcs (recursion_from_All (IsArc value (length m.states)) s.0.arcs good))
      by_state (inr past) = absurd (omega (arith, past.0, low))

  start_there : (i : ℕ) → m.start ≡ Some i → (p : ℕ) × (m.start ≡ Some p) × (slice_get (marked 0 marks) i ≡ Some p)
  start_there i e = (i, e, here i (subst (λ (o : Option ℕ). IfSome o (λ s. s < length m.states)) e h.start))

  pub whole_connected : IsConnectedOn (valued value m) (valued value m) (marked 0 marks)
  whole_connected = (
    record {
      kept = marked 0 marks;
      ascending = λ i j p q low one two. marked-ascends 0 marks i j p q low one two;
      useful = λ p. ((λ has. (useful p).0 ((marked_is marks p).0 has)), (λ u. (marked_is marks p).1 ((useful p).1 u)));
      states = length-map m.states (valued_state value) ∙ (sym size ∙ sym (all_places 0 marks all));
      start = λ i. ((λ e. start_there i e), (λ s. s.1 ∙ ap Some (sym (same_place i s.0 s.2))));
      final = λ i p there. ap (graph_of (valued value m)).final (same_place i p there);
      arcs = λ i p there.
          let same = same_place i p there in
          let low : p < length m.states = omega (arith, slice_get_within (marked 0 marks) i p there, all_places 0 marks all, size, same) in
          subst (λ (j : ℕ). Kept (marked 0 marks) ((graph_of (valued value m)).arcs p) ((graph_of (valued value m)).arcs j)) (sym same) (row p low);
    },
    refl,
  )
