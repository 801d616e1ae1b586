-- Which arc of a list the one in a place among those that lead to kept states is.
use Rattle.std.proofs.Common.{◌≡◌, ◌⊎◌, inl, inr, ℕ, ◌+◌, ◌<◌, ◌≤◌, zero, suc, List, [], ◌∷◌, Some, length, map, get_or, drop, slice_get, Option, sym, ap, ◌∙◌, subst, arith}
use Rattle.std.specs.Option.{option_map, IfSome}
use Rattle.std.proofs.lemmas.Bool.{cases_eq}
use Rattle.std.proofs.lemmas.List.{length-map}
use Rattle.std.proofs.lemmas.Option.{slice_get-get_or, slice_get_within}
use Rattle.fst_semiring.specs.Cost.{Cost}
use Rattle.fst_machine.specs.Machine.{Arc, State, Machine, IsMachine, valued, valued_arc, valued_state}
use Rattle.fst_machine.specs.Graph.{graph_of}
use Rattle.fst_machine.specs.BreadthFirst.{Has}
use Rattle.fst_machine.specs.Connected.{IsKeptAt}
use Rattle.fst_machine.proofs.Arcs.{mapped_some}
use Rattle.fst_machine.proofs.Connected.{Kept_from}
use Rattle.fst_machine.proofs.Elements.{at_Has}
use Rattle.fst_trim.specs.KeptPaths.{IsConnectedOn}
use Rattle.fst_trim.proofs.Looking.{arc_from, look, reached_within}

-- The arc is still to come, and where it is among those to come it is in the whole list.
pub record IsSought (kept : List ℕ) (arcs : List (Arc Cost ℕ)) (place at left : ℕ) : Type 0 where
  pub there : (i : ℕ) × IsKeptAt kept (drop at arcs) i left
  pub whole : (i : ℕ) → IsKeptAt kept (drop at arcs) i left → IsKeptAt kept arcs (at + i) place

past_skipped : (kept : List ℕ) (a : Arc Cost ℕ) (rest : List (Arc Cost ℕ)) (i left : ℕ) → (Has kept a.next → ⊥) → IsKeptAt kept (a ∷ rest) i left → (j : ℕ) × IsKeptAt kept rest j left
past_skipped kept a rest zero left none h = absurd (none h.0)
past_skipped kept a rest (suc i) zero none h = (i, h.1)
past_skipped kept a rest (suc i) (suc left) none (inl h) = absurd (none h.0)
past_skipped kept a rest (suc i) (suc left) none (inr h) = (i, h.1)

before_skipped : (kept : List ℕ) (a : Arc Cost ℕ) (rest : List (Arc Cost ℕ)) (i left : ℕ) → (Has kept a.next → ⊥) → IsKeptAt kept rest i left → IsKeptAt kept (a ∷ rest) (suc i) left
before_skipped kept a rest i zero none h = (none, h)
before_skipped kept a rest i (suc left) none h = inr (none, h)

past_kept : (kept : List ℕ) (a : Arc Cost ℕ) (rest : List (Arc Cost ℕ)) (i left : ℕ) → Has kept a.next → IsKeptAt kept (a ∷ rest) i (suc left) → (j : ℕ) × IsKeptAt kept rest j left
past_kept kept a rest zero left stays h = let wrong : suc left ≡ 0 = h.1 in absurd (cc)
past_kept kept a rest (suc i) left stays (inl h) = (i, h.1)
past_kept kept a rest (suc i) left stays (inr h) = absurd (h.0 stays)

module _ (kept : List ℕ) (arcs : List (Arc Cost ℕ)) (place at left : ℕ) (a : Arc Cost ℕ) (here : drop at arcs ≡ a ∷ drop (at + 1) arcs) (s : IsSought kept arcs place at left) where
  now : (i : ℕ) × IsKeptAt kept (a ∷ drop (at + 1) arcs) i left
  now = (s.there.0, subst (λ (zs : List (Arc Cost ℕ)). IsKeptAt kept zs s.there.0 left) here s.there.1)

  whole_of : (i : ℕ) → IsKeptAt kept (a ∷ drop (at + 1) arcs) i left → IsKeptAt kept arcs (at + i) place
  whole_of i h = s.whole i (subst (λ (zs : List (Arc Cost ℕ)). IsKeptAt kept zs i left) (sym here) h)

  -- an arc that is left out
  pub sought_past : (Has kept a.next → ⊥) → IsSought kept arcs place (at + 1) left
  sought_past none = record {
    there = past_skipped kept a (drop (at + 1) arcs) now.0 left none now.1;
    whole = λ i h. let next : at + suc i ≡ at + 1 + i = omega arith in subst (λ (k : ℕ). IsKeptAt kept arcs k place) next (whole_of (suc i) (before_skipped kept a (drop (at + 1) arcs) i left none h));
  }

  -- the arc itself
  pub sought_here : left ≡ 0 → Has kept a.next → IsKeptAt kept arcs at place
  sought_here none stays = let same : at + 0 ≡ at = omega arith in subst (λ (k : ℕ). IsKeptAt kept arcs k place) same (whole_of 0 (stays, none))

  -- a kept arc before it
  pub sought_less : (less : ℕ) → left ≡ suc less → Has kept a.next → IsSought kept arcs place (at + 1) less
  sought_less less more stays = record {
    there = past_kept kept a (drop (at + 1) arcs) now.0 less stays (subst (λ (l : ℕ). IsKeptAt kept (a ∷ drop (at + 1) arcs) now.0 l) more now.1);
    whole = λ i h. let next : at + suc i ≡ at + 1 + i = omega arith in subst (λ (k : ℕ). IsKeptAt kept arcs k place) next (whole_of (suc i) (subst (λ (l : ℕ). IsKeptAt kept (a ∷ drop (at + 1) arcs) (suc i) l) (sym more) (inl (stays, h))));
  }

-- there is none behind the last
pub sought_ends : (kept : List ℕ) (arcs : List (Arc Cost ℕ)) (place at left : ℕ) → drop at arcs ≡ [] → IsSought kept arcs place at left → ⊥
sought_ends kept arcs place at left none s = subst (λ (zs : List (Arc Cost ℕ)). IsKeptAt kept zs s.there.0 left) none s.there.1

-- kept states ascend
pub kept_ascends : (m c : Machine Cost) (kept : List ℕ) → IsConnectedOn m c kept → (i j : ℕ) → i ≤ j → j < length kept → get_or kept i 0 ≤ get_or kept j 0
kept_ascends m c kept on i j order low = by_order (cases_eq i j)
  where
    by_order : (i ≡ j) ⊎ (i ≡ j → ⊥) → get_or kept i 0 ≤ get_or kept j 0
    by_order (inl same) = subst (λ (k : ℕ). get_or kept i 0 ≤ get_or kept k 0) same (omega arith)
    by_order (inr other) =
        let one : slice_get kept i ≡ Some (get_or kept i 0) = slice_get-get_or kept i 0 (omega arith) in
        let two : slice_get kept j ≡ Some (get_or kept j 0) = slice_get-get_or kept j 0 low in
        let h = on.0 in
        let less : get_or kept i 0 < get_or kept j 0 = h.ascending i j (get_or kept i 0) (get_or kept j 0) (omega arith) (ap (λ (ks : List ℕ). slice_get ks i) on.1 ∙ one) (ap (λ (ks : List ℕ). slice_get ks j) on.1 ∙ two) in
        omega arith

-- Where a step of the connected machine comes from.
module _ {V : Type 0} (value : V → Cost) (m c : Machine V) (kept : List ℕ) (i j : ℕ) (b : Arc Cost ℕ) (on : IsConnectedOn (valued value m) (valued value c) kept) (has : slice_get ((graph_of (valued value c)).arcs i) j ≡ Some b) (h : IsMachine value m) where
  pub step_low : i < length kept
  step_low =
      let from = arc_from value c i j b has in
      let low = slice_get_within c.states i from.0 from.2 in
      let count : length (valued value c).states ≡ length c.states = length-map c.states (valued_state value) in
      let size : length on.0.kept ≡ length kept = ap length on.1 in
      omega (arith, on.0.states)

  pub step_state : slice_get kept i ≡ Some (get_or kept i 0)
  step_state = slice_get-get_or kept i 0 step_low

  tied : slice_get on.0.kept i ≡ Some (get_or kept i 0)
  tied = ap (λ (ks : List ℕ). slice_get ks i) on.1 ∙ step_state

  pub step_within : get_or kept i 0 < length m.states
  step_within =
      let useful = (on.0.useful (get_or kept i 0)).0 (at_Has on.0.kept i (get_or kept i 0) tied) in
      let a = useful.0 in
      let first : a.first < length m.states = subst (λ (o : Option ℕ). IfSome o (λ s. s < length m.states)) a.starts h.start in
      reached_within value m h a.path a.first (get_or kept i 0) first a.leads

  pub step_place : (k : ℕ) × IsKeptAt kept ((graph_of (valued value m)).arcs (get_or kept i 0)) k j
  step_place =
      let old = Kept_from on.0.kept ((graph_of (valued value m)).arcs (get_or kept i 0)) ((graph_of (valued value c)).arcs i) j b (on.0.arcs i (get_or kept i 0) tied) has in
      (old.0, subst (λ (ks : List ℕ). IsKeptAt ks ((graph_of (valued value m)).arcs (get_or kept i 0)) old.0 j) on.1 old.5)

-- the arcs of a state as the graph has them
pub arcs_are : {V : Type 0} (value : V → Cost) (m : Machine V) (p : ℕ) (arcs : List (Arc V ℕ)) → option_map (λ s. s.arcs) (slice_get m.states p) ≡ Some arcs → (graph_of (valued value m)).arcs p ≡ map (valued_arc value) arcs
arcs_are {V} value m p arcs read =
    let s = mapped_some (λ (s : State V). s.arcs) (slice_get m.states p) arcs read in
    (look value m p s.0 s.1).0 ∙ ap (map (valued_arc value)) s.2
