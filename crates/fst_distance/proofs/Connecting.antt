-- What the connected machine has from the machine: all its states are useful, distances to the final states are the
-- same, and arcs are of the arc type.
use Rattle.std.proofs.Common.{◌≡◌, ◌⊎◌, inl, inr, ℕ, ◌<◌, ◌≤◌, List, [], ◌∷◌, ◌++◌, Option, None, Some, length, get_or, slice_get, sym, refl, ap, ap₂, ◌∙◌, subst, arith}
use Rattle.std.specs.Prelude.{IfSome}
use Rattle.std.proofs.lemmas.Bool.{cases_lt}
use Rattle.std.proofs.lemmas.List.{get_or_past}
use Rattle.std.proofs.lemmas.Option.{slice_get-get_or, slice_get_within}
use Rattle.fst_semiring.specs.Cost.{Cost, infinite}
use Rattle.fst_semiring.specs.declared.arc_type.ArcType.{ArcType}
use Rattle.fst_semiring.specs.Semiring.{times}
use Rattle.fst_machine.specs.Machine.{Arc, State, Machine}
use Rattle.fst_machine.specs.Graph.{Graph, graph_of, no_state}
use Rattle.fst_machine.specs.Letters.{Letter, letter_of, product}
use Rattle.fst_machine.specs.Paths.{Transition, IsPath}
use Rattle.fst_machine.specs.Cycles.{IsAccessible, IsCoaccessible, IsUseful}
use Rattle.fst_machine.specs.Distance.{Finishes, IsFinalDistance}
use Rattle.fst_machine.specs.Serving.{Serves}
use Rattle.fst_machine.specs.Connected.{IsConnected, IsKeptAt, IsTrim}
use Rattle.fst_machine.proofs.Serving.{served_path}
use Rattle.fst_machine.proofs.Connected.{Kept_from, connected_serves, machine_serves, one_place}
use Rattle.fst_machine.proofs.PathParts.{IsPath-append}
use Rattle.fst_machine.proofs.Cycles.{state_below}
use Rattle.fst_machine.proofs.Elements.{at_Has}
use Rattle.fst_machine.proofs.Least.{least_same}

-- a path to a name from which one goes on to a final name has one beside it, between tied names
pub served_to : {N M : Type 0} (R : N → M → Type 0) (g : Graph N) (h : Graph M) → Serves R g h → (p q : N) (m : M) (path : List (Transition N)) → IsCoaccessible g q → R p m → IsPath g p path q → (other : List (Transition M)) × (end : M) × IsPath h m other end × R q end
served_to R g h s p q m [] goes tied here = ([], m, refl, subst (λ z. R z m) here tied)
served_to {N} {M} R g h s p q m (t ∷ path) goes tied leads =
    let on : IsCoaccessible g t.arc.next = reaches path t.arc.next leads.1 in
    let b = s.arcs p m t.place t.arc tied leads.0.1 on in
    let rest = served_to R g h s t.arc.next q b.1.next path goes b.4 leads.1 in
    let u : Transition M = record { state = m; place = b.0; arc = b.1 } in
    (u ∷ rest.0, rest.1, ((refl, b.2), rest.2), rest.3)
  where
    reaches : (path : List (Transition N)) (r : N) → IsPath g r path q → IsCoaccessible g r
    reaches path r leads = record { last = goes.last; path = path ++ goes.path; leads = IsPath-append g path goes.path r q goes.last leads goes.leads; final = goes.final }

-- a tied name finishes as its name does
served_Finishes : {N M : Type 0} (kind : ArcType) (R : N → M → Type 0) (g : Graph N) (h : Graph M) → Serves R g h → (p : N) (m : M) → R p m → (w : Cost) → Finishes kind g p w → Finishes kind h m w
served_Finishes kind R g h s p m tied w f =
    let o = served_path R g h s p f.last m f.path f.final tied f.leads in
    let same : h.final o.1 ≡ g.final f.last = s.final f.last o.1 o.4 in
    record {
      last = o.1;
      path = o.0;
      leads = o.2;
      final = (λ e. f.final (sym same ∙ e));
      weight = f.weight ∙ ap₂ (λ ls v. times kind (product kind ls) v) (sym o.3) (sym same);
    }

-- names with no arcs and no final weight are those of no states
final_past : (m : Machine Cost) (p : ℕ) → length m.states ≤ p → (graph_of m).final p ≡ infinite
final_past m p past = ap (λ (s : State Cost). s.final) (get_or_past m.states p no_state past)

module _ (m c : Machine Cost) (h : IsConnected m c) where
  -- a kept state has one number
  pub kept_number : (i j p : ℕ) → slice_get h.kept i ≡ Some p → slice_get h.kept j ≡ Some p → i ≡ j
  kept_number i j p one two = by (cases_lt i j) (cases_lt j i)
    where
      by : (i < j) ⊎ (j ≤ i) → (j < i) ⊎ (i ≤ j) → i ≡ j
      by (inl low) other = absurd (let l = h.ascending i j p p low one two in omega arith)
      by (inr high) (inl low) = absurd (let l = h.ascending j i p p low two one in omega arith)
      by (inr high) (inr low) = omega arith

  -- the state that has a number
  pub kept_at : (i : ℕ) → i < length c.states → slice_get h.kept i ≡ Some (get_or h.kept i 0)
  kept_at i low = let same = h.states in slice_get-get_or h.kept i 0 (omega arith)

  pub number_low : (i p : ℕ) → slice_get h.kept i ≡ Some p → i < length c.states
  number_low i p e = let low = slice_get_within h.kept i p e in let same = h.states in omega arith

  pub kept_useful : (i p : ℕ) → slice_get h.kept i ≡ Some p → IsUseful (graph_of m) p
  kept_useful i p e = (h.useful p).0 (at_Has h.kept i p e)

  -- an arc comes from one of the machine
  pub arc_from : (i k : ℕ) (b : Arc Cost ℕ) → slice_get ((graph_of c).arcs i) k ≡ Some b → (p : ℕ) × (slice_get h.kept i ≡ Some p) × (j : ℕ) × (a : Arc Cost ℕ) × (slice_get ((graph_of m).arcs p) j ≡ Some a) × (letter_of a ≡ letter_of b) × (slice_get h.kept b.next ≡ Some a.next)
  arc_from i k b has =
      let there = kept_at i (state_below c i k b has) in
      let p = get_or h.kept i 0 in
      let from = Kept_from h.kept ((graph_of m).arcs p) ((graph_of c).arcs i) k b (h.arcs i p there) has in
      (p, there, from.0, from.1, from.2, from.3, from.4)

  -- its arcs lead to its states, and so does its start
  pub connected_next : (i k : ℕ) (b : Arc Cost ℕ) → slice_get ((graph_of c).arcs i) k ≡ Some b → b.next < length c.states
  connected_next i k b has = let a = arc_from i k b has in number_low b.next a.3.next a.6

  pub connected_start : IfSome c.start (λ s. s < length c.states)
  connected_start = by c.start refl
    where
      by : (o : Option ℕ) → c.start ≡ o → IfSome o (λ s. s < length c.states)
      by None e = tt
      by (Some s) e = let from = (h.start s).0 e in number_low s from.0 from.2

  -- each of its states is useful
  pub connected_trim : IsTrim c
  connected_trim i low = (accessible, coaccessible)
    where
      there : slice_get h.kept i ≡ Some (get_or h.kept i 0)
      there = kept_at i low

      useful : IsUseful (graph_of m) (get_or h.kept i 0)
      useful = kept_useful i (get_or h.kept i 0) there

      accessible : IsAccessible (graph_of c) i
      accessible =
          let a = useful.0 in
          let on : IsCoaccessible (graph_of m) a.first = record {
            last = useful.1.last;
            path = a.path ++ useful.1.path;
            leads = IsPath-append (graph_of m) a.path useful.1.path a.first (get_or h.kept i 0) useful.1.last a.leads useful.1.leads;
            final = useful.1.final;
          } in
          let s = (connected_serves m c h).start a.first a.starts on in
          let o = served_to (λ (p j : ℕ). slice_get h.kept j ≡ Some p) (graph_of m) (graph_of c) (connected_serves m c h) a.first (get_or h.kept i 0) s.0 a.path useful.1 s.2 a.leads in
          let same : o.1 ≡ i = kept_number o.1 i (get_or h.kept i 0) o.3 there in
          record { first = s.0; path = o.0; starts = s.1; leads = subst (λ (q : ℕ). IsPath (graph_of c) s.0 o.0 q) same o.2 }

      coaccessible : IsCoaccessible (graph_of c) i
      coaccessible =
          let f = useful.1 in
          let o = served_path (λ (p j : ℕ). slice_get h.kept j ≡ Some p) (graph_of m) (graph_of c) (connected_serves m c h) (get_or h.kept i 0) f.last i f.path f.final there f.leads in
          let same = (connected_serves m c h).final f.last o.1 o.4 in
          record { last = o.1; path = o.0; leads = o.2; final = (λ e. f.final (sym same ∙ e)) }

  -- distances to the final states are the same
  pub connected_distance : (kind : ArcType) (i p : ℕ) (d : Cost) → slice_get h.kept i ≡ Some p → IsFinalDistance kind (graph_of m) p d → IsFinalDistance kind (graph_of c) i d
  connected_distance kind i p d there = least_same (Finishes kind (graph_of m) p) (Finishes kind (graph_of c) i) d
      (served_Finishes kind (λ (q j : ℕ). slice_get h.kept j ≡ Some q) (graph_of m) (graph_of c) (connected_serves m c h) p i there)
      (served_Finishes kind (λ (j q : ℕ). slice_get h.kept j ≡ Some q) (graph_of c) (graph_of m) (machine_serves m c h) i p there)

  -- what holds of the letters of the machine holds of its letters
  pub connected_letters : (P : Letter → Type 0) → ((p k : ℕ) (a : Arc Cost ℕ) → slice_get ((graph_of m).arcs p) k ≡ Some a → P (letter_of a)) → (i k : ℕ) (b : Arc Cost ℕ) → slice_get ((graph_of c).arcs i) k ≡ Some b → P (letter_of b)
  connected_letters P all i k b has = let a = arc_from i k b has in subst P a.5 (all a.0 a.2 a.3 a.4)

  pub connected_finals : (P : Cost → Type 0) → P infinite → ((p : ℕ) → P ((graph_of m).final p)) → (i : ℕ) → P ((graph_of c).final i)
  connected_finals P zero all i = by (cases_lt i (length c.states))
    where
      by : (i < length c.states) ⊎ (length c.states ≤ i) → P ((graph_of c).final i)
      by (inl low) = subst P (sym (h.final i (get_or h.kept i 0) (kept_at i low))) (all (get_or h.kept i 0))
      by (inr past) = subst P (sym (final_past c i past)) zero

  -- the connected machine's letters are deterministic where the machine's are
  pub connected_once : ((p i j : ℕ) (a b : Arc Cost ℕ) → slice_get ((graph_of m).arcs p) i ≡ Some a → slice_get ((graph_of m).arcs p) j ≡ Some b → a.ilabel ≡ b.ilabel → i ≡ j)
      → (p i j : ℕ) (a b : Arc Cost ℕ) → slice_get ((graph_of c).arcs p) i ≡ Some a → slice_get ((graph_of c).arcs p) j ≡ Some b → a.ilabel ≡ b.ilabel → i ≡ j
  connected_once once q i j a b one two label =
      let there = kept_at q (state_below c q i a one) in
      let p = get_or h.kept q 0 in
      let x = Kept_from h.kept ((graph_of m).arcs p) ((graph_of c).arcs q) i a (h.arcs q p there) one in
      let y = Kept_from h.kept ((graph_of m).arcs p) ((graph_of c).arcs q) j b (h.arcs q p there) two in
      let labels : x.1.ilabel ≡ y.1.ilabel = ap (λ (l : Letter). l.ilabel) x.3 ∙ (label ∙ sym (ap (λ (l : Letter). l.ilabel) y.3)) in
      let place : x.0 ≡ y.0 = once p x.0 y.0 x.1 y.1 x.2 y.2 labels in
      one_place h.kept ((graph_of m).arcs p) x.0 i j x.5 (subst (λ (k : ℕ). IsKeptAt h.kept ((graph_of m).arcs p) k j) (sym place) y.5)

-- a name from which a path goes on to a final one is the number of a state
pub coaccessible_below : (m : Machine Cost) (p : ℕ) → IsCoaccessible (graph_of m) p → p < length m.states
coaccessible_below m p f = by_path f.path f.leads
  where
    by_path : (path : List (Transition ℕ)) → IsPath (graph_of m) p path f.last → p < length m.states
    by_path (t ∷ path) leads = state_below m p t.place t.arc leads.0.1
    by_path [] here = by (cases_lt p (length m.states))
      where
        by : (p < length m.states) ⊎ (length m.states ≤ p) → p < length m.states
        by (inl low) = low
        by (inr past) = absurd (f.final (ap (graph_of m).final (sym here) ∙ final_past m p past))

-- the kept states are states of the machine
pub kept_below : (m c : Machine Cost) (h : IsConnected m c) (i p : ℕ) → slice_get h.kept i ≡ Some p → p < length m.states
kept_below m c h i p e = coaccessible_below m p (kept_useful m c h i p e).1
