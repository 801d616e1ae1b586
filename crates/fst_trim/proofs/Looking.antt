-- What the graph of a machine has at a number.
use Rattle.std.proofs.Common.{◌≡◌, ◌⊎◌, ◌↔◌, inl, inr, ℕ, ◌+◌, ◌<◌, ◌≤◌, zero, suc, List, [], ◌∷◌, None, Some, length, map, get_or, slice_get, refl, sym, ap, ◌∙◌, subst, arith}
use Rattle.std.specs.List.{All}
use Rattle.std.specs.Option.{option_map}
use Rattle.std.proofs.lemmas.Bool.{cases_lt}
use Rattle.std.proofs.lemmas.List.{get_or_past, length-map}
use Rattle.std.proofs.lemmas.Option.{slice_get_within, slice_get-map, slice_get_cases, get_or_from_slice_get}
use Rattle.fst_semiring.specs.Cost.{Cost, infinite}
use Rattle.fst_machine.specs.Machine.{Arc, State, Machine, IsArc, IsMachine, valued, valued_arc, valued_state}
use Rattle.fst_machine.specs.Graph.{graph_of, no_state}
use Rattle.fst_machine.specs.Paths.{Transition, IsPath}
use Rattle.fst_machine.specs.BreadthFirst.{Has}
use Rattle.fst_machine.proofs.Arcs.{mapped_some, mapped_at, at_mapped}
use Rattle.fst_machine.proofs.Elements.{Has-append_left, Has-append_right, Has-append_cases, Has_at, at_Has}
use Rattle.fst_trim.specs.Sources.{pairs_from, pairs_of}

-- an arc among those of a list, as a pair
has_pair : {V : Type 0} (p q r : ℕ) (arcs : List (Arc V ℕ)) → Has {X = ℕ × ℕ} (pairs_of r arcs) (p, q) → (r ≡ p) × (k : ℕ) × (a : Arc V ℕ) × (slice_get arcs k ≡ Some a) × (a.next ≡ q)
has_pair {V} p q r arcs has =
    let at = Has_at {X = ℕ × ℕ} (pairs_of r arcs) (p, q) has in
    let from = mapped_at (λ (a : Arc V ℕ). (r, a.next)) arcs at.0 (p, q) at.1 in
    (ap (λ (z : ℕ × ℕ). z.0) from.2, at.0, from.0, from.1, ap (λ (z : ℕ × ℕ). z.1) from.2)

pub pair_from : {V : Type 0} (p q r : ℕ) (states : List (State V)) → Has {X = ℕ × ℕ} (pairs_from r states) (p, q) → (j : ℕ) × (s : State V) × (k : ℕ) × (a : Arc V ℕ) × (slice_get states j ≡ Some s) × (p ≡ r + j) × (slice_get s.arcs k ≡ Some a) × (a.next ≡ q)
pair_from p q r [] has = absurd has
pair_from {V} p q r (s ∷ states) has = by_part (Has-append_cases {X = ℕ × ℕ} (pairs_of r s.arcs) (pairs_from (r + 1) states) (p, q) has) (λ more. pair_from p q (r + 1) states more)
  where
    by_part : Has {X = ℕ × ℕ} (pairs_of r s.arcs) (p, q) ⊎ Has {X = ℕ × ℕ} (pairs_from (r + 1) states) (p, q) → (Has {X = ℕ × ℕ} (pairs_from (r + 1) states) (p, q) → (j : ℕ) × (t : State V) × (k : ℕ) × (a : Arc V ℕ) × (slice_get states j ≡ Some t) × (p ≡ r + 1 + j) × (slice_get t.arcs k ≡ Some a) × (a.next ≡ q)) → (j : ℕ) × (t : State V) × (k : ℕ) × (a : Arc V ℕ) × (slice_get (s ∷ states) j ≡ Some t) × (p ≡ r + j) × (slice_get t.arcs k ≡ Some a) × (a.next ≡ q)
    by_part (inl here) rest = let h = has_pair p q r s.arcs here in (0, s, h.1, h.2, refl, omega (arith, h.0), h.3, h.4)
    by_part (inr there) rest = let h = rest there in (suc h.0, h.1, h.2, h.3, h.4, omega (arith, h.5), h.6, h.7)

pub pair_there : {V : Type 0} (p q r j k : ℕ) (states : List (State V)) (s : State V) (a : Arc V ℕ) → slice_get states j ≡ Some s → p ≡ r + j → slice_get s.arcs k ≡ Some a → a.next ≡ q → Has {X = ℕ × ℕ} (pairs_from r states) (p, q)
pair_there p q r j k [] s a there e has leads = absurd (cc)
pair_there {V} p q r zero k (t ∷ states) s a there e has leads =
    let same : t ≡ s = cc in
    let here : r ≡ p = omega arith in
    let put : Has {X = ℕ × ℕ} (pairs_of r s.arcs) (r, a.next) = at_Has {X = ℕ × ℕ} (pairs_of r s.arcs) k (r, a.next) (at_mapped (λ (b : Arc V ℕ). (r, b.next)) s.arcs k a has) in
    let pair : Has {X = ℕ × ℕ} (pairs_of r s.arcs) (p, q) = subst (λ (z : ℕ). Has {X = ℕ × ℕ} (pairs_of r s.arcs) (p, z)) leads (subst (λ (z : ℕ). Has {X = ℕ × ℕ} (pairs_of r s.arcs) (z, a.next)) here put) in
    Has-append_left {X = ℕ × ℕ} (pairs_of r t.arcs) (pairs_from (r + 1) states) (p, q) (subst (λ (u : State V). Has {X = ℕ × ℕ} (pairs_of r u.arcs) (p, q)) (sym same) pair)
pair_there p q r (suc j) k (t ∷ states) s a there e has leads = Has-append_right {X = ℕ × ℕ} (pairs_of r t.arcs) (pairs_from (r + 1) states) (p, q) (pair_there p q (r + 1) j k states s a there (omega arith) has leads)

module _ {V : Type 0} (value : V → Cost) (m : Machine V) where
  -- a state as the graph has it
  pub look : (p : ℕ) (s : State V) → slice_get m.states p ≡ Some s → ((graph_of (valued value m)).arcs p ≡ map (valued_arc value) s.arcs) × ((graph_of (valued value m)).final p ≡ value s.final)
  look p s there =
      let seen : slice_get (valued value m).states p ≡ Some (valued_state value s) = slice_get-map (valued_state value) m.states p ∙ ap (option_map (valued_state value)) there in
      let read = get_or_from_slice_get (valued value m).states p (valued_state value s) no_state seen in
      (ap (λ (t : State Cost). t.arcs) read, ap (λ (t : State Cost). t.final) read)

  -- and what it has where there is none
  pub look_past : (p : ℕ) → length m.states ≤ p → ((graph_of (valued value m)).arcs p ≡ []) × ((graph_of (valued value m)).final p ≡ infinite)
  look_past p past =
      let count : length (valued value m).states ≡ length m.states = length-map m.states (valued_state value) in
      let read = get_or_past (valued value m).states p no_state (omega arith) in
      (ap (λ (t : State Cost). t.arcs) read, ap (λ (t : State Cost). t.final) read)

  -- each arc of the graph is one of the machine
  pub arc_from : (p k : ℕ) (a : Arc Cost ℕ) → slice_get ((graph_of (valued value m)).arcs p) k ≡ Some a → (s : State V) × (b : Arc V ℕ) × (slice_get m.states p ≡ Some s) × (slice_get s.arcs k ≡ Some b) × (valued_arc value b ≡ a)
  arc_from p k a has = by_place (slice_get_cases m.states p).1
    where
      by_place : ((x : State V) × (p < length m.states) × (slice_get m.states p ≡ Some x) × (get_or m.states p x ≡ x)) ⊎ ((length m.states ≤ p) × (slice_get m.states p ≡ None)) → (s : State V) × (b : Arc V ℕ) × (slice_get m.states p ≡ Some s) × (slice_get s.arcs k ≡ Some b) × (valued_arc value b ≡ a)
      by_place (inl s) =
          let mapped : slice_get (map (valued_arc value) s.0.arcs) k ≡ Some a = ap (λ (zs : List (Arc Cost ℕ)). slice_get zs k) (sym (look p s.0 s.2).0) ∙ has in
          let b = mapped_at (valued_arc value) s.0.arcs k a mapped in
          (s.0, b.0, s.2, b.1, b.2)
      by_place (inr past) = absurd (let none = look_past p past.0 in let wrong : slice_get {X = Arc Cost ℕ} [] k ≡ Some a = ap (λ (zs : List (Arc Cost ℕ)). slice_get zs k) (sym none.0) ∙ has in cc)

  -- each arc of a state is one of the graph
  pub arc_there : (p k : ℕ) (s : State V) (b : Arc V ℕ) → slice_get m.states p ≡ Some s → slice_get s.arcs k ≡ Some b → slice_get ((graph_of (valued value m)).arcs p) k ≡ Some (valued_arc value b)
  arc_there p k s b there has = ap (λ (zs : List (Arc Cost ℕ)). slice_get zs k) (look p s there).0 ∙ at_mapped (valued_arc value) s.arcs k b has

  -- the arcs of a machine are good
  pub arc_good : IsMachine value m → (p k : ℕ) (s : State V) (b : Arc V ℕ) → slice_get m.states p ≡ Some s → slice_get s.arcs k ≡ Some b → IsArc value (length m.states) b
  arc_good h p k s b there has =
      let low : p < length m.states = slice_get_within m.states p s there in
      let good : All (IsArc value (length m.states)) s.arcs = subst (λ (t : State V). All (IsArc value (length m.states)) t.arcs) (get_or_from_slice_get m.states p s s there) (h.arcs p s low) in
      subst (IsArc value (length m.states)) (get_or_from_slice_get s.arcs k b b has) (good k b (slice_get_within s.arcs k b has))

  -- a path from a state leads to states alone
  pub reached_within : IsMachine value m → (path : List (Transition ℕ)) (p q : ℕ) → p < length m.states → IsPath (graph_of (valued value m)) p path q → q < length m.states
  reached_within h [] p q low leads = subst (λ (k : ℕ). k < length m.states) leads low
  reached_within h (t ∷ path) p q low leads =
      let from = arc_from p t.place t.arc leads.0.1 in
      let good = arc_good h p t.place from.0 from.1 from.2 from.3 in
      let next : t.arc.next < length m.states = subst (λ (a : Arc Cost ℕ). a.next < length m.states) from.4 good.next in
      reached_within h path t.arc.next q next leads.1

  -- a final state is one of the machine
  pub final_within : (p : ℕ) → ((graph_of (valued value m)).final p ≡ infinite → ⊥) → p < length m.states
  final_within p final = by_place (cases_lt p (length m.states))
    where
      by_place : (p < length m.states) ⊎ (length m.states ≤ p) → p < length m.states
      by_place (inl low) = low
      by_place (inr past) = absurd (final (look_past p past).1)

  -- the pairs are the arcs
  pub pairs_are : (p q : ℕ) → Has {X = ℕ × ℕ} (pairs_from 0 m.states) (p, q) ↔ ((k : ℕ) × (a : Arc Cost ℕ) × (slice_get ((graph_of (valued value m)).arcs p) k ≡ Some a) × (a.next ≡ q))
  pairs_are p q = (there, back)
    where
      there : Has {X = ℕ × ℕ} (pairs_from 0 m.states) (p, q) → (k : ℕ) × (a : Arc Cost ℕ) × (slice_get ((graph_of (valued value m)).arcs p) k ≡ Some a) × (a.next ≡ q)
      there has =
          let h = pair_from p q 0 m.states has in
          let same : h.0 ≡ p = omega (arith, h.5) in
          (h.2, valued_arc value h.3, arc_there p h.2 h.1 h.3 (ap (slice_get m.states) (sym same) ∙ h.4) h.6, h.7)

      back : (k : ℕ) × (a : Arc Cost ℕ) × (slice_get ((graph_of (valued value m)).arcs p) k ≡ Some a) × (a.next ≡ q) → Has {X = ℕ × ℕ} (pairs_from 0 m.states) (p, q)
      back h =
          let from = arc_from p h.0 h.1 h.2 in
          let at : p ≡ 0 + p = omega arith in
          pair_there p q 0 p h.0 m.states from.0 from.1 from.2 at from.3 (ap (λ (a : Arc Cost ℕ). a.next) from.4 ∙ h.3)

  -- the final weight that is read
  pub look_final : (p : ℕ) (w : V) → option_map (λ s. s.final) (slice_get m.states p) ≡ Some w → (graph_of (valued value m)).final p ≡ value w
  look_final p w e =
      let s = mapped_some (λ (s : State V). s.final) (slice_get m.states p) w e in
      (look p s.0 s.1).1 ∙ ap value s.2

  -- where an arc leads from
  pub source_within : (p q : ℕ) → Has {X = ℕ × ℕ} (pairs_from 0 m.states) (p, q) → p < length m.states
  source_within p q has =
      let h = pair_from p q 0 m.states has in
      omega (arith, h.5, slice_get_within m.states h.0 h.1 h.4)
