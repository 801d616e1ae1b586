-- From the parts of minimization to what it promises.
use Rattle.std.proofs.Common.{◌≡◌, ◌≢◌, ◌⊎◌, inl, inr, true, ℕ, ◌<◌, ◌≤◌, List, [], ◌∷◌, Option, None, Some, length, map, get_or, slice_get, sym, refl, ap, ◌∙◌, subst, arith}
use Rattle.std.specs.Option.{option_map}
use Rattle.std.proofs.lemmas.Bool.{cases_eq, cases_lt}
use Rattle.std.proofs.lemmas.List.{get_or_past, length-map}
use Rattle.std.proofs.lemmas.Option.{slice_get_cases, slice_get_within, same_Some}
use Rattle.fst_semiring.specs.Cost.{Cost}
use Rattle.fst_semiring.specs.declared.arc_type.ArcType.{ArcType}
use Rattle.fst_semiring.specs.Semiring.{cancels, IsCost}
use Rattle.fst_machine.specs.Machine.{Arc, State, Machine, valued, valued_arc, valued_state}
use Rattle.fst_machine.specs.Graph.{graph_of, no_state}
use Rattle.fst_machine.proofs.Arcs.{mapped_at}
use Rattle.fst_machine.proofs.Cycles.{state_below}
use Rattle.fst_machine.proofs.Narrowing.{all_at}
use Rattle.fst_trim.specs.FirstArcs.{IsAcceptor, IsDeterministic}
use Rattle.fst_distance.specs.Pushing.{IsPushed, value_at}
use Rattle.fst_distance.specs.PushLaws.{NoArcIsZero}
use Rattle.fst_distance.proofs.PushedMachine.{potential, pushed_one, pushed_next, pushed_start, pushed_trim, pushed_some, pushed_acceptor, pushed_once}
use Rattle.fst_distance.proofs.View.{valued_at}
use Rattle.fst_trim.specs.Weighed.{IsWeighted}
use Rattle.fst_trim.specs.WordWeights.{IsSingle}
use Rattle.fst_minimize.specs.Classes.{HasClasses}
use Rattle.fst_minimize.specs.Described.{OfKind, OncePlacedAll}
use Rattle.fst_minimize.specs.Laws.{IsClosed, IsNormal, totalled, totalled_state}
use Rattle.fst_minimize.specs.Ready.{IsReady}
use Rattle.fst_minimize.specs.Fewest.{IsMinimal}
use Rattle.fst_minimize.proofs.Minimal.{minimal_law}

-- the arc of a machine behind an arc of its values
module _ {V : Type 0} (value : V → Cost) (m : Machine V) where
  raw_arc : (p k : ℕ) (a : Arc Cost ℕ) → slice_get ((graph_of (valued value m)).arcs p) k ≡ Some a → (s : State V) × (slice_get m.states p ≡ Some s) × (b : Arc V ℕ) × (slice_get s.arcs k ≡ Some b) × (valued_arc value b ≡ a)
  raw_arc p k a has = by (slice_get_cases m.states p).1
    where
      low : p < length m.states
      low = let l = state_below (valued value m) p k a has in let s = length-map m.states (valued_state value) in omega arith

      by : ((s : State V) × (p < length m.states) × (slice_get m.states p ≡ Some s) × (get_or m.states p s ≡ s)) ⊎ ((length m.states ≤ p) × (slice_get m.states p ≡ None)) → (s : State V) × (slice_get m.states p ≡ Some s) × (b : Arc V ℕ) × (slice_get s.arcs k ≡ Some b) × (valued_arc value b ≡ a)
      by (inr past) = absurd (let l = low in let h = past.0 in omega arith)
      by (inl s) =
          let arcs = ap (λ (t : State Cost). t.arcs) (valued_at value m.states p s.0 s.2) in
          let b = mapped_at (valued_arc value) s.0.arcs k a (ap (λ (xs : List (Arc Cost ℕ)). slice_get xs k) (sym arcs) ∙ has) in
          (s.0, s.2, b.0, b.1, b.2)

  pub raw_acceptor : IsAcceptor m → (p k : ℕ) (a : Arc Cost ℕ) → slice_get ((graph_of (valued value m)).arcs p) k ≡ Some a → a.olabel ≡ a.ilabel
  raw_acceptor is p k a has = by (cases_eq o.2.ilabel o.2.olabel)
    where
      o : (s : State V) × (slice_get m.states p ≡ Some s) × (b : Arc V ℕ) × (slice_get s.arcs k ≡ Some b) × (valued_arc value b ≡ a)
      o = raw_arc p k a has

      by : (o.2.ilabel ≡ o.2.olabel) ⊎ (o.2.ilabel ≢ o.2.olabel) → a.olabel ≡ a.ilabel
      by (inl same) = sym (ap (λ (x : Arc Cost ℕ). x.olabel) o.4) ∙ (sym same ∙ ap (λ (x : Arc Cost ℕ). x.ilabel) o.4)
      by (inr differ) = absurd (is p k (record { arcs = o.0.arcs; has = ap (option_map (λ (s : State V). s.arcs)) o.1; holds = record { arc = o.2; there = o.3; differ = differ } }))

  repeats : (p i j : ℕ) (a b : Arc Cost ℕ) → IsDeterministic m → i < j → slice_get ((graph_of (valued value m)).arcs p) i ≡ Some a → slice_get ((graph_of (valued value m)).arcs p) j ≡ Some b → a.ilabel ≡ b.ilabel → ⊥
  repeats p i j a b is low one two label =
      let x = raw_arc p i a one in
      let y = raw_arc p j b two in
      let state : x.0 ≡ y.0 = same_Some x.0 y.0 (sym x.1 ∙ y.1) in
      let there : slice_get y.0.arcs i ≡ Some x.2 = ap (λ (s : State V). slice_get s.arcs i) (sym state) ∙ x.3 in
      let labels : x.2.ilabel ≡ y.2.ilabel = ap (λ (c : Arc Cost ℕ). c.ilabel) x.4 ∙ (label ∙ sym (ap (λ (c : Arc Cost ℕ). c.ilabel) y.4)) in
      is p j (record { arcs = y.0.arcs; has = ap (option_map (λ (s : State V). s.arcs)) y.1; holds = record { arc = y.2; there = y.3; repeated = record { earlier = i; arc = x.2; before = low; there = there; same = labels } } })

  pub raw_once : IsDeterministic m → OncePlacedAll (graph_of (valued value m))
  raw_once is p i j a b one two label = by (cases_lt i j) (cases_lt j i)
    where
      by : (i < j) ⊎ (j ≤ i) → (j < i) ⊎ (i ≤ j) → i ≡ j
      by (inl low) other = absurd (repeats p i j a b is low one two label)
      by (inr high) (inl low) = absurd (repeats p j i b a is low two one (sym label))
      by (inr high) (inr low) = omega arith

-- A machine with these properties, and its pushed machine.
module _ (kind : ArcType) (m r : Machine Cost) (total : Cost) (h : IsPushed kind m r total) (some : NoArcIsZero m) (once : OncePlacedAll (graph_of m)) (acceptor : (p k : ℕ) (a : Arc Cost ℕ) → slice_get ((graph_of m).arcs p) k ≡ Some a → a.olabel ≡ a.ilabel) where
  closed : IsClosed r
  closed = record { start = pushed_start kind m r total h some; next = pushed_next kind m r total h some }

  pub pushed_ready : IsReady r
  pushed_ready = record {
    closed = closed;
    goes = λ p k a has. (pushed_trim kind m r total h some a.next (closed.next p k a has)).1;
    once = λ p. pushed_once kind m r total h some once p;
    acceptor = pushed_acceptor kind m r total h some acceptor;
  }

  module _ (kinds : (p : ℕ) → p < length r.states → OfKind kind (graph_of r) p) where
    values : IsWeighted kind (graph_of r)
    values = record {
      arcs = λ p k a has. (all_at (λ (b : Arc Cost ℕ). IsCost kind b.weight) ((graph_of r).arcs p) k a has (kinds p (state_below r p k a has)).0, pushed_some kind m r total h some p k a has);
      final = λ p. by p (cases_lt p (length r.states));
    }
      where
        by : (p : ℕ) → (p < length r.states) ⊎ (length r.states ≤ p) → IsCost kind ((graph_of r).final p)
        by p (inl low) = (kinds p low).1
        by p (inr past) = subst (IsCost kind) (sym (ap (λ (s : State Cost). s.final) (get_or_past r.states p no_state past))) tt

    single : IsSingle (graph_of r)
    single p i j a b one two label =
        let place = pushed_ready.once p i j a b one two label in
        same_Some a b (sym one ∙ (ap (slice_get ((graph_of r).arcs p)) place ∙ two))

    pub normal : IsNormal kind r
    normal = record { closed = closed; trim = pushed_trim kind m r total h some; single = single; acceptor = pushed_ready.acceptor; values = values; one = pushed_one kind m r total h some }

    -- without a start there are no classes
    none : (c : Machine Cost) (classes : HasClasses r c) → r.start ≡ None → length c.states ≡ 0
    none c classes e = classes.states ∙ by classes.least refl
      where
        by : (least : List ℕ) → classes.least ≡ least → length least ≡ 0
        by [] same = refl
        by (p ∷ least) same =
            let there : slice_get classes.least 0 ≡ Some p = ap (λ (ps : List ℕ). slice_get ps 0) same in
            let size = classes.classes in
            let low : p < length r.states = let l = slice_get_within classes.class p 0 (classes.member 0 p there) in omega arith in
            let a = (pushed_trim kind m r total h some p low).0 in
            absurd (let f : None ≡ Some a.first = sym e ∙ a.starts in cc)

    pub pushed_minimal : cancels kind ≡ true → (c : Machine Cost) → HasClasses r c → IsMinimal kind (totalled kind total c)
    pushed_minimal cancel c classes = by r.start refl
      where
        size : length (map (totalled_state kind total) c.states) ≡ length c.states
        size = length-map c.states (totalled_state kind total)

        by : (o : Option ℕ) → r.start ≡ o → IsMinimal kind (totalled kind total c)
        by None e = λ other one two three. let z = none c classes e in let s = size in omega arith
        by (Some s) e =
            let starts : h.connected.start ≡ Some s = sym h.pushes.start ∙ e in
            let low = h.pushes.begins s starts in
            let same : total ≡ h.distances s = h.start ∙ ap (value_at h.distances) starts in
            let of_kind : IsCost kind total = subst (IsCost kind) (sym same) (h.of_kind s low) in
            minimal_law kind total r c cancel of_kind (λ z. (potential kind m r total h some).not_zero s low (sym same ∙ z)) normal classes
