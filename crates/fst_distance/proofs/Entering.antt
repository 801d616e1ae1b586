-- Arcs that lead to a state, and whether one does in a pushed machine.
use Rattle.std.proofs.Common.{◌≡◌, ◌⊎◌, inl, inr, ℕ, ◌+◌, ◌<◌, ◌≤◌, true, false, List, Some, length, map, get_or, slice_get, sym, ap, ◌∙◌, subst, arith}
use Rattle.std.specs.Option.{option_map}
use Rattle.std.proofs.lemmas.Bool.{cases_lt}
use Rattle.std.proofs.lemmas.List.{length-map}
use Rattle.std.proofs.lemmas.Option.{slice_get-get_or, slice_get_within, same_Some}
use Rattle.fst_semiring.specs.Cost.{Cost}
use Rattle.fst_semiring.specs.declared.arc_type.ArcType.{ArcType}
use Rattle.fst_machine.specs.Machine.{Arc, State, Machine, valued, valued_arc, valued_state}
use Rattle.fst_machine.specs.Graph.{graph_of}
use Rattle.fst_machine.proofs.Arcs.{mapped_at, at_mapped, mapped_some}
use Rattle.fst_machine.proofs.Cycles.{state_below}
use Rattle.fst_distance.specs.Pushing.{pushed_arc, pushed_machine}
use Rattle.fst_distance.specs.Totals.{IsEntered}
use Rattle.fst_distance.specs.Values.{LeadsTo}
use Rattle.fst_distance.proofs.PushedMachine.{pushed_at, pushed_length}
use Rattle.fst_distance.proofs.View.{valued_at}

-- none of the first arcs leads to the state
abbrev pub NoneLeads : {V : Type 0} → List (Arc V ℕ) → ℕ → ℕ → Type 0
NoneLeads {V} arcs k state = (place : ℕ) (arc : Arc V ℕ) → place < k → slice_get arcs place ≡ Some arc → arc.next ≡ state → ⊥

module _ {V : Type 0} (arcs : List (Arc V ℕ)) (state : ℕ) where
  pub leads_here : (i : ℕ) (a : Arc V ℕ) → i < length arcs → a ≡ get_or arcs i a → a.next ≡ state → LeadsTo arcs state true
  leads_here i a low read leads = (i, a, slice_get-get_or arcs i a low ∙ ap Some (sym read), leads)

  pub none_next : (i : ℕ) (a : Arc V ℕ) → i < length arcs → a ≡ get_or arcs i a → (a.next ≡ state → ⊥) → NoneLeads arcs i state → NoneLeads arcs (i + 1) state
  none_next i a low read other before place arc less there leads = by (cases_lt place i)
    where
      by : (place < i) ⊎ (i ≤ place) → ⊥
      by (inl earlier) = before place arc earlier there leads
      by (inr late) =
          let same : place ≡ i = omega (arith, late, less) in
          let here : a ≡ arc = same_Some a arc (sym (slice_get-get_or arcs i a low ∙ ap Some (sym read)) ∙ (ap (slice_get arcs) (sym same) ∙ there)) in
          other (ap (λ (b : Arc V ℕ). b.next) here ∙ leads)

  pub none_leads : (k : ℕ) → length arcs ≤ k → NoneLeads arcs k state → LeadsTo arcs state false
  none_leads k all before place arc there leads = before place arc (let low = slice_get_within arcs place arc there in omega arith) there leads

-- no arc of the first states leads to the state
abbrev pub NoneEnters : Machine Cost → ℕ → ℕ → Type 0
NoneEnters m k state = (p i : ℕ) (a : Arc Cost ℕ) → p < k → slice_get ((graph_of m).arcs p) i ≡ Some a → a.next ≡ state → ⊥

pub not_entered : (m : Machine Cost) (k state : ℕ) → length m.states ≤ k → NoneEnters m k state → IsEntered m state → ⊥
not_entered m k state all none h = none h.from h.place h.arc (let low = state_below m h.from h.place h.arc h.there in omega arith) h.there h.leads

module _ {V : Type 0} (kind : ArcType) (value : V → Cost) (d : ℕ → Cost) (m : Machine V) (state : ℕ) where
  abbrev view : Machine Cost
  view = pushed_machine kind d (valued value m)

  size : length view.states ≡ length m.states
  size = pushed_length kind d 0 (valued value m).states ∙ length-map m.states (valued_state value)

  -- the arcs of a state, pushed
  arcs_at : (p : ℕ) (s : State V) → slice_get m.states p ≡ Some s → (graph_of view).arcs p ≡ map (pushed_arc kind d (0 + p)) (map (valued_arc value) s.arcs)
  arcs_at p s there =
      let low : p < length (valued value m).states = let l = slice_get_within m.states p s there in let n = length-map m.states (valued_state value) in omega arith in
      ap (λ (t : State Cost). t.arcs) (pushed_at kind d 0 (valued value m).states p low) ∙ ap (λ (t : State Cost). map (pushed_arc kind d (0 + p)) t.arcs) (valued_at value m.states p s there)

  pub arcs_count : (p : ℕ) (arcs : List (Arc V ℕ)) → option_map (λ s. s.arcs) (slice_get m.states p) ≡ Some arcs → length arcs ≡ length ((graph_of view).arcs p)
  arcs_count p arcs has =
      let from = mapped_some (λ (s : State V). s.arcs) (slice_get m.states p) arcs has in
      ap length (sym from.2) ∙ (sym (length-map (map (valued_arc value) from.0.arcs) (pushed_arc kind d (0 + p)) ∙ length-map from.0.arcs (valued_arc value)) ∙ ap length (sym (arcs_at p from.0 from.1)))

  pub entered_at : (p : ℕ) (arcs : List (Arc V ℕ)) → option_map (λ s. s.arcs) (slice_get m.states p) ≡ Some arcs → LeadsTo arcs state true → IsEntered view state
  entered_at p arcs has leads =
      let from = mapped_some (λ (s : State V). s.arcs) (slice_get m.states p) arcs has in
      let there = subst (λ (xs : List (Arc V ℕ)). slice_get xs leads.0 ≡ Some leads.1) (sym from.2) leads.2 in
      record {
        from = p;
        place = leads.0;
        arc = pushed_arc kind d (0 + p) (valued_arc value leads.1);
        there = ap (λ (xs : List (Arc Cost ℕ)). slice_get xs leads.0) (arcs_at p from.0 from.1) ∙ at_mapped (pushed_arc kind d (0 + p)) (map (valued_arc value) from.0.arcs) leads.0 (valued_arc value leads.1) (at_mapped (valued_arc value) from.0.arcs leads.0 leads.1 there);
        leads = leads.3;
      }

  -- one more
  pub none_enters_next : (k : ℕ) (arcs : List (Arc V ℕ)) → option_map (λ s. s.arcs) (slice_get m.states k) ≡ Some arcs → LeadsTo arcs state false → NoneEnters view k state → NoneEnters view (k + 1) state
  none_enters_next k arcs has none before p i a less there leads = by (cases_lt p k)
    where
      by : (p < k) ⊎ (k ≤ p) → ⊥
      by (inl earlier) = before p i a earlier there leads
      by (inr late) =
          let same : p ≡ k = omega (arith, late, less) in
          let from = mapped_some (λ (s : State V). s.arcs) (slice_get m.states k) arcs has in
          let here : slice_get ((graph_of view).arcs k) i ≡ Some a = subst (λ (q : ℕ). slice_get ((graph_of view).arcs q) i ≡ Some a) same there in
          let pushed = mapped_at (pushed_arc kind d (0 + k)) (map (valued_arc value) from.0.arcs) i a (ap (λ (xs : List (Arc Cost ℕ)). slice_get xs i) (sym (arcs_at k from.0 from.1)) ∙ here) in
          let raw = mapped_at (valued_arc value) from.0.arcs i pushed.0 pushed.1 in
          none i raw.0 (subst (λ (xs : List (Arc V ℕ)). slice_get xs i ≡ Some raw.0) from.2 raw.1)
          (ap (λ (b : Arc Cost ℕ). b.next) raw.2 ∙ (ap (λ (b : Arc Cost ℕ). b.next) pushed.2 ∙ leads))
