-- The first arc with label 0, and the least state with weights.
use Rattle.std.proofs.Common.{◌≡◌, ◌↔◌, ◌⊎◌, ℕ, ◌≤◌, Bool, List, Option, None, Some, get_or, length, map, slice_get, sym, ap, ◌∙◌, subst, arith}
use Rattle.std.specs.Bool.{Decides}
use Rattle.std.specs.List.{All}
use Rattle.std.specs.Option.{option_map}
use Rattle.std.proofs.lemmas.List.{length-map}
use Rattle.std.proofs.lemmas.List.Elements.{All-map}
use Rattle.std.proofs.lemmas.Option.{get_or_from_slice_get, same_Some, slice_get_within}
use Rattle.fst_semiring.specs.Cost.{Cost, infinite}
use Rattle.fst_semiring.specs.Semiring.{one_of}
use Rattle.fst_semiring.specs.declared.arc_type.ArcType.{ArcType}
use Rattle.fst_machine.specs.Machine.{Arc, Machine, State, valued, valued_arc, valued_state}
use Rattle.fst_machine.specs.declared.path.Step.{Step}
use Rattle.fst_machine.proofs.Arcs.{at_mapped, mapped_at, mapped_some}
use Rattle.fst_machine.proofs.Valued.{stands}
use Rattle.fst_trim.specs.FirstArcs.{IsFirstArc, Meets}
use Rattle.fst_trim.proofs.Places.{NoneBefore}
use Rattle.fst_trim.proofs.Rearranged.{read_inside}
use Rattle.fst_setops.specs.Unweighted.{HasWeights, IsFirstWeighted, IsUnweighted, ReadsEpsilon}

-- an arc with another label
pub reads_label : {V : Type 0} (arcs : List (Arc V ℕ)) (place : ℕ) (a : Arc V ℕ) → slice_get arcs place ≡ Some a → (a.ilabel ≡ 0 → ⊥) → ReadsEpsilon arcs place → ⊥
reads_label {V} arcs place a there other h = other (ap (λ (b : Arc V ℕ). b.ilabel) (same_Some a h.arc (sym there ∙ h.there)) ∙ h.epsilon)

-- a place has label 0 with the weights of the arcs or with the values of these
epsilon_values : {V : Type 0} (value : V → Cost) (arcs : List (Arc V ℕ)) (place : ℕ) → ReadsEpsilon arcs place ↔ ReadsEpsilon (map (valued_arc value) arcs) place
epsilon_values value arcs place = (
  (λ h. record { arc = valued_arc value h.arc; there = at_mapped (valued_arc value) arcs place h.arc h.there; epsilon = h.epsilon }),
  (λ h. let a = mapped_at (valued_arc value) arcs place h.arc h.there in record { arc = a.0; there = a.1; epsilon = ap (λ (b : Arc Cost ℕ). b.ilabel) a.2 ∙ h.epsilon }),
)

module _ {V : Type 0} (value : V → Cost) (m : Machine V) where
  pub epsilon-valued : (state place : ℕ) → Meets ReadsEpsilon m state place ↔ Meets ReadsEpsilon (valued value m) state place
  epsilon-valued state place = (there, back)
    where
      there : Meets ReadsEpsilon m state place → Meets ReadsEpsilon (valued value m) state place
      there h =
          let s = mapped_some (λ (s : State V). s.arcs) (slice_get m.states state) h.arcs h.has in
          record {
            arcs = map (valued_arc value) h.arcs;
            has = ap (option_map (λ (t : State Cost). t.arcs)) (at_mapped (valued_state value) m.states state s.0 s.1) ∙ ap (λ (arcs : List (Arc V ℕ)). Some (map (valued_arc value) arcs)) s.2;
            holds = (epsilon_values value h.arcs place).0 h.holds;
          }

      back : Meets ReadsEpsilon (valued value m) state place → Meets ReadsEpsilon m state place
      back h =
          let t = mapped_some (λ (t : State Cost). t.arcs) (slice_get (valued value m).states state) h.arcs h.has in
          let s = mapped_at (valued_state value) m.states state t.0 t.1 in
          let same : map (valued_arc value) s.0.arcs ≡ h.arcs = ap (λ (u : State Cost). u.arcs) s.2 ∙ t.2 in
          record { arcs = s.0.arcs; has = ap (option_map (λ (u : State V). u.arcs)) s.1; holds = (epsilon_values value s.0.arcs place).1 (subst (λ (arcs : List (Arc Cost ℕ)). ReadsEpsilon arcs place) (sym same) h.holds) }

-- the first arc with a property, where it is met in the one machine just where another is met in the other
pub first_meets : {V W : Type 0} (P : List (Arc V ℕ) → ℕ → Type 0) (Q : List (Arc W ℕ) → ℕ → Type 0) (m : Machine V) (c : Machine W) → ((state place : ℕ) → Meets P m state place ↔ Meets Q c state place)
    → (found : Option Step) → IsFirstArc P m found → IsFirstArc Q c found
first_meets P Q m c same None first = λ state place h. first state place ((same state place).1 h)
first_meets P Q m c same (Some step) first = ((same step.state step.place).0 first.0, λ state place before h. first.1 state place before ((same state place).1 h))

-- a state without weights, by its arcs
pub unweighted_by : {V : Type 0} (kind : ArcType) (value : V → Cost) (last : V) (arcs : List (Arc V ℕ)) (r : Bool) → (value last ≡ one_of kind) ⊎ (value last ≡ infinite) → Decides r (All (λ a. value a.weight ≡ one_of kind) arcs)
    → Decides r (IsUnweighted kind (record { final = value last; arcs = map (valued_arc value) arcs }))
unweighted_by {V} kind value last arcs r plain decides = (
  (λ e. record { arcs = All-map (λ (a : Arc Cost ℕ). a.weight ≡ one_of kind) (valued_arc value) arcs (decides.0 e); final = plain }),
  (λ h. decides.1 (ones h.arcs)),
)
  where
    ones : All (λ (a : Arc Cost ℕ). a.weight ≡ one_of kind) (map (valued_arc value) arcs) → All (λ (a : Arc V ℕ). value a.weight ≡ one_of kind) arcs
    ones all k d low =
        let x = read_inside arcs k low in
        let y = at_mapped (valued_arc value) arcs k x.0 x.1 in
        let mapped : get_or (map (valued_arc value) arcs) k (valued_arc value x.0) ≡ valued_arc value x.0 = get_or_from_slice_get (map (valued_arc value) arcs) k (valued_arc value x.0) (valued_arc value x.0) y in
        let one = all k (valued_arc value x.0) (slice_get_within (map (valued_arc value) arcs) k (valued_arc value x.0) y) in
        ap (λ (a : Arc V ℕ). value a.weight) (get_or_from_slice_get arcs k x.0 d x.1) ∙ (sym (ap (λ (a : Arc Cost ℕ). a.weight) mapped) ∙ one)

module _ {V : Type 0} (kind : ArcType) (value : V → Cost) (states : List (State V)) (p : ℕ) (last : V) (arcs : List (Arc V ℕ)) (has_final : option_map (λ s. s.final) (slice_get states p) ≡ Some last) (has_arcs : option_map (λ s. s.arcs) (slice_get states p) ≡ Some arcs) where
  -- the state with its weights as values
  seen : slice_get (map (valued_state value) states) p ≡ Some (record { final = value last; arcs = map (valued_arc value) arcs })
  seen = at_mapped (valued_state value) states p (record { final = last; arcs = arcs }) (stands states p last arcs has_final has_arcs)

  pub weighted_here : (IsUnweighted kind (record { final = value last; arcs = map (valued_arc value) arcs }) → ⊥) → HasWeights kind (map (valued_state value) states) p
  weighted_here weighted = record { state = record { final = value last; arcs = map (valued_arc value) arcs }; there = seen; weighted = weighted }

  pub unweighted_here : IsUnweighted kind (record { final = value last; arcs = map (valued_arc value) arcs }) → HasWeights kind (map (valued_state value) states) p → ⊥
  unweighted_here plain h = h.weighted (subst (IsUnweighted kind) (same_Some (record { final = value last; arcs = map (valued_arc value) arcs }) h.state (sym seen ∙ h.there)) plain)

-- no state has weights, where none below their number has
pub none_weighted : {V : Type 0} (kind : ArcType) (value : V → Cost) (m : Machine V) (n : ℕ) → length m.states ≤ n → NoneBefore (HasWeights kind) (valued value m).states n → IsFirstWeighted kind (valued value m) None
none_weighted kind value m n all none place h =
    let low = slice_get_within (valued value m).states place h.state h.there in
    let size : length (valued value m).states ≡ length m.states = length-map m.states (valued_state value) in
    none place (omega (arith, low, size, all)) h
