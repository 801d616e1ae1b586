-- Tables that grow, and tables of distances that are relaxed.
use Rattle.std.proofs.Common.{◌≡◌, ◌⊎◌, inl, inr, ℕ, ◌+◌, ◌<◌, ◌≤◌, suc, List, [], ◌∷◌, ◌++◌, Some, length, get_or, slice_get, sym, ap, ◌∙◌, subst, add-one, arith}
use Rattle.std.specs.Option.{option_map}
use Rattle.std.proofs.lemmas.Bool.{cases_lt}
use Rattle.std.proofs.lemmas.List.{get_or_append_left, get_or_push, get_or_past, length_push}
use Rattle.std.proofs.lemmas.Option.{slice_get-map, get_or_from_slice_get}
use Rattle.fst_semiring.specs.Cost.{Cost, infinite, plus}
use Rattle.fst_semiring.specs.declared.arc_type.ArcType.{ArcType}
use Rattle.fst_machine.specs.Machine.{State, Machine, valued, valued_state}
use Rattle.fst_machine.specs.Graph.{graph_of, no_state}
use Rattle.fst_machine.specs.Within.{ways_weight, target_within}
use Rattle.fst_machine.proofs.Arcs.{mapped_some}
use Rattle.fst_plain.specs.declared.cost.PlainCost.{PlainCost}
use Rattle.fst_plain.specs.declared.cost.PlainCost.TheVariants as plain
use Rattle.fst_plain.specs.Plain.{cost_of, Fits}
use Rattle.fst_plain.specs.Tables.{table_at, AllFit}

-- past the end stands Zero
pub table_at-past : (table : List PlainCost) (p : ℕ) → length table ≤ p → table_at table p ≡ infinite
table_at-past table p far = ap cost_of (get_or_past table p plain.Infinite far)

-- one value more
pub values-push : (table : List PlainCost) (c : PlainCost) (f : ℕ → Cost) (i : ℕ) → length table ≡ i → ((p : ℕ) → p < i → table_at table p ≡ f p) → cost_of c ≡ f i → (p : ℕ) → p < i + 1 → table_at (table ++ c ∷ []) p ≡ f p
values-push table c f i size values last p low = by_place (cases_lt p i)
  where
    by_place : (p < i) ⊎ (i ≤ p) → table_at (table ++ c ∷ []) p ≡ f p
    by_place (inl before) = ap cost_of (get_or_append_left table (c ∷ []) plain.Infinite p (omega arith)) ∙ values p before
    by_place (inr late) =
        let here : i ≡ p = omega arith in
        let size_here : length table ≡ p = omega arith in
        ap cost_of (get_or_push table c plain.Infinite p size_here) ∙ (last ∙ ap f here)

pub AllFit-push : (n : ℕ) (table : List PlainCost) (c : PlainCost) → AllFit n table → Fits n (cost_of c) → AllFit n (table ++ c ∷ [])
AllFit-push n table c all last p = by_place (cases_lt p (length table)) (cases_lt (length table) p)
  where
    by_place : (p < length table) ⊎ (length table ≤ p) → (length table < p) ⊎ (p ≤ length table) → Fits n (table_at (table ++ c ∷ []) p)
    by_place (inl before) other = subst (λ z. Fits n z) (sym (ap cost_of (get_or_append_left table (c ∷ []) plain.Infinite p before))) (all p)
    by_place (inr late) (inl past) = subst (λ z. Fits n z) (sym (table_at-past (table ++ c ∷ []) p (omega (arith, length_push table c)))) tt
    by_place (inr late) (inr near) =
        let here : length table ≡ p = omega arith in
        subst (λ z. Fits n z) (sym (ap cost_of (get_or_push table c plain.Infinite p here))) last

-- the final weight of a state, as the graph of the machine's values has it
pub graph_final : {V : Type 0} (value : V → Cost) (m : Machine V) (p : ℕ) (w : V) → option_map (λ s. s.final) (slice_get m.states p) ≡ Some w → (graph_of (valued value m)).final p ≡ value w
graph_final {V} value m p w e =
    let s = mapped_some (λ (s : State V). s.final) (slice_get m.states p) w e in
    let there : slice_get (valued value m).states p ≡ Some (valued_state value s.0) = slice_get-map (valued_state value) m.states p ∙ ap (option_map (valued_state value)) s.1 in
    ap (λ (t : State Cost). t.final) (get_or_from_slice_get (valued value m).states p (valued_state value s.0) no_state there) ∙ ap value s.2

-- a table relaxed has the distances over one arc more
pub relaxed : (kind : ArcType) (m : Machine Cost) (targets table more : List PlainCost) (k : ℕ) → length targets ≡ length m.states → length more ≡ length m.states → ((p : ℕ) → table_at table p ≡ target_within kind (graph_of m) (table_at targets) k p) → ((p : ℕ) → p < length m.states → table_at more p ≡ plus (table_at targets p) (ways_weight kind (table_at table) ((graph_of m).arcs p))) → (p : ℕ) → table_at more p ≡ target_within kind (graph_of m) (table_at targets) (k + 1) p
relaxed kind m targets table more k some size values relaxes p = by_place (cases_lt p (length m.states)) ∙ ap (λ (j : ℕ). target_within kind (graph_of m) (table_at targets) j p) (sym (add-one k))
  where
    by_place : (p < length m.states) ⊎ (length m.states ≤ p) → table_at more p ≡ target_within kind (graph_of m) (table_at targets) (suc k) p
    by_place (inl low) = relaxes p low ∙ ap (λ (rest : ℕ → Cost). plus (table_at targets p) (ways_weight kind rest ((graph_of m).arcs p))) (λ i q. values q i)
    by_place (inr past) =
        let none : table_at more p ≡ infinite = table_at-past more p (omega arith) in
        let target : table_at targets p ≡ infinite = table_at-past targets p (omega arith) in
        let arcs : get_or m.states p no_state ≡ no_state = get_or_past m.states p no_state past in
        none ∙ sym (ap (λ z. plus z (ways_weight kind (target_within kind (graph_of m) (table_at targets) k) ((graph_of m).arcs p))) target ∙ ap (λ (s : State Cost). plus infinite (ways_weight kind (target_within kind (graph_of m) (table_at targets) k) s.arcs)) arcs)
