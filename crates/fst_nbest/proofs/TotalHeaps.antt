-- Heaps of the totals that paths may have.
use Rattle.std.proofs.Common.{◌≡◌, ◌⊎◌, inl, inr, ℕ, ◌+◌, ◌<◌, true, false, true≢false, List, ◌∷◌, Some, map, slice_get, refl, sym, ap, subst, ◌∙◌, arith}
use Rattle.std.specs.List.{All}
use Rattle.std.specs.List.Sorted.{IsPermutation}
use Rattle.std.specs.Option.{option_map}
use Rattle.std.proofs.lemmas.Bool.{cases_eq}
use Rattle.std.proofs.lemmas.List.Elements.{All-cons, All-tail}
use Rattle.std.proofs.lemmas.List.Sorted.{All-permutation, IsPermutation-sym}
use Rattle.fst_semiring.specs.Cost.{Cost, best, finite, infinite, is_infinite, plus}
use Rattle.fst_machine.specs.BreadthFirst.{Has}
use Rattle.fst_machine.specs.Machine.{Arc, Machine, valued}
use Rattle.fst_machine.specs.Graph.{Graph, graph_of}
use Rattle.fst_nbest.specs.Totals.{HasTotals, Keeps, MayTotal}
use Rattle.fst_nbest.proofs.Covering.{Has-permutation}
use Rattle.fst_nbest.proofs.Gathered.{every_arc}
use Rattle.fst_nbest.proofs.Searches.{Has-map, map_Has}

module _ {D : Type 0} (wide : D → Cost) (old new : List D) (x : D) (same : IsPermutation (x ∷ old) new) where
  in_new : (y : D) → Has (x ∷ old) y → Has (map wide new) (wide y)
  in_new y there = map_Has wide new y (Has-permutation new (x ∷ old) y (IsPermutation-sym (x ∷ old) new same) there)

  pub put_keeps : Keeps (map wide old) (map wide new)
  put_keeps v there = let from = Has-map wide old v there in subst (Has (map wide new)) from.2 (in_new from.0 (inr from.1))

  pub put_here : Has (map wide new) (wide x)
  put_here = in_new x (inl refl)

  pub put_each : (P : D → Type 0) → P x → All P old → All P new
  put_each P here all = All-permutation P (x ∷ old) new same (All-cons P x old here all)

-- a test of Zero
pub is_none : (c : Cost) → true ≡ is_infinite c → c ≡ infinite
is_none best e = absurd (true≢false e)
is_none (finite a b) e = absurd (true≢false e)
is_none infinite e = refl

pub is_some : (c : Cost) → false ≡ is_infinite c → c ≡ infinite → ⊥
is_some c e none = true≢false (sym (e ∙ ap is_infinite none))

module _ {N : Type 0} (g : Graph N) (dist : N → Cost) (least : Cost) (p : N) where
  pub no_totals : (totals : List Cost) → dist p ≡ infinite → HasTotals g dist least p totals
  no_totals totals none = record { final = λ some final low. absurd (some none); arcs = λ k a there some may. absurd (some none) }

  pub totals_kept : (totals new : List Cost) → Keeps totals new → HasTotals g dist least p totals → HasTotals g dist least p new
  totals_kept totals new keeps h = record { final = λ some final low. keeps (g.final p) (h.final some final low); arcs = λ k a there some may. keeps a.weight (h.arcs k a there some may) }

-- the totals by a state whose arcs were read
pub state_totals : {V : Type 0} (value : V → Cost) (m : Machine V) (dist : ℕ → Cost) (least last : Cost) (q : ℕ) (arcs : List (Arc V ℕ)) (mid new : List Cost) → option_map (λ s. s.arcs) (slice_get m.states q) ≡ Some arcs → last ≡ (graph_of (valued value m)).final q
    → ((last ≡ infinite → ⊥) → plus least last ≡ least → Has mid last) → Keeps mid new → ((k : ℕ) (a : Arc V ℕ) → slice_get arcs k ≡ Some a → MayTotal least (dist a.next) (value a.weight) → Has new (value a.weight))
    → HasTotals (graph_of (valued value m)) dist least q new
state_totals value m dist least last q arcs mid new read is final keeps each = record {
  final = λ some not_zero low. subst (Has new) is (keeps last (final (λ none. not_zero (sym is ∙ none)) (ap (plus least) is ∙ low)));
  arcs = λ k a there some may. every_arc value (λ (b : Arc Cost ℕ). MayTotal least (dist b.next) b.weight → Has new b.weight) m q arcs read (λ j b here. each j b here) k a there may;
}

-- one state more
pub totals_more : {V : Type 0} (value : V → Cost) (m : Machine V) (dist : ℕ → Cost) (least : Cost) (totals new : List Cost) (state : ℕ) → Keeps totals new → HasTotals (graph_of (valued value m)) dist least state new
    → ((p : ℕ) → p < state → HasTotals (graph_of (valued value m)) dist least p totals) → (p : ℕ) → p < state + 1 → HasTotals (graph_of (valued value m)) dist least p new
totals_more value m dist least totals new state keeps here before p low = by (cases_eq p state)
  where
    by : (p ≡ state) ⊎ (p ≡ state → ⊥) → HasTotals (graph_of (valued value m)) dist least p new
    by (inl e) = subst (λ (q : ℕ). HasTotals (graph_of (valued value m)) dist least q new) (sym e) here
    by (inr other) = totals_kept (graph_of (valued value m)) dist least p totals new keeps (before p (let l : (p ≡ state → ⊥) = other in omega (arith, low, l)))

-- what holds of each of a heap holds of those that stay
pub taken_each : {D : Type 0} (P : D → Type 0) (old new : List D) (x : D) → IsPermutation old (x ∷ new) → All P old → All P new
taken_each P old new x same all = All-tail P x new (All-permutation P old (x ∷ new) same all)
