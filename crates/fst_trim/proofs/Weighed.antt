-- The weights of a machine, as its graph has them.
use Rattle.std.proofs.Common.{◌≡◌, ◌⊎◌, inl, inr, ℕ, ◌+◌, ◌<◌, ◌≤◌, zero, suc, List, [], ◌∷◌, ◌++◌, Some, length, map, take, get_or, slice_get, sym, ap, ◌∙◌, subst, arith}
use Rattle.std.specs.List.{All}
use Rattle.std.specs.Option.{option_map}
use Rattle.std.proofs.lemmas.Bool.{cases_lt}
use Rattle.std.proofs.lemmas.List.{get_or_past, length-map, take_more}
use Rattle.std.proofs.lemmas.List.Elements.{All-push}
use Rattle.std.proofs.lemmas.Option.{get_or_from_slice_get, same_Some, slice_get_within}
use Rattle.fst_semiring.specs.Cost.{Cost, infinite}
use Rattle.fst_semiring.specs.Semiring.{InRange, IsCost}
use Rattle.fst_semiring.specs.declared.arc_type.ArcType.{ArcType}
use Rattle.fst_semiring.specs.declared.arc_type.ArcType.TheVariants.{Boolean, Tropical, MinMax, Lexicographic}
use Rattle.fst_machine.specs.Graph.{graph_of, no_state}
use Rattle.fst_machine.specs.Machine.{Arc, IsArc, IsMachine, Machine, State, valued, valued_arc, valued_state}
use Rattle.fst_machine.proofs.Arcs.{mapped_at}
use Rattle.fst_machine.proofs.Narrowing.{all_at}
use Rattle.fst_machine.proofs.Valued.{IsMachine-valued}
use Rattle.fst_machine.proofs.Walking.{graph_arcs}
use Rattle.fst_trim.specs.Weighed.{IsWeighed, IsWeighedAt}

-- Zero is of every arc type
pub zero_kind : (kind : ArcType) → IsCost kind infinite
zero_kind Boolean = tt
zero_kind Tropical = tt
zero_kind MinMax = tt
zero_kind Lexicographic = tt

-- the final weight of a state, as the graph has it
pub graph_final : {V : Type 0} (value : V → Cost) (m : Machine V) (p : ℕ) (w : V) → option_map (λ s. s.final) (slice_get m.states p) ≡ Some w → (graph_of (valued value m)).final p ≡ value w
graph_final {V} value m p w e = in_states m.states p w e
  where
    in_states : (states : List (State V)) (p : ℕ) (w : V) → option_map (λ s. s.final) (slice_get states p) ≡ Some w → (get_or (map (valued_state value) states) p no_state).final ≡ value w
    in_states [] p w e = absurd (cc)
    in_states (s ∷ states) zero w e = ap value (same_Some s.final w e)
    in_states (s ∷ states) (suc p) w e = in_states states p w e

module _ (m : Machine Cost) (h : IsMachine (λ (v : Cost). v) m) where
  -- an arc of the graph is an arc of the machine
  pub machine_arc : (p k : ℕ) (a : Arc Cost ℕ) → slice_get ((graph_of m).arcs p) k ≡ Some a → IsArc (λ (v : Cost). v) (length m.states) a
  machine_arc p k a at = by_place (cases_lt p (length m.states))
    where
      by_place : (p < length m.states) ⊎ (length m.states ≤ p) → IsArc (λ (v : Cost). v) (length m.states) a
      by_place (inl low) = subst (λ (b : Arc Cost ℕ). IsArc (λ (v : Cost). v) (length m.states) b) (get_or_from_slice_get ((graph_of m).arcs p) k a a at) (h.arcs p no_state low k a (slice_get_within ((graph_of m).arcs p) k a at))
      by_place (inr high) = let none : slice_get {X = Arc Cost ℕ} [] k ≡ Some a = ap (λ (s : State Cost). slice_get s.arcs k) (sym (get_or_past m.states p no_state high)) ∙ at in absurd (cc)

-- one element more of which something holds
pub all_more : {X : Type 0} (P : X → Type 0) (xs : List X) (i : ℕ) (x : X) → i < length xs → x ≡ get_or xs i x → All P (take i xs) → P x → All P (take (i + 1) xs)
all_more P xs i x low at all here = subst (λ (zs : List _). All P zs) (sym (take_more xs i x low ∙ ap (λ (y : _). take i xs ++ y ∷ []) (sym at))) (All-push P (take i xs) x all here)

module _ {V : Type 0} (kind : ArcType) (value : V → Cost) (m : Machine V) where
  -- what is seen at a state
  pub weighed_at : (p : ℕ) (arcs : List (Arc V ℕ)) (w : V) → option_map (λ s. s.arcs) (slice_get m.states p) ≡ Some arcs → option_map (λ s. s.final) (slice_get m.states p) ≡ Some w
      → All (λ a. IsCost kind (value a.weight)) arcs → All (λ a. InRange (value a.weight)) arcs → IsCost kind (value w) → IsWeighedAt kind (graph_of (valued value m)) p
  weighed_at p arcs w has last kinds ranges final = record {
    arcs = λ k a at.
        let from = mapped_at (valued_arc value) arcs k a (ap (λ (bs : List (Arc Cost ℕ)). slice_get bs k) (sym (graph_arcs value m p arcs has)) ∙ at) in
        subst (λ (b : Arc Cost ℕ). IsCost kind b.weight × InRange b.weight) from.2 (all_at (λ (b : Arc V ℕ). IsCost kind (value b.weight)) arcs k from.0 from.1 kinds, all_at (λ (b : Arc V ℕ). InRange (value b.weight)) arcs k from.0 from.1 ranges);
    final = subst (λ (v : Cost). IsCost kind v) (sym (graph_final value m p w last)) final;
  }

  -- and what is seen at all states is so of the machine
  pub weighed_all : IsMachine value m → ((p : ℕ) → p < length m.states → IsWeighedAt kind (graph_of (valued value m)) p) → IsWeighed kind value m
  weighed_all h all = record {
    machine = h;
    weighted = record { arcs = λ p k a at. ((arc_at p k a at).0, (machine_arc (valued value m) (IsMachine-valued value m h) p k a at).weight); final = final };
    ranged = λ p k a at. (arc_at p k a at).1;
  }
    where
      size : length (valued value m).states ≡ length m.states
      size = length-map m.states (valued_state value)

      past : (p : ℕ) → length m.states ≤ p → get_or (valued value m).states p no_state ≡ no_state
      past p high = let same = size in get_or_past (valued value m).states p no_state (omega (arith, high, same))

      arc_at : (p k : ℕ) (a : Arc Cost ℕ) → slice_get ((graph_of (valued value m)).arcs p) k ≡ Some a → IsCost kind a.weight × InRange a.weight
      arc_at p k a at = by_place (cases_lt p (length m.states))
        where
          by_place : (p < length m.states) ⊎ (length m.states ≤ p) → IsCost kind a.weight × InRange a.weight
          by_place (inl low) = (all p low).arcs k a at
          by_place (inr high) = let none : slice_get {X = Arc Cost ℕ} [] k ≡ Some a = ap (λ (s : State Cost). slice_get s.arcs k) (sym (past p high)) ∙ at in absurd (cc)

      final : (p : ℕ) → IsCost kind ((graph_of (valued value m)).final p)
      final p = by_place (cases_lt p (length m.states))
        where
          by_place : (p < length m.states) ⊎ (length m.states ≤ p) → IsCost kind ((graph_of (valued value m)).final p)
          by_place (inl low) = (all p low).final
          by_place (inr high) = subst (λ (s : State Cost). IsCost kind s.final) (sym (past p high)) (zero_kind kind)
